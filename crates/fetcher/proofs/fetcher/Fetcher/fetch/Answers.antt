use Rattle.std.proofs.Common.{Option, sym, ap, ◌∙◌}
use Rattle.link.specs.declared.words.Message.{Message}
use Rattle.tables.specs.Rows.{Lawful}
use Rattle.tables.proofs.Lawfuls.{kind_lawful}
use Rattle.model.specs.Fet.{Fet}
use Rattle.model.specs.Fetches.{sent_in}
use Rattle.model.proofs.Fairs.{sends_first, moves_one}
use Rattle.fetcher.specs.View.{fet_of}
use Rattle.fetcher.proofs.fetcher.Fetcher.fetch.Goals as goal

pub returns : goal.returns
returns g c =
    let f = fet_of c.args.self.now in
    let e = c.send_due.ensures in
    let o : Lawful g.K.Ordered.order = kind_lawful g.met.K.Ord.total g.met.K.Ordered.compares g.met.K.Ordered.same in
    record {
      answer = e.answer;
      words = e.words;
      state = e.state;
      unused = e.unused;
      link = e.link;
      quiet = e.quiet;
      law = λ h.
          let s = sends_first g.P.Ordered g.K.Ordered o (g.L.Link.word c.args.link.now) c.args.time f h c.send_due.result e.first in (
            s,
            moves_one g.P.Ordered g.K.Ordered o (g.L.Link.word c.args.link.now) c.args.time f h c.send_due.result (fet_of c.send_due.new.self) s
                (ap (λ (x : Fet g.row.P.Denot g.row.V.Denot g.row.K.Denot). x.keys) e.state
                ∙ ap (λ (x : Option (Message g.row.P.Denot g.row.K.Denot)). sent_in g.K.Ordered x c.args.time f.keys) (sym e.answer)),
          );
    }
