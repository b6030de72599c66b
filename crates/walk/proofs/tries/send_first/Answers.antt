use Rattle.std.proofs.Common.{◌≡◌, false, List, length, drop, None, vec_items, sym, ap, ◌∙◌, subst}
use Rattle.std.proofs.lemmas.List.{take_at}
use Rattle.draw.specs.declared.rows.Share.{Share}
use Rattle.tables.specs.Tables.{tab_of}
use Rattle.model.specs.Tries.{Fetched, limit}
use Rattle.model.specs.Fetches.{aims}
use Rattle.model.specs.Laws.{First, Quiet}
use Rattle.model.proofs.Firsts.{first}
use Rattle.model.proofs.Leasts.{least_heard}
use Rattle.model.proofs.Wholes.{tries_same}
use Rattle.walk.proofs.tries.send_first.Goals as goal

pub returns : goal.returns
returns g c =
    let r = c.args.roster.now in
    let k = c.args.keys.now in
    let word = g.L.Link.word c.args.link.now in
    let aim = aims g.P.Ordered g.K.Ordered (tab_of c.args.targets.now.table).rows in
    let w = g.D.DrawSource.ahead c.args.source.now in
    let after = c.walk.new.shares in
    let long : length after ≡ r.shares.rows.len = ap length c.walk.ensures.shares ∙ c.as_mut_slice.ensures.len in
    let same = take_at after (drop (length after) r.shares.rows.items) r.shares.rows.len long
    ∙ c.walk.ensures.shares ∙ c.as_mut_slice.ensures.value in
    let e = c.walk.ensures.told
    ∙ tries_same word c.args.time _ (vec_items r.peers.rows) (tab_of k.table).rows aim _ (vec_items r.shares.rows) _ (tab_of k.queue).rows w c.args.next.now
    c.rows-2.ensures c.as_mut_slice.ensures.value c.rows.ensures in
    let sent = ap (λ (f : Fetched g.row.P.Denot g.row.K.Denot). f.sent) e in
    let level : length (vec_items r.peers.rows) ≡ length (vec_items r.shares.rows) = sym r.beside in
    record {
      roster = ap (λ (l : List Share). record { peers = tab_of r.peers; shares = l }) same;
      told = e;
      unused = c.walk.ensures.unused;
      link = c.walk.ensures.link;
      first = subst (First word c.args.time (vec_items r.peers.rows) aim (vec_items r.shares.rows) (tab_of k.queue).rows) (sym sent)
          (first word c.args.time (vec_items r.peers.rows) (tab_of k.table).rows aim (vec_items r.shares.rows) r.shares.back level (tab_of k.queue).rows w c.args.next.now limit None false);
      quiet = subst (Quiet word c.args.time (vec_items r.peers.rows) aim (vec_items r.shares.rows) (tab_of k.queue).rows c.walk.result.sent) (sym (ap (λ (f : Fetched g.row.P.Denot g.row.K.Denot). f.wait) e))
          (least_heard word c.args.time (vec_items r.peers.rows) (tab_of k.table).rows aim (vec_items r.shares.rows) r.shares.back level (tab_of k.queue).rows w c.args.next.now limit c.walk.result.sent (sym sent));
    }
