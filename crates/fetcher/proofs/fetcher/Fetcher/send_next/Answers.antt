use Rattle.std.proofs.Common.{◌≡◌, false, None, ap, ◌∙◌, subst}
use Rattle.tables.specs.Tables.{Tab, tab_of, emptied}
use Rattle.roster.specs.Rosters.{roster_of}
use Rattle.live.specs.declared.row.KeyRow.{KeyRow}
use Rattle.live.specs.declared.queue.QueueRow.{QueueRow}
use Rattle.model.specs.Tries.{Fetched, Unused, told, try_keys, limit}
use Rattle.model.specs.Laws.{First, Quiet}
use Rattle.model.specs.Fetches.{aims, queue, fetched}
use Rattle.model.proofs.Listings.{emptied_all, next_is}
use Rattle.fetcher.specs.View.{fet_of}
use Rattle.fetcher.proofs.fetcher.Fetcher.send_next.Goals as goal

pub returns : goal.returns
unfolding fetched
returns g c =
    let f = fet_of c.args.self.now in
    let word = g.L.Link.word c.args.link.now in
    let aim = aims g.P.Ordered g.K.Ordered f.targets.rows in
    let w = g.D.DrawSource.ahead c.args.source.now in
    let t = c.list.ensures.table in
    let q = c.list.ensures.queue in
    let e : told c.send_first.result (g.D.DrawSource.ahead c.send_first.new.source) c.send_first.new.next ≡ fetched g.P.Ordered g.K.Ordered word c.args.time w f =
    c.send_first.ensures.told
    ∙ ap (λ (x : Tab (KeyRow g.row.K.Denot g.row.P.Denot)). try_keys word c.args.time f.roster.peers.rows x.rows aim f.roster.shares (tab_of c.list.new.self.queue).rows w f.next limit None false) t
    ∙ ap (λ (x : Tab (QueueRow g.row.K.Denot)). try_keys word c.args.time f.roster.peers.rows f.keys.rows aim f.roster.shares x.rows w f.next limit None false) q in
    record {
      sent = ap (λ (r : Fetched g.row.P.Denot g.row.K.Denot). r.sent) e;
      late = ap (λ (r : Fetched g.row.P.Denot g.row.K.Denot). r.late) e;
      wait = ap (λ (r : Fetched g.row.P.Denot g.row.K.Denot). r.wait) e;
      allowed = ap (λ (r : Fetched g.row.P.Denot g.row.K.Denot). r.allowed) e;
      words = ap (λ (r : Fetched g.row.P.Denot g.row.K.Denot). r.words) e;
      state = next_is f (roster_of c.send_first.new.roster) (tab_of c.list.new.self.table) (emptied (tab_of c.list.new.self.queue)) c.send_first.new.next _
          c.send_first.ensures.roster t (ap emptied q ∙ emptied_all g.K.Ordered f.keys.rows f.listing) (ap (λ (r : Fetched g.row.P.Denot g.row.K.Denot). r.next) e);
      unused = subst (λ (x : Tab (KeyRow g.row.K.Denot g.row.P.Denot)). Unused x.rows c.send_first.result.sent) t c.send_first.ensures.unused;
      link = c.send_first.ensures.link;
      first = subst (λ (x : Tab (QueueRow g.row.K.Denot)). First word c.args.time f.roster.peers.rows aim f.roster.shares x.rows c.send_first.result.sent) q c.send_first.ensures.first;
      quiet = subst (Quiet word c.args.time f.roster.peers.rows aim f.roster.shares (queue g.K.Ordered f) c.send_first.result.sent) (ap (λ (r : Fetched g.row.P.Denot g.row.K.Denot). r.wait) e)
          (subst (λ (x : Tab (QueueRow g.row.K.Denot)). Quiet word c.args.time f.roster.peers.rows aim f.roster.shares x.rows c.send_first.result.sent c.send_first.result.wait) q c.send_first.ensures.quiet);
    }
