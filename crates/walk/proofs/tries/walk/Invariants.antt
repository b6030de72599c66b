use Rattle.std.proofs.Common.{◌≡◌, ◌^◌, ◌<◌, length, drop, None}
use Rattle.draw.specs.declared.rows.By.TheVariants.{Head}
use Rattle.draw.specs.Rows.{all_back, total, heft}
use Rattle.tables.specs.Tables.{tab_of}
use Rattle.model.specs.Tries.{try_rows, try_keys}
use Rattle.model.specs.Fetches.{aims}
use Rattle.walk.proofs.tries.walk.Given as goal

abbrev pub invariant-peers : goal.invariant-peers
invariant-peers g l =
    (l.selection.shares.ghost_name ≡ l.initial.selection.shares.ghost_name)
    × (all_back l.selection.shares.now ≡ all_back l.initial.selection.shares.now)
    × (l.link ≡ l.initial.link)
    × (l.sent ≡ l.initial.sent)
    × (heft l.selection.shares.now < 2 ^ 64)
    × (length l.selection.shares.now ≡ length l.peers)
    × (try_rows (g.L.Link.word l.initial.link) l.time l.peers (tab_of l.out.table).rows l.selection.shares.now l.row.retries (g.D.DrawSource.ahead l.source) l.next l.wait l.allowed
    ≡ try_rows (g.L.Link.word l.initial.link) l.time l.peers (tab_of l.out.table).rows l.initial.selection.shares.now l.row.retries (g.D.DrawSource.ahead l.initial.source) l.initial.next l.initial.wait l.initial.allowed)

abbrev pub decreases-peers : goal.decreases-peers
decreases-peers g l = total Head l.selection.shares.now

abbrev pub invariant-keys : goal.invariant-keys
invariant-keys g l =
    (l.shares ≡ l.initial.shares)
    × (l.link ≡ l.initial.link)
    × (l.sent ≡ None)
    × (try_keys (g.L.Link.word l.initial.link) l.time l.peers (tab_of l.out.table).rows (aims g.P.Ordered g.K.Ordered (tab_of l.targets.table).rows) l.initial.shares (drop l.row-index l.queue) (g.D.DrawSource.ahead l.source) l.next l.late l.wait l.allowed
    ≡ try_keys (g.L.Link.word l.initial.link) l.time l.peers (tab_of l.out.table).rows (aims g.P.Ordered g.K.Ordered (tab_of l.targets.table).rows) l.initial.shares l.queue (g.D.DrawSource.ahead l.initial.source) l.initial.next l.initial.late l.initial.wait l.initial.allowed)
