use Rattle.std.proofs.Common.{◌≡◌, drop}
use Rattle.tables.specs.Tables.{tab_of}
use Rattle.model.specs.Tries.{left_out}
use Rattle.model.specs.Fetches.{aims}
use Rattle.walk.proofs.allowed.leave_out.Given as goal

abbrev pub invariant-loop-i : goal.invariant-loop-i
invariant-loop-i g l =
    left_out (aims g.P.Ordered g.K.Ordered (tab_of l.targets.table).rows l.key) (drop l.i l.peers) l.i l.shares
    ≡ left_out (aims g.P.Ordered g.K.Ordered (tab_of l.targets.table).rows l.key) l.peers 0 l.initial.shares
