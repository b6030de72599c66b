use Rattle.std.proofs.Common.{◌≡◌, length}
use Rattle.roster.specs.Peers.{from_peer}
use Rattle.roster.proofs.join.row_of.Given as goal

abbrev pub invariant-loop-row : goal.invariant-loop-row
invariant-loop-row g l = from_peer g.P.Ordered l.peer l.rest ≡ from_peer g.P.Ordered l.peer l.old

abbrev pub decreases-loop-row : goal.decreases-loop-row
decreases-loop-row g l = length l.rest
