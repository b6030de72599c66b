use Rattle.std.proofs.Common.{◌≡◌, ◌-◌, ◌≤◌, Bool, length}
use Rattle.tables.specs.Rows.{between}
use Rattle.waiting.specs.Calls.{Gives}
use Rattle.waiting.specs.Groups.{turn, index, bound_of}
use Rattle.waiting.proofs.rows.bound.Given as goal

abbrev pub invariant-loop-low : goal.invariant-loop-low
invariant-loop-low g l =
    (l.low ≤ l.high) × (l.high ≤ length l.rows)
    × ((before : _ → Bool) → Gives g.F.Fn before l.comes_before → bound_of before l.rows ≡ index (between (λ r. turn (before r)) l.rows l.low l.high))

abbrev pub decreases-loop-low : goal.decreases-loop-low
decreases-loop-low g l = l.high - l.low
