use Rattle.std.proofs.Common.{◌≡◌, ◌-◌, ◌≤◌, length}
use Rattle.tables.specs.Rows.{between, place_of}
use Rattle.tables.proofs.places.place.Given as goal

abbrev pub invariant-loop-low : goal.invariant-loop-low
invariant-loop-low g l =
    (l.low ≤ l.high) × (l.high ≤ length l.rows)
    × (place_of g.R.Key.Ordered.order g.R.Row.key_of l.key l.rows ≡ between (λ r. g.R.Key.Ordered.order (g.R.Row.key_of r) l.key) l.rows l.low l.high)

abbrev pub decreases-loop-low : goal.decreases-loop-low
decreases-loop-low g l = l.high - l.low
