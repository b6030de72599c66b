use Rattle.std.proofs.Common.{◌≡◌, ◌+◌, ◌-◌, ◌<◌, ◌≤◌, drop}
use Rattle.draw.specs.Rows.{total, reach}
use Rattle.draw.proofs.rows.place_of.Given as goal

abbrev pub invariant-loop-i : goal.invariant-loop-i
invariant-loop-i l = record {
  below : l.left < total l.by (drop l.i l.shares);
  reached : l.i + reach l.by (l.x - l.left) (drop l.i l.shares) l.x ≡ reach l.by 0 l.shares l.x;
  part : l.left ≤ l.x;
}
