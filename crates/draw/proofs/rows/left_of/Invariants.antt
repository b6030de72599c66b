use Rattle.std.proofs.Common.{◌≡◌, ◌+◌, drop}
use Rattle.draw.specs.declared.rows.By.TheVariants.{Weight, Head}
use Rattle.draw.specs.Rows.{total}
use Rattle.draw.proofs.rows.left_of.Given as goal

abbrev pub invariant-loop-s : goal.invariant-loop-s
invariant-loop-s l =
    (l.weight + total Weight (drop l.s-index l.shares) ≡ total Weight l.shares)
    × (l.heads + total Head (drop l.s-index l.shares) ≡ total Head l.shares)
