use Rattle.std.proofs.Common.{◌≡◌, ◌++◌, take, drop}
use Rattle.draw.specs.Rows.{all_back}
use Rattle.draw.proofs.rows.put_back.Given as goal

abbrev pub invariant-loop-s : goal.invariant-loop-s
invariant-loop-s l = l.shares ≡ all_back (take l.s-index l.initial.shares) ++ drop l.s-index l.initial.shares
