use Rattle.std.proofs.Common.{◌≡◌, ◌+◌, ◌≤◌, Bool, length}
use Rattle.waiting.specs.Calls.{Gives}
use Rattle.waiting.specs.News.{new_of}
use Rattle.waiting.proofs.pairs.count_new.Given as goal

abbrev pub invariant-loop-x : goal.invariant-loop-x
invariant-loop-x g l =
    (l.count + length l.rest ≤ length l.fn.list)
    × ((known : _ → Bool) → Gives g.F.Fn known l.has → l.count + new_of g.X.Ordered.order known l.rest ≡ new_of g.X.Ordered.order known l.fn.list)

abbrev pub decreases-loop-x : goal.decreases-loop-x
decreases-loop-x g l = length l.rest
