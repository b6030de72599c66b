use Rattle.std.proofs.Common.{rules}
use Rattle.std.specs.Ordering.{is_lt}
use Rattle.std.proofs.lemmas.Fn.{always_returns_same}
use Rattle.tables.proofs.Adjacent.{adjacent}
use Rattle.tables.proofs.lists.in_order.Goals as goal

pub returns : goal.returns
returns g c =
    adjacent g.T.Ordered.order c.args.list.now c.is_sorted_by.result
    (c.is_sorted_by.ensures.cases (λ x y. is_lt (g.T.Ordered.order x y)) (always_returns_same _ _ _ (λ a r f k. search rules)))
