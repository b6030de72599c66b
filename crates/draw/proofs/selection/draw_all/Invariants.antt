use Rattle.std.proofs.Common.{◌≡◌, ◌+◌, ◌≤◌, ◌++◌, vec_items, vec_len, vec_capacity}
use Rattle.draw.specs.declared.rows.By.TheVariants.{Head}
use Rattle.draw.specs.Rows.{all_back, total}
use Rattle.draw.specs.Order.{order, order_words}
use Rattle.draw.proofs.selection.draw_all.Given as goal

abbrev pub invariant-loop-place : goal.invariant-loop-place
invariant-loop-place g l =
    (l.selection.shares.ghost_name ≡ l.initial.selection.shares.ghost_name)
    × (all_back l.selection.shares.now ≡ all_back l.initial.selection.shares.now)
    × (vec_items l.places ++ order l.selection.shares.now l.retries (g.D.DrawSource.ahead l.source)
    ≡ vec_items l.initial.places ++ order l.initial.selection.shares.now l.retries (g.D.DrawSource.ahead l.initial.source))
    × (order_words l.selection.shares.now l.retries (g.D.DrawSource.ahead l.source)
    ≡ order_words l.initial.selection.shares.now l.retries (g.D.DrawSource.ahead l.initial.source))
    × (vec_len l.places + total Head l.selection.shares.now ≤ vec_capacity l.places)

abbrev pub decreases-loop-place : goal.decreases-loop-place
decreases-loop-place g l = total Head l.selection.shares.now
