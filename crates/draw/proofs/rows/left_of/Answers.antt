use Rattle.std.proofs.Common.{arith}
use Rattle.std.proofs.lemmas.List.{at_drop_more}
use Rattle.draw.specs.declared.rows.By.TheVariants.{Weight, Head}
use Rattle.draw.specs.Rows.{total, nobody}
use Rattle.draw.proofs.Picks.{total_le}
use Rattle.draw.proofs.rows.left_of.Goals as goal

pub overflow_add-weight : goal.overflow_add-weight
overflow_add-weight c =
    let step = at_drop_more (total Weight) c.args.shares.now c.loop-s.s-index nobody (omega arith) in
    omega (arith, step, total_le Weight c.args.shares.now)

pub overflow_add-heads : goal.overflow_add-heads
overflow_add-heads c =
    let step = at_drop_more (total Head) c.args.shares.now c.loop-s.s-index nobody (omega arith) in
    omega (arith, step, total_le Head c.args.shares.now)
