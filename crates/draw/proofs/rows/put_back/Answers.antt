use Rattle.std.proofs.Common.{◌<◌, length, get_or, arith}
use Rattle.std.proofs.lemmas.List.{get_or_default}
use Rattle.std.proofs.lemmas.List.Edits.{map_over_more}
use Rattle.draw.specs.Rows.{back, nobody}
use Rattle.draw.proofs.rows.put_back.Goals as goal

pub loop-s-preserved : goal.loop-s-preserved
loop-s-preserved c =
    let i = c.loop-s.s-index in
    let xs = c.args.shares.now in
    let ys = c.loop-s.shares in
    let in-xs : i < length xs = omega arith in
    let in_ys : i < length ys = omega arith in
    map_over_more back xs ys i (get_or ys i nobody) in-xs c.loop-s.invariant (get_or_default ys i _ _ in_ys)
