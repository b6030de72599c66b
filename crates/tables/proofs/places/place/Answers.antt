use Rattle.std.proofs.Common.{rules, Less, Equal, Greater, sym, ◌∙◌, arith}
use Rattle.tables.proofs.Halving.{between_by, between_done, place_between}
use Rattle.tables.proofs.places.place.Goals as goal

pub loop-low-init : goal.loop-low-init
loop-low-init g c = (omega arith, omega arith, place_between _ c.args.rows.now)

pub loop-low-preserved-in-Less : goal.loop-low-preserved-in-Less
loop-low-preserved-in-Less g c = (
  omega arith,
  omega arith,
  c.loop-low.invariant.2 ∙ between_by _ c.args.rows.now c.loop-low.low c.loop-low.high c.index-rows-mid.result Less (omega arith) (omega arith) c.index-rows-mid.is (search rules),
)

pub returns-in-Equal : goal.returns-in-Equal
returns-in-Equal g c =
    record {
      value = sym (c.loop-low.invariant.2 ∙ between_by _ c.args.rows.now c.loop-low.low c.loop-low.high c.index-rows-mid.result Equal (omega arith) (omega arith) c.index-rows-mid.is (search rules));
      within = omega arith;
    }

pub loop-low-preserved : goal.loop-low-preserved
loop-low-preserved g c = (
  omega arith,
  omega arith,
  c.loop-low.invariant.2 ∙ between_by _ c.args.rows.now c.loop-low.low c.loop-low.high c.index-rows-mid.result Greater (omega arith) (omega arith) c.index-rows-mid.is (search rules),
)

pub returns : goal.returns
returns g c = record { value = sym (c.loop-low.invariant.2 ∙ between_done _ c.args.rows.now c.loop-low.low c.loop-low.high (omega arith)); within = omega arith }
