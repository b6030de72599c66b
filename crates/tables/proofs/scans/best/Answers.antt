use Rattle.std.proofs.Common.{sym, ◌∙◌, arith, of_calls}
use Rattle.tables.proofs.Computed.{computes}
use Rattle.tables.proofs.Steps.{best_more, best_end}
use Rattle.tables.proofs.scans.best.Goals as goal

pub loop-row-preserved : goal.loop-row-preserved
loop-row-preserved g c = (
  search of_calls,
  λ a. c.better-best.ensures.callable,
  λ f p k h.
      let v = c.loop-row.invariant.2 f p k h in
      let d = computes f v.0 c.find.ensures in
      let m = best_more f c.args.rows.now c.loop-row.row-index p c.loop-row.best c.row-item.result (omega arith) c.row-item.is in
      let b = c.better-best.ensures.better p v.1 in
      let e = d.0 in
      (d.1, c.better-best.ensures.computes p v.1, cc),
)

pub returns : goal.returns
returns g c f p k h =
    let v = c.loop-row.invariant.2 f p k h in
    sym (best_end f c.args.rows.now c.loop-row.row-index p c.loop-row.best (omega arith)) ∙ v.2
