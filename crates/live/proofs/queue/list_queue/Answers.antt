use Rattle.std.proofs.Common.{sym, ap, ◌∙◌, arith}
use Rattle.tables.specs.Tables.{tab_of}
use Rattle.live.specs.Queues.{queue_on}
use Rattle.live.proofs.Steps.{queue_more, queue_end}
use Rattle.live.proofs.queue.list_queue.Goals as goal

pub loop-row-preserved : goal.loop-row-preserved
loop-row-preserved g c =
    let m = queue_more g.K.Ordered (tab_of c.loop-row.queue) c.args.rows.now c.loop-row.row-index c.row-item.result (omega arith) c.row-item.is in
    cc

pub returns : goal.returns
returns g c =
    sym (queue_end g.K.Ordered (tab_of c.loop-row.queue) c.args.rows.now c.loop-row.row-index (omega arith))
    ∙ (c.loop-row.invariant ∙ ap (λ t. queue_on g.K.Ordered t c.args.rows.now) c.clear.ensures)
