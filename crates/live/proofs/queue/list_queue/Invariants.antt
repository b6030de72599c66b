use Rattle.std.proofs.Common.{◌≡◌, drop}
use Rattle.tables.specs.Tables.{tab_of}
use Rattle.live.specs.Queues.{queue_on}
use Rattle.live.proofs.queue.list_queue.Given as goal

abbrev pub invariant-loop-row : goal.invariant-loop-row
invariant-loop-row g l =
    queue_on g.K.Ordered (tab_of l.queue) (drop l.row-index l.rows) ≡ queue_on g.K.Ordered (tab_of l.initial.queue) l.rows
