use Rattle.std.proofs.Common.{rules}
use Rattle.live.specs.Queues.{queue_row, earlier}
use Rattle.tables.proofs.Computed.{best_is}
use Rattle.live.proofs.keys.LiveKeys.first_queued.Goals as goal

pub returns : goal.returns
returns g c = best_is _ queue_row (earlier g.K.Ordered) c.best.ensures c.rows.ensures (λ a r f k. search rules) (λ a r f k. search rules)
