use Rattle.std.proofs.Common.{rules}
use Rattle.std.proofs.Common.{Some}
use Rattle.live.specs.Queues.{queue_row, earlier, past}
use Rattle.tables.proofs.Computed.{best_is}
use Rattle.live.proofs.keys.LiveKeys.next_queued.Goals as goal

pub returns : goal.returns
returns g c = best_is _ (λ r. past g.K.Ordered (Some c.args.last) (queue_row r)) (earlier g.K.Ordered) c.best.ensures c.rows-rows.ensures (λ a r f k. search rules) (λ a r f k. search rules)
