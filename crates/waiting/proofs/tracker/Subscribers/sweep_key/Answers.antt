use Rattle.std.proofs.Common.{rules}
use Rattle.tables.proofs.Computed.{computed}
use Rattle.waiting.specs.Waits.{only}
use Rattle.waiting.proofs.tracker.Subscribers.sweep_key.Goals as goal

pub returns : goal.returns
returns g c f reads = computed (only g.K.Ordered c.args.key f) c.sweep.ensures (λ a r f' k. search (rules, reads))
