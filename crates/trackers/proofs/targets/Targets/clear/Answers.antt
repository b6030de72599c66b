use Rattle.std.proofs.Common.{rules}
use Rattle.tables.proofs.Computed.{computed}
use Rattle.trackers.specs.Targets.{off_key}
use Rattle.trackers.proofs.targets.Targets.clear.Goals as goal

pub returns : goal.returns
returns g c = computed (off_key g.K.Ordered c.args.key) c.sweep.ensures (λ a r f' k. search rules)
