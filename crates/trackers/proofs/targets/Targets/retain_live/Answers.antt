use Rattle.std.proofs.Common.{rules}
use Rattle.tables.specs.Tables.{tab_of}
use Rattle.tables.proofs.Computed.{computed}
use Rattle.trackers.specs.Lives.{live_target}
use Rattle.trackers.proofs.targets.Targets.retain_live.Goals as goal

pub returns : goal.returns
returns g c = computed (live_target g.K.Ordered (tab_of c.args.keys.now.table).rows) c.sweep.ensures (λ a r f' k. search rules)
