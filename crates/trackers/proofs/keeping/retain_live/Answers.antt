use Rattle.std.proofs.Common.{rules}
use Rattle.tables.specs.Tables.{tab_of}
use Rattle.tables.proofs.Computed.{computed}
use Rattle.trackers.specs.Lives.{live_wait}
use Rattle.trackers.proofs.keeping.retain_live.Goals as goal

pub returns : goal.returns
returns g c = computed (live_wait g.K.Ordered (tab_of c.args.keys.now.table).rows) c.sweep.ensures (λ a r f' k. search rules)
