use Rattle.std.proofs.Common.{rules}
use Rattle.tables.specs.Tables.{tab_of}
use Rattle.tables.proofs.Computed.{computed}
use Rattle.trackers.specs.Lives.{live_key}
use Rattle.trackers.proofs.keeping.retain_waited.Goals as goal

pub returns-clause-table : goal.returns-clause-table
returns-clause-table g c = computed (live_key g.K.Ordered (tab_of c.args.waiting.now.table).rows) c.sweep.ensures (λ a r f' k. search rules)
