use Rattle.std.proofs.Common.{rules}
use Rattle.tables.proofs.Computed.{computed}
use Rattle.waiting.specs.Waits.{retains}
use Rattle.waiting.proofs.tracker.Subscribers.retain.Goals as goal

pub returns : goal.returns
returns g c = computed (retains (g.W.Rule.keeps c.args.rule.now)) c.sweep.ensures (λ a r f' k. search rules)
