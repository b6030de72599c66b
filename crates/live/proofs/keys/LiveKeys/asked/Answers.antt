use Rattle.std.proofs.Common.{rules}
use Rattle.live.specs.Requests.{asked_in}
use Rattle.tables.proofs.Computed.{first_is}
use Rattle.live.proofs.keys.LiveKeys.asked.Goals as goal

pub returns : goal.returns
returns g c = first_is _ (asked_in g.P.Ordered c.args.id c.args.peer) c.first.ensures c.rows.ensures (λ a r f k. search rules)
