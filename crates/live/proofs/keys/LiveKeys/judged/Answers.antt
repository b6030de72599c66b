use Rattle.std.proofs.Common.{rules}
use Rattle.live.specs.Requests.{under_in}
use Rattle.tables.proofs.Computed.{first_is}
use Rattle.live.proofs.keys.LiveKeys.judged.Goals as goal

pub returns : goal.returns
returns g c = first_is _ (under_in c.args.slip) c.first.ensures c.rows.ensures (λ a r f k. search rules)
