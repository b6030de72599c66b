use Rattle.std.proofs.Common.{rules}
use Rattle.std.proofs.Common.{ap, ◌∙◌, is_some}
use Rattle.live.specs.Requests.{id_in}
use Rattle.tables.proofs.Computed.{first_is}
use Rattle.live.proofs.keys.LiveKeys.is_out.Goals as goal

pub returns : goal.returns
returns g c = c.is_some.ensures ∙ ap is_some (first_is _ (id_in c.args.id) c.first.ensures c.rows.ensures (λ a r f k. search rules))
