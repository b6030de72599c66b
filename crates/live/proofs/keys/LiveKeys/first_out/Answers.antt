use Rattle.std.proofs.Common.{rules}
use Rattle.live.specs.Requests.{out_of, sooner}
use Rattle.tables.proofs.Computed.{best_is}
use Rattle.live.proofs.keys.LiveKeys.first_out.Goals as goal

pub returns : goal.returns
returns g c = best_is _ (out_of c.args.timeout) sooner c.best.ensures c.rows-rows.ensures (λ a r f k. search rules) (λ a r f k. search rules)
