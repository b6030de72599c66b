use Rattle.laws.proofs.Wakings.{waits}
use Rattle.laws.proofs.waiter_stands.Goals as goal

pub returns : goal.returns
returns g c = λ f. waits g.P.Ordered g.K.Ordered f
