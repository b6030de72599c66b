use Rattle.tables.specs.Rows.{Lawful}
use Rattle.tables.proofs.Lawfuls.{kind_lawful}
use Rattle.laws.proofs.Weighings.{weights}
use Rattle.laws.proofs.weights_stand.Goals as goal

pub returns : goal.returns
returns g c =
    let o : Lawful g.P.Ordered.order = kind_lawful g.met.P.Ord.total g.met.P.Ordered.compares g.met.P.Ordered.same in
    weights g.P.Ordered o g.V.Rating g.row.K.Denot
