use Rattle.std.proofs.Common.{◌≡◌, ◌-◌, rules, arith}
use Rattle.waiting.specs.Groups.{bound_of, below, up_to}
use Rattle.waiting.proofs.rows.rows_of.Goals as goal

pub returns : goal.returns
returns g c =
    let from = c.bound-start.ensures.value (below g.K.Ordered c.args.key) (λ x r h. search rules) in
    let to = c.bound-end.ensures.value (up_to g.K.Ordered c.args.key) (λ x r h. search rules) in
    let size : c.max.result - c.bound-start.result ≡ bound_of (up_to g.K.Ordered c.args.key) c.args.rows.now - bound_of (below g.K.Ordered c.args.key) c.args.rows.now = omega (arith, from, to) in
    cc
