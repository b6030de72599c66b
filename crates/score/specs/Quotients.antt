-- The quotient in steps is the plain one, and no weight passes the greatest.
use Rattle.std.specs.Prelude.{◌≡◌, ℕ, ◌*◌, ◌/◌, ◌≤◌, Some, None, Option}
use Rattle.std.proofs.Common.{ap, ◌∙◌, arith, mul_comm, div-le_self}
use Rattle.std.proofs.Math.Nat.{div-div-eq-div-mul}
use Rattle.score.specs.Bounds.{most_bytes, most_weight, fraction, nanoseconds}
use Rattle.score.specs.Means.{weighed}
use Rattle.score.specs.Scores.{weight_of}
use Rattle.score.specs.declared.means.Means.{Means}

pub quotient_steps : (m t : ℕ) → m * nanoseconds / fraction / t ≡ m * nanoseconds / (t * fraction)
quotient_steps m t =
    div-div-eq-div-mul (m * nanoseconds) fraction t ∙ ap (λ n. m * nanoseconds / n) (mul_comm fraction t)

pub weighed_most : (m t : ℕ) → m ≤ most_bytes * fraction → weighed m t ≤ most_weight
weighed_most m t h =
    let e = quotient_steps m t in
    omega (arith, div-le_self (m * nanoseconds / fraction) t, e)

pub bounded : (o : Option Means) → weight_of o ≤ most_weight
bounded None = omega arith
bounded (Some m) = weighed_most m.size m.time m.short
