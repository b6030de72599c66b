-- The words ahead of a list once its first is taken.
use Rattle.std.proofs.Common.{◌≡◌, ℕ, suc, ◌+◌, ◌%◌, ◌^◌, List, [], ◌∷◌, length, slice_index, sym, refl, ap, ◌∙◌, subst, arith}
use Rattle.std.proofs.Math.Path.{fun_ext}
use Rattle.draw.specs.Words.{later, listed}
use Rattle.draw.specs.Fits.{listed_later, listed_over}

pub after_some : (x : ℕ) (old new : List ℕ) → old ≡ x ∷ new → listed new 0 ≡ later (listed old 0)
after_some x old new e =
    rw e (fun_ext (λ k. ap (λ m. slice_index (x ∷ new) m % 2 ^ 64) (let p : suc (0 + k) ≡ 0 + 1 + k = omega arith in p)) ∙ listed_later (x ∷ new) 0)

empty : (xs : List ℕ) → length xs ≡ 0 → xs ≡ []
empty [] h = refl
empty (x ∷ xs) h = cc

-- where only zeros follow
pub after_none : (old new : List ℕ) → length old ≡ 0 → length new ≡ 0 → listed new 0 ≡ later (listed old 0)
after_none old new o n = subst (λ l. listed new 0 ≡ later (listed l 0)) (empty new n ∙ sym (empty old o)) (listed_over new 0 (omega (arith, n)))
