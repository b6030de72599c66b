-- What a caller may know of the numbers of slips.
use Rattle.std.proofs.Common.{◌≡◌, ℕ, zero, suc, ◌<◌, Bool, true, false, cond, ltb, List, is_some, Some, None, Option, refl, subst, ⊎_elim, ltb-true}
use Rattle.std.proofs.lemmas.Bool.{cases_Bool}
use Rattle.std.proofs.lemmas.Option.{none-some, same_Some}
use Rattle.trackers.specs.declared.slips.SlipRow.{SlipRow}
use Rattle.trackers.specs.Slips.{Slipped, slip_row, wrapped, number_after, number_first, free_from, next_slip}

is_none : {A : Type 0} (x : Option A) → is_some x ≡ false → x ≡ None
is_none None h = refl
is_none (Some a) h = cc

after_below : (b : Bool) (most n : ℕ) → ltb n most ≡ b → 0 < most → cond b n 0 < most
after_below true most n e l = ltb-true n most e
after_below false most n e l = l

module _ {K P : Type 0} (most : ℕ) (rows : List (SlipRow K P)) where
  -- a number that is given was not outstanding
  free_free : (steps n m : ℕ) → free_from most rows steps n ≡ Some m → slip_row m rows ≡ None
  unfolding free_from
  free_free zero n m e = absurd (none-some m e)
  free_free (suc steps) n m e =
      ⊎_elim
      (λ b. free_free steps (number_after most n) m (rw b at e))
      (λ b. subst (λ x. slip_row x rows ≡ None) (same_Some n m (rw b at e)) (is_none (slip_row n rows) b))
      (cases_Bool (is_some (slip_row n rows)))

  -- and is below the number of rows
  free_below : (steps n m : ℕ) → 0 < most → n < most → free_from most rows steps n ≡ Some m → m < most
  unfolding free_from
  free_below zero n m l h e = absurd (none-some m e)
  free_below (suc steps) n m l h e =
      ⊎_elim
      (λ b. free_below steps (number_after most n) m l (after_below (ltb (wrapped n) most) most (wrapped n) refl l) (rw b at e))
      (λ b. subst (λ x. x < most) (same_Some n m (rw b at e)) h)
      (cases_Bool (is_some (slip_row n rows)))

first_below : (most : ℕ) (last : Option ℕ) → 0 < most → number_first most last < most
first_below most None l = l
first_below most (Some n) l = after_below (ltb (wrapped n) most) most (wrapped n) refl l

pub next_free : {K P : Type 0} (t : Slipped K P) (n : ℕ) → next_slip t ≡ Some n → slip_row n t.rows.rows ≡ None
next_free t n e = free_free t.rows.most t.rows.rows t.rows.most (number_first t.rows.most t.last) n e

pub next_below : {K P : Type 0} (t : Slipped K P) (n : ℕ) → 0 < t.rows.most → next_slip t ≡ Some n → n < t.rows.most
next_below t n l e = free_below t.rows.most t.rows.rows t.rows.most (number_first t.rows.most t.last) n l (first_below t.rows.most t.last l) e
