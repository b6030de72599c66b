-- A list in which each value is less than the next is in order.
use Rattle.std.proofs.Common.{◌≡◌, ℕ, zero, suc, ◌+◌, ◌<◌, Bool, true, false, ◌&&◌, List, [], ◌∷◌, length, get_or, Ordering, refl, sym, arith}
use Rattle.std.specs.List.{AllAdjacentBelow, IsAllAdjacentAnswer}
use Rattle.std.specs.Ordering.{is_lt}
use Rattle.tables.specs.Lists.{ordered_from, ordered}

and_false : (b : Bool) → (b && false) ≡ false
and_false true = refl
and_false false = refl

one_up : (k : ℕ) → suc k + 1 ≡ suc (k + 1)
one_up k = omega arith

module _ {T : Type 0} (order : T → T → Ordering) where
  in_order : (xs : List T) → AllAdjacentBelow (λ x y. true ≡ is_lt (order x y)) xs (length xs) → ordered order xs ≡ true
  unfolding ordered_from
  in_order [] h = refl
  in_order (x ∷ []) h = refl
  in_order (x ∷ y ∷ ys) h = rw (sym (h 0 x (omega arith))) (in_order (y ∷ ys) (λ k d l. let m = h (suc k) d (omega arith) in rw (one_up k) at m))

  out_of_order : (xs : List T) (k : ℕ) → k + 1 < length xs → ((d : T) → false ≡ is_lt (order (get_or xs k d) (get_or xs (k + 1) d))) → ordered order xs ≡ false
  unfolding ordered_from
  out_of_order [] k l h = absurd (omega arith)
  out_of_order (x ∷ []) k l h = absurd (omega arith)
  out_of_order (x ∷ y ∷ ys) zero l h = rw (sym (h x)) refl
  out_of_order (x ∷ y ∷ ys) (suc k) l h = rw (out_of_order (y ∷ ys) k (omega arith) (λ d. let m = h d in rw (one_up k) at m)) (and_false (is_lt (order x y)))

  -- what `is_sorted_by` answers
  pub adjacent : (xs : List T) (r : Bool) → IsAllAdjacentAnswer (λ x y b. b ≡ is_lt (order x y)) xs r → r ≡ ordered order xs
  adjacent xs true h = sym (in_order xs h)
  adjacent xs false h = sym (out_of_order xs h.0 h.1 h.2)
