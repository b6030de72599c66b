-- One row more of what is defined along a list.
use Rattle.std.proofs.Common.{◌≡◌, ℕ, suc, ◌+◌, ◌-◌, ◌<◌, ◌≤◌, Bool, List, [], ◌∷◌, ◌++◌, length, get_or, take, drop, Option, sym, refl, ap, ◌∙◌, append_assoc, add-one, arith, length-drop}
use Rattle.std.proofs.Math.ListN.{drop_of_length-le}
use Rattle.std.proofs.Math.Seq.{drop-cons}
use Rattle.std.proofs.lemmas.List.{append-nil, take_all}
use Rattle.tables.specs.Only.{only, only_rows}
use Rattle.tables.specs.Scans.{better, best_from}

-- the value at i comes next
pub peel : {X : Type 0} (xs : List X) (i : ℕ) (x : X) → i < length xs → x ≡ get_or xs i x → drop i xs ≡ x ∷ drop (i + 1) xs
peel xs i x l e = rw (add-one i) (drop-cons xs i x l ∙ ap (λ y. y ∷ drop (suc i) xs) (sym e))

-- nothing is left
pub spent : {X : Type 0} (xs : List X) (i : ℕ) → length xs ≤ i → drop i xs ≡ []
spent xs i l = drop_of_length-le xs l

pub append_none : {X : Type 0} (xs : List X) → xs ++ [] ≡ xs
append_none xs = append-nil xs

-- a value made from the next one and put at the end of what is made
pub made_over : {X Y : Type 0} (F : List X → List Y) (made all : List Y) (xs : List X) (i : ℕ) (x : X) (y : Y) → i < length xs → x ≡ get_or xs i x
    → F (x ∷ drop (i + 1) xs) ≡ y ∷ F (drop (i + 1) xs) → made ++ F (drop i xs) ≡ all → (made ++ y ∷ []) ++ F (drop (i + 1) xs) ≡ all
made_over F made all xs i x y l e step h = append_assoc made (y ∷ []) (F (drop (i + 1) xs)) ∙ (ap (λ t. made ++ t) (sym step) ∙ (ap (λ t. made ++ F t) (sym (peel xs i x l e)) ∙ h))

pub made_all : {X Y : Type 0} (F : List X → List Y) (made all : List Y) (xs : List X) (i : ℕ) → F [] ≡ [] → length xs ≤ i → made ++ F (drop i xs) ≡ all → made ≡ all
made_all F made all xs i none l h = sym (append_none made) ∙ (ap (λ t. made ++ t) (sym none) ∙ (ap (λ t. made ++ F t) (sym (spent xs i l)) ∙ h))

pub only_more : {K : Type 0} (k : K) (ks : List K) → only_rows (k ∷ ks) ≡ only k ∷ only_rows ks
unfolding only_rows
only_more k ks = refl

pub only_none : {K : Type 0} → only_rows {K = K} [] ≡ []
unfolding only_rows
only_none = refl

-- what `&xs[k..]` is
pub rest_is : {X : Type 0} (xs : List X) (k : ℕ) → take (length xs - k) (drop k xs) ≡ drop k xs
rest_is xs k = take_all (length xs - k) (drop k xs) (simp length-drop (omega arith))

module _ {R A : Type 0} (f : R → Option A) (xs : List R) (i : ℕ) where
  pub best_more : (ahead : A → A → Bool) (best : Option A) (x : R) → i < length xs → x ≡ get_or xs i x → best_from ahead f best (drop i xs) ≡ best_from ahead f (better ahead best (f x)) (drop (i + 1) xs)
  unfolding best_from
  best_more ahead best x l e = rw (peel xs i x l e) refl

  pub best_end : (ahead : A → A → Bool) (best : Option A) → length xs ≤ i → best_from ahead f best (drop i xs) ≡ best
  unfolding best_from
  best_end ahead best l = rw (spent xs i l) refl
