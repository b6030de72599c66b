-- What is found by going over rows.
use Rattle.std.specs.Prelude.{Bool, cond, List, [], ◌∷◌, Some, None, Option}

abbrev pub or_else : {A : Type 0} → Option A → Option A → Option A
or_else None y = y
or_else (Some x) y = Some x

-- what is found in the first row in which something is found
unfoldable pub first_of : {R A : Type 0} → (R → Option A) → List R → Option A
first_of f [] = None
first_of f (r ∷ rs) = or_else (f r) (first_of f rs)

-- the one of two that comes first; the older one where neither does
abbrev pub better : {A : Type 0} → (A → A → Bool) → Option A → Option A → Option A
better ahead best None = best
better ahead None (Some a) = Some a
better ahead (Some b) (Some a) = cond (ahead a b) (Some a) (Some b)

-- the one that comes first of `best` and of those found in the rows
unfoldable pub best_from : {R A : Type 0} → (A → A → Bool) → (R → Option A) → Option A → List R → Option A
best_from ahead f best [] = best
best_from ahead f best (r ∷ rs) = best_from ahead f (better ahead best (f r)) rs

abbrev pub best_of : {R A : Type 0} → (A → A → Bool) → (R → Option A) → List R → Option A
best_of ahead f rows = best_from ahead f None rows
