-- New pairs.
use Rattle.std.specs.Prelude.{ℕ, ◌+◌, Bool, cond, ◌||◌, List, [], ◌∷◌}
use Rattle.std.specs.declared.cmp.Ordering.{Ordering}
use Rattle.std.specs.List.{list_any}
use Rattle.std.specs.Ordering.{is_eq}

-- a value is in a list
abbrev pub among : {X : Type 0} → (X → X → Ordering) → X → List X → Bool
among order x xs = list_any (λ y. is_eq (order y x)) xs

-- how many of a list are new; one that is repeated counts where it stands last
unfoldable pub new_of : {X : Type 0} → (X → X → Ordering) → (X → Bool) → List X → ℕ
new_of order has [] = 0
new_of order has (x ∷ xs) = cond (has x || among order x xs) 0 1 + new_of order has xs
