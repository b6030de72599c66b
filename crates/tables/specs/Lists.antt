-- Lists in order.
use Rattle.std.specs.Prelude.{ℕ, Bool, true, ◌&&◌, List, [], ◌∷◌, length, Some, None, Option, nat_le}
use Rattle.std.specs.declared.cmp.Ordering.{Ordering}
use Rattle.std.specs.Ordering.{is_lt}

-- a value comes after the last one, if there is one
abbrev pub after : {T : Type 0} → (T → T → Ordering) → Option T → T → Bool
after order None x = true
after order (Some y) x = is_lt (order y x)

unfoldable pub ordered_from : {T : Type 0} → (T → T → Ordering) → Option T → List T → Bool
ordered_from order last [] = true
ordered_from order last (x ∷ xs) = after order last x && ordered_from order (Some x) xs

-- each value comes before the next: in order, with no repeat
abbrev pub ordered : {T : Type 0} → (T → T → Ordering) → List T → Bool
ordered order xs = ordered_from order None xs

-- in order and no longer than a table of so many rows
abbrev pub fits_list : {T : Type 0} → (T → T → Ordering) → ℕ → List T → Bool
fits_list order most xs = nat_le (length xs) most && ordered order xs
