-- The search by halves for the first row that does not come before a bound.
use Rattle.std.proofs.Common.{◌≡◌, ℕ, ◌+◌, ◌<◌, ◌≤◌, Bool, true, false, List, length, get_or, Ok, Ordering, ap, ◌∙◌}
use Rattle.tables.specs.Rows.{by, halfway, between}
use Rattle.tables.proofs.Halving.{between_turn, between_done, place_between}
use Rattle.waiting.specs.Groups.{turn, index, bound_of}

module _ {R : Type 0} (before : R → Bool) (rows : List R) where
  abbrev test : R → Ordering
  test r = turn (before r)

  pub bound_start : bound_of before rows ≡ index (between test rows 0 (length rows))
  unfolding bound_of
  bound_start = ap index (place_between test rows)

  module _ (low high : ℕ) (row : R) (lt : low < high) (le : high ≤ length rows) (is : row ≡ get_or rows (halfway low high) row) where
    turned : (b : Bool) → before row ≡ b
        → between test rows low high ≡ by (turn b) (between test rows (halfway low high + 1) high) (Ok (halfway low high)) (between test rows low (halfway low high))
    turned b e =
        between_turn test rows low high row lt le is
        ∙ ap (λ x. by (turn x) (between test rows (halfway low high + 1) high) (Ok (halfway low high)) (between test rows low (halfway low high))) e

    pub bound_up : before row ≡ true → index (between test rows low high) ≡ index (between test rows (halfway low high + 1) high)
    bound_up e = ap index (turned true e)

    pub bound_down : before row ≡ false → index (between test rows low high) ≡ index (between test rows low (halfway low high))
    bound_down e = ap index (turned false e)

  pub bound_done : (low high : ℕ) → high ≤ low → index (between test rows low high) ≡ low
  bound_done low high h = ap index (between_done test rows low high h)
