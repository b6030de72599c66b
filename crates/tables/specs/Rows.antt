-- Rows in the order of their keys: what the clauses of a table cite.
--     Lawful order               the order is total
--     Ascending order key rows   each row's key comes before those of the rows after it
--     Placed order key k rows r  where k is among the rows: at `Ok i` the i-th has it, and at `Err i` it would be the i-th
use Rattle.std.specs.Prelude.{◌≡◌, ℕ, zero, suc, ◌+◌, ◌-◌, ◌/◌, ◌<◌, ◌≤◌, cond, ◌⊎◌, List, [], ◌∷◌, length, Some, None, Ok, Err, Option, Result, nat_lt, slice_index_or, slice_set}
use Rattle.std.specs.declared.cmp.Ordering.TheVariants.{Less, Equal, Greater}
use Rattle.std.specs.declared.cmp.Ordering.{Ordering}
use Rattle.std.specs.List.{insert, remove}
use Rattle.std.specs.Ordering.{ordering_reverse}
use Rattle.kinds.specs.Order.{and_then}
use Rattle.kinds.specs.declared.ordered.Ordered.{Ghosts as Order}
use Rattle.kinds.specs.declared.pair.Pair.{Pair}

pub record Lawful {K : Type 0} (order : K → K → Ordering) : Type 0 where
  pub same : (x y : K) → order x y ≡ Equal → x ≡ y
  pub reflexive : (x : K) → order x x ≡ Equal
  pub turned : (x y : K) → order y x ≡ ordering_reverse (order x y)
  pub joined : (x y z : K) → order x y ≡ Less → order y z ≡ Less → order x z ≡ Less

unfoldable pub Ascending : {K R : Type 0} → (K → K → Ordering) → (R → K) → List R → Type 0
Ascending {K} {R} order key rows =
    (i j : ℕ) (d : R) → i < j → j < length rows → order (key (slice_index_or rows i d)) (key (slice_index_or rows j d)) ≡ Less

-- a row of a list
abbrev pub In : {R : Type 0} → R → List R → Type 0
In r [] = ⊥
In r (q ∷ qs) = (q ≡ r) ⊎ In r qs

-- one of three, by an answer
abbrev pub by : {X : Type 0} → Ordering → X → X → X → X
by Less x y z = x
by Equal x y z = y
by Greater x y z = z

-- the row at a place
abbrev pub row_at : {R : Type 0} → List R → ℕ → Option R
row_at [] i = None
row_at (r ∷ rs) zero = Some r
row_at (r ∷ rs) (suc i) = row_at rs i

abbrev pub halfway : ℕ → ℕ → ℕ
halfway low high = low + (high - low) / 2

-- where to go on, by the row in the middle: below it, at it or above it
abbrev pub turn_at : {R : Type 0} → (R → Ordering) → Option R → Result ℕ ℕ → Result ℕ ℕ → Result ℕ ℕ → Result ℕ ℕ
turn_at test None up here down = down
turn_at test (Some r) up here down = by (test r) up here down

-- the place that a test leads to from `low` up to `high`, by at most so many halvings
unfoldable pub halved : {R : Type 0} → (R → Ordering) → List R → ℕ → ℕ → ℕ → Result ℕ ℕ
halved test rows zero low high = Err low
halved test rows (suc n) low high =
    cond (nat_lt low high)
    (turn_at test (row_at rows (halfway low high)) (halved test rows n (halfway low high + 1) high) (Ok (halfway low high)) (halved test rows n low (halfway low high)))
    (Err low)

abbrev pub between : {R : Type 0} → (R → Ordering) → List R → ℕ → ℕ → Result ℕ ℕ
between test rows low high = halved test rows (high - low) low high

-- the place that a test of the rows leads to, `Ok i` where it answers `Equal` and `Err i` where no row does
unfoldable pub place_by : {R : Type 0} → (R → Ordering) → List R → Result ℕ ℕ
place_by test rows = between test rows 0 (length rows)

-- where a key is among rows, `Ok i`, or would go, `Err i`
abbrev pub place_of : {K R : Type 0} → (K → K → Ordering) → (R → K) → K → List R → Result ℕ ℕ
place_of order key k rows = place_by (λ r. order (key r) k) rows

abbrev pub at_place : {R : Type 0} → Result ℕ ℕ → List R → Option R
at_place (Ok i) rows = row_at rows i
at_place (Err i) rows = None

abbrev pub placed : {R : Type 0} → Result ℕ ℕ → R → List R → List R
placed (Ok i) row rows = slice_set rows i row
placed (Err i) row rows = insert rows i row

abbrev pub unplaced : {R : Type 0} → Result ℕ ℕ → List R → List R
unplaced (Ok i) rows = remove rows i
unplaced (Err i) rows = rows

-- the row of a key
abbrev pub lookup : {K R : Type 0} → (K → K → Ordering) → (R → K) → K → List R → Option R
lookup order key k rows = at_place (place_of order key k rows) rows

-- the rows with `row` in the place of the row of its key, or at its place among them
abbrev pub put : {K R : Type 0} → (K → K → Ordering) → (R → K) → R → List R → List R
put order key row rows = placed (place_of order key (key row) rows) row rows

-- the rows but for that of the key k
abbrev pub without : {K R : Type 0} → (K → K → Ordering) → (R → K) → K → List R → List R
without order key k rows = unplaced (place_of order key k rows) rows

-- the rows as a rule keeps, changes or drops each
abbrev pub and_more : {R : Type 0} → Option R → List R → List R
and_more None rows = rows
and_more (Some r) rows = r ∷ rows

unfoldable pub swept : {R : Type 0} → (R → Option R) → List R → List R
swept f [] = []
swept f (r ∷ rs) = and_more (f r) (swept f rs)

abbrev pub Within : ℕ → Result ℕ ℕ → Type 0
Within n (Ok i) = i < n
Within n (Err i) = i ≤ n

-- the rows from i to j compare to k as o says
abbrev pub Lie : {K R : Type 0} → (K → K → Ordering) → (R → K) → K → List R → Ordering → ℕ → ℕ → Type 0
Lie {K} {R} order key k rows o i j = (n : ℕ) (d : R) → i ≤ n → n < j → order (key (slice_index_or rows n d)) k ≡ o

abbrev pub Placed : {K R : Type 0} → (K → K → Ordering) → (R → K) → K → List R → Result ℕ ℕ → Type 0
Placed {K} {R} order key k rows (Ok i) =
    (i < length rows) × Lie order key k rows Less 0 i × ((d : R) → order (key (slice_index_or rows i d)) k ≡ Equal)
Placed order key k rows (Err i) =
    (i ≤ length rows) × Lie order key k rows Less 0 i × Lie order key k rows Greater i (length rows)

-- keys that are pairs
abbrev pub pair : {A B : Type 0} → A → B → Pair A B
pair a b = record { first = a; second = b }

abbrev pub by_pair : {A B : Type 0} → Order A → Order B → Pair A B → Pair A B → Ordering
by_pair a b x y = and_then (a.order x.first y.first) (b.order x.second y.second)
