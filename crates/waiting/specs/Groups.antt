-- The rows of one key, which stand together where rows are in order.
use Rattle.std.specs.Prelude.{ℕ, ◌-◌, Bool, true, false, List, map, filter, take, drop, Ok, Err, Option, Result, slice_get}
use Rattle.std.specs.declared.cmp.Ordering.TheVariants.{Less, Greater}
use Rattle.std.specs.declared.cmp.Ordering.{Ordering}
use Rattle.std.specs.List.{list_any}
use Rattle.std.specs.Ordering.{is_lt, is_le}
use Rattle.kinds.specs.declared.ordered.Ordered.{Ghosts as Order}
use Rattle.tables.specs.Rows.{place_by}
use Rattle.waiting.specs.declared.rows.WaitRow.{WaitRow}

abbrev pub turn : Bool → Ordering
turn true = Less
turn false = Greater

abbrev pub index : Result ℕ ℕ → ℕ
index (Ok i) = i
index (Err i) = i

-- the first place past the rows before the bound
unfoldable pub bound_of : {R : Type 0} → (R → Bool) → List R → ℕ
bound_of before rows = index (place_by (λ r. turn (before r)) rows)

-- a row of a smaller key, and one of a smaller key or of the key itself
abbrev pub below : {K S : Type 0} → Order K → K → WaitRow K S → Bool
below k key r = is_lt (k.order r.pair.first key)

abbrev pub up_to : {K S : Type 0} → Order K → K → WaitRow K S → Bool
up_to k key r = is_le (k.order r.pair.first key)

-- the rows of a key
abbrev pub rows_of : {K S : Type 0} → Order K → K → List (WaitRow K S) → List (WaitRow K S)
rows_of k key rows = take (bound_of (up_to k key) rows - bound_of (below k key) rows) (drop (bound_of (below k key) rows) rows)

abbrev pub any_waits : {K S : Type 0} → List (WaitRow K S) → Bool
any_waits rows = list_any (λ r. r.waits) rows

abbrev pub nth_delivered : {K S : Type 0} → List (WaitRow K S) → ℕ → Option S
nth_delivered rows n = slice_get (map (λ r. r.pair.second) (filter (λ r. r.delivered) rows)) n

-- somebody waits for a key
abbrev pub waited : {K S : Type 0} → Order K → K → List (WaitRow K S) → Bool
waited k key rows = any_waits (rows_of k key rows)
