-- What a table holds, and what each call makes of it.
use Rattle.std.specs.Prelude.{◌≡◌, ℕ, ◌<◌, ◌≤◌, Bool, cond, ◌||◌, ◌⊎◌, List, [], length, is_ok, Ok, Err, vec_items, Option, Result, nat_le, nat_lt}
use Rattle.std.specs.declared.cmp.Ordering.{Ordering}
use Rattle.tables.specs.declared.table.Table.{Table}
use Rattle.tables.specs.declared.table.error.TableError.{TableError}
use Rattle.tables.specs.declared.table.error.TableError.TheVariants.{Rows, Memory}
use Rattle.tables.specs.Rows.{place_of, put, without, swept}

pub record Tab (R : Type 0) : Type 0 where
  pub engine : ℕ
  pub most : ℕ
  pub rows : List R

abbrev pub tab_of : {R : Type 0} → Table R → Tab R
tab_of t = record { engine = t.engine; most = t.most; rows = vec_items t.rows }

abbrev pub rows_of : {R : Type 0} → Table R → List R
rows_of t = vec_items t.rows

-- the table with other rows
abbrev pub with_rows : {R : Type 0} → Tab R → List R → Tab R
with_rows t rows = record { engine = t.engine; most = t.most; rows = rows }

abbrev pub emptied : {R : Type 0} → Tab R → Tab R
emptied t = with_rows t []

-- there is a row of the key, or room for one
abbrev pub fits : {K R : Type 0} → (K → K → Ordering) → (R → K) → K → Tab R → Bool
fits order key k t = is_ok (place_of order key k t.rows) || nat_lt (length t.rows) t.most

abbrev pub put_in : {K R : Type 0} → (K → K → Ordering) → (R → K) → R → Tab R → Tab R
put_in order key row t = cond (fits order key (key row) t) (with_rows t (put order key row t.rows)) t

abbrev pub take_out : {K R : Type 0} → (K → K → Ordering) → (R → K) → K → Tab R → Tab R
take_out order key k t = with_rows t (without order key k t.rows)

abbrev pub sweep_by : {R : Type 0} → (R → Option R) → Tab R → Tab R
sweep_by f t = with_rows t (swept f t.rows)

-- the rows become others, of which there are so many, where there is room for them
abbrev pub fill_with : {R : Type 0} → List R → ℕ → Tab R → Tab R
fill_with rows size t = cond (nat_le size t.most) (with_rows t rows) t

-- the number of rows is out of bounds
abbrev pub Outside : ℕ → ℕ → Type 0
Outside most bound = (most ≡ 0) ⊎ (bound < most)

abbrev pub Made : {R : Type 0} → ℕ → ℕ → ℕ → Result (Table R) TableError → Type 0
Made engine most bound (Ok t) = (0 < most) × (most ≤ bound) × (tab_of t ≡ record { engine = engine; most = most; rows = [] })
Made engine most bound (Err Rows) = Outside most bound
Made engine most bound (Err Memory) = (0 < most) × (most ≤ bound)
