-- A row appended to a table, and rows that are lent.
use Rattle.std.specs.Prelude.{cond, List, [], ◌∷◌, ◌++◌, length, nat_lt}
use Rattle.std.specs.Borrow.{Lends, Fml, RattleType, MutBor, Array}
use Rattle.std.specs.Vec.{with_items}
use Rattle.tables.specs.declared.table.Table.{Table}
use Rattle.tables.specs.contracts.table.Table.{the_row}
use Rattle.tables.specs.Tables.{Tab, with_rows}

-- the table with one row more at its end, where there is room for it
abbrev pub push_in : {R : Type 0} → R → Tab R → Tab R
push_in row t = cond (nat_lt (length t.rows) t.most) (with_rows t (t.rows ++ row ∷ [])) t

-- the table ends with the last values behind r as its rows
abbrev pub LendsRows : (R : RattleType) → MutBor (Table R.Denot) → MutBor (List R.Denot) → Fml
LendsRows R t r = Lends (the_row R) (Array R 0) t r (λ rows. record (t.now) { rows = with_items t.now.rows rows })
