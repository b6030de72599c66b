-- Slips, and the numbers that they get.
use Rattle.std.specs.Prelude.{ℕ, zero, suc, ◌+◌, ◌%◌, ◌^◌, cond, List, is_some, Some, None, Option, nat_lt}
use Rattle.std.specs.declared.cmp.Ordering.{Ordering}
use Rattle.kinds.specs.Order.{by_number}
use Rattle.tables.specs.Rows.{lookup}
use Rattle.tables.specs.Tables.{Tab, tab_of, put_in, take_out}
use Rattle.trackers.specs.declared.slips.SlipNumber.{SlipNumber}
use Rattle.trackers.specs.declared.slips.SlipRow.{SlipRow}
use Rattle.trackers.specs.declared.slips.Slips.{Slips}

abbrev pub numbered : ℕ → SlipNumber
numbered n = record { number = n }

abbrev pub by_slip : SlipNumber → SlipNumber → Ordering
by_slip x y = by_number x.number y.number

abbrev pub slip_of : {K P : Type 0} → SlipRow K P → SlipNumber
slip_of r = r.slip

abbrev pub slip_row : {K P : Type 0} → ℕ → List (SlipRow K P) → Option (SlipRow K P)
slip_row n rows = lookup by_slip slip_of (numbered n) rows

-- the number after one, in 32 bits: 0 follows the last of so many
abbrev pub wrapped : ℕ → ℕ
wrapped n = (n + 1) % 2 ^ 32

abbrev pub number_after : ℕ → ℕ → ℕ
number_after most n = cond (nat_lt (wrapped n) most) (wrapped n) 0

abbrev pub number_first : ℕ → Option ℕ → ℕ
number_first most None = 0
number_first most (Some last) = number_after most last

-- the first number from one on that is not outstanding, in so many steps
unfoldable pub free_from : {K P : Type 0} → ℕ → List (SlipRow K P) → ℕ → ℕ → Option ℕ
free_from most rows zero n = None
free_from most rows (suc steps) n = cond (is_some (slip_row n rows)) (free_from most rows steps (number_after most n)) (Some n)

-- the rows, and the last number given
pub record Slipped (K P : Type 0) : Type 0 where
  pub rows : Tab (SlipRow K P)
  pub last : Option ℕ

abbrev pub slips_of : {K P : Type 0} → Slips K P → Slipped K P
slips_of t = record { rows = tab_of t.table; last = t.last }

-- the number that the next slip gets
abbrev pub next_slip : {K P : Type 0} → Slipped K P → Option ℕ
next_slip t = free_from t.rows.most t.rows.rows t.rows.most (number_first t.rows.most t.last)

abbrev pub under_number : {K P : Type 0} → ℕ → SlipRow K P → SlipRow K P
under_number n r = record { slip = numbered n; key = r.key; peer = r.peer; elapsed = r.elapsed; size = r.size; bytes = r.bytes; accepted = r.accepted }

abbrev pub opened : {K P : Type 0} → SlipRow K P → Option ℕ → Slipped K P → Slipped K P
opened r None t = t
opened r (Some n) t = record { rows = put_in by_slip slip_of (under_number n r) t.rows; last = Some n }

abbrev pub freed : {K P : Type 0} → ℕ → Slipped K P → Slipped K P
freed n t = record { rows = take_out by_slip slip_of (numbered n) t.rows; last = t.last }
