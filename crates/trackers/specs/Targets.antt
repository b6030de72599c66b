-- Target pairs.
use Rattle.std.specs.Prelude.{cond, List, fold, Some, None, Option}
use Rattle.std.specs.Ordering.{is_eq}
use Rattle.kinds.specs.declared.ordered.Ordered.{Ghosts as Order}
use Rattle.kinds.specs.declared.pair.Pair.{Pair}
use Rattle.tables.specs.declared.row.Only.{Only}
use Rattle.tables.specs.Only.{only, key_in}
use Rattle.tables.specs.Rows.{pair, by_pair, lookup}
use Rattle.tables.specs.Tables.{Tab, put_in}

abbrev pub target_row : {K P : Type 0} → Order K → Order P → K → P → List (Only (Pair K P)) → Option (Only (Pair K P))
target_row k p key peer rows = lookup (by_pair k p) key_in (pair key peer) rows

abbrev pub add_one : {K P : Type 0} → Order K → Order P → K → P → Tab (Only (Pair K P)) → Tab (Only (Pair K P))
add_one k p key peer t = put_in (by_pair k p) key_in (only (pair key peer)) t

unfoldable pub add_all : {K P : Type 0} → Order K → Order P → K → Tab (Only (Pair K P)) → List P → Tab (Only (Pair K P))
add_all k p key t xs = fold (λ u x. add_one k p key x u) t xs

-- the pairs of one key go
abbrev pub off_key : {K P : Type 0} → Order K → K → Only (Pair K P) → Option (Only (Pair K P))
off_key k key r = cond (is_eq (k.order r.key.first key)) None (Some r)
