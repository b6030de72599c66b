-- Waiting pairs, and what each pass makes of them.
use Rattle.std.specs.Prelude.{Bool, true, false, cond, List, fold, Some, None, Option}
use Rattle.std.specs.Ordering.{is_eq}
use Rattle.kinds.specs.declared.ordered.Ordered.{Ghosts as Order}
use Rattle.kinds.specs.declared.pair.Pair.{Pair}
use Rattle.tables.specs.Rows.{pair, by_pair, lookup}
use Rattle.tables.specs.Tables.{Tab, put_in}
use Rattle.waiting.specs.declared.rows.WaitRow.{WaitRow}

abbrev pub pair_of : {K S : Type 0} → WaitRow K S → Pair K S
pair_of r = r.pair

abbrev pub flagged : {K S : Type 0} → WaitRow K S → Bool → Bool → WaitRow K S
flagged r waits delivered = record { pair = r.pair; waits = waits; delivered = delivered }

-- what becomes of a row of a key: where a delivery begins, all that wait are delivered to; where it ends, the delivered
-- ones go; where it is undone, the delivered marks go, and with them those that left; where the key retires, all go
abbrev pub begun : {K S : Type 0} → WaitRow K S → Option (WaitRow K S)
begun r = Some (flagged r r.waits r.waits)

abbrev pub ended : {K S : Type 0} → WaitRow K S → Option (WaitRow K S)
ended r = cond r.delivered None (Some r)

abbrev pub undone : {K S : Type 0} → WaitRow K S → Option (WaitRow K S)
undone r = cond r.waits (Some (flagged r true false)) None

abbrev pub retired : {K S : Type 0} → WaitRow K S → Option (WaitRow K S)
retired r = None

abbrev pub is_of : {K S : Type 0} → Order K → K → WaitRow K S → Bool
is_of k key r = is_eq (k.order r.pair.first key)

-- a rule for the rows of one key
abbrev pub only : {K S : Type 0} → Order K → K → (WaitRow K S → Option (WaitRow K S)) → WaitRow K S → Option (WaitRow K S)
only k key f r = cond (is_of k key r) (f r) (Some r)

-- one that the rule does not keep leaves, and stays only as delivered
abbrev pub retains : {K S : Type 0} → (K → S → Bool) → WaitRow K S → Option (WaitRow K S)
retains keeps r = cond (keeps r.pair.first r.pair.second) (Some r) (cond r.delivered (Some (flagged r false true)) None)

-- ---- who waits
abbrev pub given_of : {K S : Type 0} → Option (WaitRow K S) → Bool
given_of None = false
given_of (Some r) = r.delivered

abbrev pub waits_of : {K S : Type 0} → Option (WaitRow K S) → Bool
waits_of None = false
waits_of (Some r) = r.waits

abbrev pub wait_row : {K S : Type 0} → Order K → Order S → K → S → List (WaitRow K S) → Option (WaitRow K S)
wait_row k s key w rows = lookup (by_pair k s) pair_of (pair key w) rows

-- a subscriber waits; a delivered mark that its pair has stays
abbrev pub came : {K S : Type 0} → K → S → Option (WaitRow K S) → WaitRow K S
came key w old = record { pair = pair key w; waits = true; delivered = given_of old }

abbrev pub wait_one : {K S : Type 0} → Order K → Order S → K → S → Tab (WaitRow K S) → Tab (WaitRow K S)
wait_one k s key w t = put_in (by_pair k s) pair_of (came key w (wait_row k s key w t.rows)) t

unfoldable pub wait_all : {K S : Type 0} → Order K → Order S → K → Tab (WaitRow K S) → List S → Tab (WaitRow K S)
wait_all k s key t ws = fold (λ u w. wait_one k s key w u) t ws
