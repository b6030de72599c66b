-- What the waiting pairs and the live keys keep of each other.
use Rattle.std.specs.Prelude.{Bool, cond, List, is_some, Some, None, Option}
use Rattle.kinds.specs.declared.ordered.Ordered.{Ghosts as Order}
use Rattle.kinds.specs.declared.pair.Pair.{Pair}
use Rattle.tables.specs.declared.row.Only.{Only}
use Rattle.tables.specs.Rows.{lookup}
use Rattle.live.specs.declared.row.KeyRow.{KeyRow}
use Rattle.live.specs.Keys.{key_of}
use Rattle.waiting.specs.declared.rows.WaitRow.{WaitRow}
use Rattle.waiting.specs.Groups.{waited}

abbrev pub is_live : {K P : Type 0} → Order K → K → List (KeyRow K P) → Bool
is_live k key rows = is_some (lookup k.order key_of key rows)

-- a live key that somebody waits for
abbrev pub live_key : {K S P : Type 0} → Order K → List (WaitRow K S) → KeyRow K P → Option (KeyRow K P)
live_key k waiting r = cond (waited k r.key waiting) (Some r) None

-- a pair of a live key
abbrev pub live_wait : {K S P : Type 0} → Order K → List (KeyRow K P) → WaitRow K S → Option (WaitRow K S)
live_wait k keys r = cond (is_live k r.pair.first keys) (Some r) None

abbrev pub live_target : {K P : Type 0} → Order K → List (KeyRow K P) → Only (Pair K P) → Option (Only (Pair K P))
live_target k keys r = cond (is_live k r.key.first keys) (Some r) None
