-- The table of live keys, and what each call makes of it.
use Rattle.std.specs.Prelude.{◌≡◌, ℕ, ◌<◌, ◌≤◌, Bool, false, [], Some, None, Ok, Err, Option, Result}
use Rattle.kinds.specs.declared.ordered.Ordered.{Ghosts as Order}
use Rattle.tables.specs.declared.table.error.TableError.{TableError}
use Rattle.tables.specs.declared.table.error.TableError.TheVariants.{Rows, Memory}
use Rattle.tables.specs.Rows.{lookup}
use Rattle.tables.specs.Tables.{Tab, tab_of, fits, put_in, Outside}
use Rattle.live.specs.declared.stage.Stage.TheVariants.{Queued}
use Rattle.live.specs.declared.stage.Event.{Event}
use Rattle.live.specs.declared.row.KeyRow.{KeyRow}
use Rattle.live.specs.declared.keys.LiveKeys.{LiveKeys}
use Rattle.live.specs.Stages.{row_after}

-- live keys at most
abbrev pub most_keys : ℕ
most_keys = 1024

abbrev pub key_of : {K P : Type 0} → KeyRow K P → K
key_of r = r.key

-- a fresh key, due at a time
abbrev pub fresh_row : {K P : Type 0} → K → Bool → ℕ → KeyRow K P
fresh_row key aimed time = record { key = key; aimed = aimed; retries = 0; stage = Queued false time }

-- a row put where there is one
abbrev pub put_found : {K P : Type 0} → Order K → Option (KeyRow K P) → Tab (KeyRow K P) → Tab (KeyRow K P)
put_found k None t = t
put_found k (Some r) t = put_in k.order key_of r t

abbrev pub found_fits : {K P : Type 0} → Order K → Option (KeyRow K P) → Tab (KeyRow K P) → Bool
found_fits k None t = false
found_fits k (Some r) t = fits k.order key_of r.key t

-- the row that an event makes of that of a key
abbrev pub step_at : {K P : Type 0} → Event P → Option (KeyRow K P) → Option (KeyRow K P)
step_at event None = None
step_at event (Some r) = row_after r event

abbrev pub stepped : {K P : Type 0} → Order K → K → Event P → Tab (KeyRow K P) → Tab (KeyRow K P)
stepped k key event t = put_found k (step_at event (lookup k.order key_of key t.rows)) t

abbrev pub step_fits : {K P : Type 0} → Order K → K → Event P → Tab (KeyRow K P) → Bool
step_fits k key event t = found_fits k (step_at event (lookup k.order key_of key t.rows)) t

-- the row of a key with or without a target set
abbrev pub aim_at : {K P : Type 0} → Bool → Option (KeyRow K P) → Option (KeyRow K P)
aim_at aimed None = None
aim_at aimed (Some r) = Some (record { key = r.key; aimed = aimed; retries = r.retries; stage = r.stage })

abbrev pub aimed_in : {K P : Type 0} → Order K → K → Bool → Tab (KeyRow K P) → Tab (KeyRow K P)
aimed_in k key aimed t = put_found k (aim_at aimed (lookup k.order key_of key t.rows)) t

abbrev pub aim_fits : {K P : Type 0} → Order K → K → Bool → Tab (KeyRow K P) → Bool
aim_fits k key aimed t = found_fits k (aim_at aimed (lookup k.order key_of key t.rows)) t

abbrev pub Made : {K P : Type 0} → ℕ → ℕ → Result (LiveKeys K P) TableError → Type 0
Made engine most (Ok t) =
    (0 < most) × (most ≤ most_keys) × (tab_of t.table ≡ record { engine = engine; most = most; rows = [] })
    × (tab_of t.queue ≡ record { engine = engine; most = most; rows = [] })
Made engine most (Err Rows) = Outside most most_keys
Made engine most (Err Memory) = (0 < most) × (most ≤ most_keys)
