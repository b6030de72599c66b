-- The id of a send.
use Rattle.std.specs.Prelude.{ℕ, zero, suc, ◌+◌, ◌%◌, ◌^◌, Bool, cond, List, length, Some, None, Option}
use Rattle.draw.specs.Words.{later}
use Rattle.live.specs.declared.row.KeyRow.{KeyRow}
use Rattle.live.specs.Requests.{id_out}

-- the next id, 0 after the last
abbrev pub after : ℕ → ℕ
after id = (id + 1) % 2 ^ 64

-- the first id from one on that is not out, after at most n steps
abbrev pub free_in : ℕ → (ℕ → Bool) → ℕ → ℕ
free_in zero out id = id
free_in (suc n) out id = cond (out id) (free_in n out (after id)) id

-- the same among the live keys: one more than there are rows cannot all be out
abbrev pub free_id : {K P : Type 0} → List (KeyRow K P) → ℕ → ℕ
free_id keys id = free_in (length keys) (λ i. id_out i keys) id

-- the first id to try: the next one, or at the very first send the next word
abbrev pub first_id : Option ℕ → (ℕ → ℕ) → ℕ
first_id (Some id) w = id
first_id None w = w 0

abbrev pub words_of : Option ℕ → (ℕ → ℕ) → ℕ → ℕ
words_of (Some id) w = w
words_of None w = later w

abbrev pub id_of : {K P : Type 0} → List (KeyRow K P) → Option ℕ → (ℕ → ℕ) → ℕ
id_of keys next w = free_id keys (first_id next w)

abbrev pub next_of : {K P : Type 0} → List (KeyRow K P) → Option ℕ → (ℕ → ℕ) → Option ℕ
next_of keys next w = Some (after (id_of keys next w))
