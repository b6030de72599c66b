-- What the walk over due keys and drawn peers comes to.
use Rattle.std.specs.Prelude.{◌≡◌, ℕ, zero, suc, ◌+◌, ◌%◌, ◌^◌, min, Bool, true, false, cond, ◌||◌, List, [], ◌∷◌, Some, None, Option, ◌==◌, nat_le, slice_index_or}
use Rattle.std.specs.List.{slice_get}
use Rattle.draw.specs.declared.rows.Share.{Share}
use Rattle.draw.specs.declared.rows.By.TheVariants.{Head}
use Rattle.draw.specs.Rows.{total, pick, words_after, without, nobody}
use Rattle.link.specs.declared.words.Word.{Word}
use Rattle.link.specs.declared.words.Word.TheVariants.{Take, Closed, Wait}
use Rattle.link.specs.declared.words.Message.{Message}
use Rattle.roster.specs.declared.row.PeerRow.{PeerRow}
use Rattle.live.specs.declared.row.KeyRow.{KeyRow}
use Rattle.live.specs.declared.queue.QueueRow.{QueueRow}
use Rattle.live.specs.Requests.{id_out}
use Rattle.model.specs.declared.Walked.{Walked}
use Rattle.model.specs.Ids.{id_of, next_of, words_of}

-- the time that stands for none
abbrev pub limit : ℕ
limit = 9223372036854775807

-- the sooner of two times
abbrev pub sooner_of : Option ℕ → ℕ → Option ℕ
sooner_of (Some t) u = Some (min t u)
sooner_of None u = Some u

-- a row that stays in the draw: it weighs nothing anyway, or its peer is wanted
abbrev pub stays : {P V : Type 0} → (P → Bool) → PeerRow P V → Share → Bool
stays ok r s = s.weight == 0 || ok r.peer

-- the shares with those set aside whose peers are not wanted, from the place i on
abbrev pub left_out : {P V : Type 0} → (P → Bool) → List (PeerRow P V) → ℕ → List Share → List Share
left_out ok [] i xs = xs
left_out ok (r ∷ rs) i xs = left_out ok rs (i + 1) (cond (stays ok r (slice_index_or xs i nobody)) xs (without xs i))

-- the shares that a key may draw from: its targets' if it is aimed, else all
abbrev pub rows_for : {P V : Type 0} → Bool → (P → Bool) → List (PeerRow P V) → List Share → List Share
rows_for aimed ok rs xs = cond aimed (left_out ok rs 0 xs) xs

-- a send that was taken: its id and its peer
pub record Named (P : Type 0) : Type 0 where
  pub id : ℕ
  pub peer : P

-- what the tries of one key came to, and what is left: the words ahead, the next id, the least wait, whether a peer was allowed
pub record Tried (P : Type 0) : Type 0 where
  pub hit : Option (Named P)
  pub words : ℕ → ℕ
  pub next : Option ℕ
  pub wait : Option ℕ
  pub allowed : Bool

-- what the tries of all keys came to
pub record Fetched (P K : Type 0) : Type 0 where
  pub sent : Option (Message P K)
  pub words : ℕ → ℕ
  pub next : Option ℕ
  pub late : ℕ
  pub wait : Option ℕ
  pub allowed : Bool

module _ {P V K : Type 0} (word : P → ℕ → Word) (time : ℕ) (peers : List (PeerRow P V)) (out : List (KeyRow K P)) where
  abbrev pub missed : (ℕ → ℕ) → Option ℕ → Option ℕ → Bool → Tried P
  missed w next wait allowed = record { hit = None; words = w; next = next; wait = wait; allowed = allowed }

  -- what stands in an option, if anything
  abbrev pub or_missed : {A : Type 0} → Option A → Tried P → (A → Tried P) → Tried P
  or_missed None m f = m
  or_missed (Some x) m f = f x

  -- one drawn peer, by its word: it takes the message, or refuses it and an id is spent, or is to be waited for
  abbrev pub try_one : ((ℕ → ℕ) → Option ℕ → Option ℕ → Tried P) → (ℕ → ℕ) → Option ℕ → Option ℕ → P → Word → Tried P
  try_one more w next wait peer Take =
      record { hit = Some (record { id = id_of out next w; peer = peer }); words = words_of next w; next = next_of out next w; wait = wait; allowed = true }
  try_one more w next wait peer Closed = more (words_of next w) (next_of out next w) wait
  try_one more w next wait peer (Wait t) = more w next (sooner_of wait t)

  -- the peers in the order of the draw, until one takes the message: at most n
  abbrev pub try_peers : ℕ → List Share → ℕ → (ℕ → ℕ) → Option ℕ → Option ℕ → Bool → Tried P
  try_peers zero xs r w next wait allowed = missed w next wait allowed
  try_peers (suc n) xs r w next wait allowed =
      or_missed (pick xs r w) (missed w next wait allowed) (λ p. or_missed (slice_get peers p) (missed w next wait allowed) (λ row.
      try_one (λ w' next' wait'. try_peers n (without xs p) r w' next' wait' true) (words_after xs r w) next wait row.peer (word row.peer time)))

  -- all rows that are left
  abbrev pub try_rows : List Share → ℕ → (ℕ → ℕ) → Option ℕ → Option ℕ → Bool → Tried P
  try_rows xs r w next wait allowed = try_peers (total Head xs) xs r w next wait allowed

  module _ (aims : K → P → Bool) (shares : List Share) where
    abbrev pub try_key : QueueRow K → (ℕ → ℕ) → Option ℕ → Option ℕ → Bool → Tried P
    try_key k w next wait allowed = try_rows (rows_for k.aimed (aims k.key) peers shares) k.retries w next wait allowed

    -- a key that was sent ends the walk
    abbrev pub go_on : K → ℕ → Tried P → ((ℕ → ℕ) → Option ℕ → Option ℕ → Bool → Fetched P K) → Fetched P K
    go_on key late t more =
        elim t.hit [
          | Some h ↦ record {
            sent = Some (record { id = h.id; peer = h.peer; key = key });
            words = t.words;
            next = t.next;
            late = late;
            wait = t.wait;
            allowed = t.allowed;
          }
          | None ↦ more t.words t.next t.wait t.allowed
        ]

    -- the keys in their order, those passed over that are not due
    abbrev pub try_keys : List (QueueRow K) → (ℕ → ℕ) → Option ℕ → ℕ → Option ℕ → Bool → Fetched P K
    try_keys [] w next late wait allowed =
        record { sent = None; words = w; next = next; late = late; wait = wait; allowed = allowed }
    try_keys (k ∷ ks) w next late wait allowed =
        cond (nat_le k.turn.deadline time)
        (go_on k.key late (try_key k w next wait allowed) (λ w' next' wait' allowed'. try_keys ks w' next' late wait' allowed'))
        (try_keys ks w next (min late k.turn.deadline) wait allowed)

-- what a walk answered, with the words ahead and the next id that it left
abbrev pub told : {P K : Type 0} → Walked P K → (ℕ → ℕ) → Option ℕ → Fetched P K
told r w next = record { sent = r.sent; words = w; next = next; late = r.late; wait = r.wait; allowed = r.allowed }

module _ {L P K : Type 0} (count : L → ℕ) (latest : L → Option (Message P K)) where
  -- from the link l to the link m: it took this one message, or is as it was
  abbrev pub Carried : L → Option (Message P K) → L → Type 0
  Carried l (Some s) m = (count m ≡ (count l + 1) % 2 ^ 64) × (latest m ≡ Some s)
  Carried l None m = m ≡ l

-- the id of what was sent was not out
abbrev pub Unused : {P K : Type 0} → List (KeyRow K P) → Option (Message P K) → Type 0
Unused out (Some s) = id_out s.id out ≡ false
Unused out None = Unit {0}
