-- An outbox: its word, what a send leaves of it, and what it holds after a row of sends.
use Rattle.std.specs.Prelude.{◌≡◌, ℕ, ◌+◌, ◌%◌, ◌^◌, Bool, cond, List, [], ◌∷◌, ◌++◌, length, Some, None, vec_items, Option, nat_le}
use Rattle.kinds.specs.declared.storable.Storable.{Ghosts as Form}
use Rattle.link.specs.declared.words.Word.{Word}
use Rattle.link.specs.declared.words.Word.TheVariants.{Take, Closed}
use Rattle.link.specs.declared.words.Message.{Message}
use Rattle.link.specs.declared.outbox.Outbox.{Outbox}
use Rattle.link.specs.Frames.{frame, frame_len, frames}

abbrev pub bytes_of : {P K : Type 0} → Outbox P K → List ℕ
bytes_of o = vec_items o.bytes.written

-- how many bytes there may be
abbrev pub room_of : {P K : Type 0} → Outbox P K → ℕ
room_of o = o.bytes.room

-- a message, and whether the send of it was accepted
pub record Try (P K : Type 0) : Type 0 where
  pub message : Message P K
  pub accepted : Bool

-- the messages that were accepted
unfoldable pub taken : {P K : Type 0} → List (Try P K) → List (Message P K)
taken [] = []
taken (t ∷ ts) = cond t.accepted (t.message ∷ taken ts) (taken ts)

-- the last of some messages, or else another
unfoldable pub last_of : {M : Type 0} → Option M → List M → Option M
last_of o [] = o
last_of o (m ∷ ms) = last_of (Some m) ms

-- an outbox with nothing in it
pub record Empty {P K : Type 0} (most : ℕ) (o : Outbox P K) : Type 0 where
  pub bytes : bytes_of o ≡ []
  pub room : room_of o ≡ most
  pub count : o.tally.count ≡ 0
  pub latest : o.tally.latest ≡ None

module _ {P K : Type 0} (p : Form P) (k : Form K) where
  -- whether one more message fits
  abbrev pub fits : Outbox P K → Bool
  fits o = nat_le (length (bytes_of o) + frame_len p k) (room_of o)

  -- the word for every peer at every time
  abbrev pub box_word : Outbox P K → P → ℕ → Word
  box_word o peer time = cond (fits o) Take Closed

  -- a send from the outbox o to the outbox n
  pub record Step (o : Outbox P K) (m : Message P K) (accepted : Bool) (n : Outbox P K) : Type 0 where
    pub answer : accepted ≡ fits o
    pub bytes : bytes_of n ≡ cond accepted (bytes_of o ++ frame p k m) (bytes_of o)
    pub count : n.tally.count ≡ cond accepted ((o.tally.count + 1) % 2 ^ 64) o.tally.count
    pub latest : n.tally.latest ≡ cond accepted (Some m) o.tally.latest
    pub room : room_of n ≡ room_of o

  -- sends in a row
  unfoldable pub Run : Outbox P K → List (Try P K) → Outbox P K → Type 0
  Run o [] n = n ≡ o
  Run o (t ∷ ts) n = (m : Outbox P K) × Step o t.message t.accepted m × Run m ts n

  -- exactly these messages, in their order
  pub record Holds (o : Outbox P K) (ms : List (Message P K)) : Type 0 where
    pub bytes : bytes_of o ≡ frames p k ms
    pub count : o.tally.count ≡ length ms % 2 ^ 64
    pub latest : o.tally.latest ≡ last_of None ms

  -- after any sends it holds those that were accepted
  abbrev pub HoldsTaken : Outbox P K → Type 0
  HoldsTaken o = (ts : List (Try P K)) (n : Outbox P K) → Run o ts n → Holds n (taken ts)
