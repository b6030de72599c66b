-- Which message is sent, in words of keys, peers and what the link says.
use Rattle.std.specs.Prelude.{◌≡◌, ℕ, ◌<◌, ◌≤◌, Bool, true, List, Some, None, Option, ◌≢◌, slice_index_or}
use Rattle.std.specs.List.{slice_get}
use Rattle.draw.specs.declared.rows.Share.{Share}
use Rattle.draw.specs.Rows.{nobody}
use Rattle.link.specs.declared.words.Word.{Word}
use Rattle.link.specs.declared.words.Word.TheVariants.{Take, Wait}
use Rattle.link.specs.declared.words.Message.{Message}
use Rattle.roster.specs.declared.row.PeerRow.{PeerRow}
use Rattle.live.specs.declared.queue.QueueRow.{QueueRow}

-- the least of some times
abbrev pub LeastOf : (ℕ → Type 0) → Option ℕ → Type 0
LeastOf S None = (u : ℕ) → S u → ⊥
LeastOf S (Some t) = S t × ((u : ℕ) → S u → t ≤ u)

module _ {P V K : Type 0} (word : P → ℕ → Word) (time : ℕ) (peers : List (PeerRow P V)) (aims : K → P → Bool) (shares : List Share) where
  -- the row may be asked for the key: its share has a weight, and its peer is a target if the key is aimed
  abbrev pub AllowedAt : QueueRow K → ℕ → PeerRow P V → Type 0
  AllowedAt k p r = (slice_get peers p ≡ Some r) × ((slice_index_or shares p nobody).weight ≢ 0) × (k.aimed ≡ true → aims k.key r.peer ≡ true)

  abbrev pub Allowed : QueueRow K → P → Type 0
  Allowed k peer = (p : ℕ) × (r : PeerRow P V) × (r.peer ≡ peer) × AllowedAt k p r

  -- the key is due, and this allowed peer takes a message
  abbrev pub Takes : QueueRow K → P → Type 0
  Takes k peer = (k.turn.deadline ≤ time) × Allowed k peer × (word peer time ≡ Take)

  abbrev pub Ready : QueueRow K → Type 0
  Ready k = (peer : P) × Takes k peer

  -- the first ready key is sent to one of its allowed peers that takes it; nothing is sent exactly where no key is ready
  abbrev pub First : List (QueueRow K) → Option (Message P K) → Type 0
  First keys (Some s) =
      (i : ℕ) × (k : QueueRow K) × (slice_get keys i ≡ Some k) × (k.key ≡ s.key) × Takes k s.peer
      × ((j : ℕ) (k' : QueueRow K) → j < i → slice_get keys j ≡ Some k' → Ready k' → ⊥)
  First keys None = (j : ℕ) (k' : QueueRow K) → slice_get keys j ≡ Some k' → Ready k' → ⊥

  -- an allowed peer of a due key says to wait until u
  abbrev pub Heard : List (QueueRow K) → ℕ → Type 0
  Heard keys u =
      (j : ℕ) × (k : QueueRow K) × (peer : P) × (slice_get keys j ≡ Some k) × (k.turn.deadline ≤ time) × Allowed k peer × (word peer time ≡ Wait u)

  -- where nothing is sent, the wait is the least that is heard
  abbrev pub Quiet : List (QueueRow K) → Option (Message P K) → Option ℕ → Type 0
  Quiet keys (Some s) wait = Unit {0}
  Quiet keys None wait = LeastOf (Heard keys) wait
