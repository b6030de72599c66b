-- Which key a fetch sends where, in words of live keys, peers and what the link says.
use Rattle.std.specs.Prelude.{◌≡◌, ℕ, ◌≤◌, true, ◌⊎◌, length, Some, None, Option, ◌≢◌}
use Rattle.kinds.specs.declared.ordered.Ordered.{Ghosts as Order}
use Rattle.link.specs.declared.words.Word.{Word}
use Rattle.link.specs.declared.words.Message.{Message}
use Rattle.tables.specs.Rows.{Ascending}
use Rattle.live.specs.declared.row.KeyRow.{KeyRow}
use Rattle.live.specs.declared.queue.QueueRow.{QueueRow}
use Rattle.live.specs.declared.stage.Stage.TheVariants.{Out}
use Rattle.live.specs.Keys.{key_of}
use Rattle.live.specs.Queues.{queue_row, earlier}
use Rattle.model.specs.Fet.{Fet}
use Rattle.model.specs.Laws.{Takes}
use Rattle.model.specs.Fetches.{aims}
use Rattle.model.specs.Calls.{row_of}

-- the live keys are in order, and there is room to list them all
pub record Orderly {P V K : Type 0} (k : Order K) (f : Fet P V K) : Type 0 where
  pub keys : Ascending k.order key_of f.keys.rows
  pub room : length f.keys.rows ≤ f.listing.most

-- a row after its key was sent
abbrev pub out_row : {P K : Type 0} → KeyRow K P → Message P K → ℕ → KeyRow K P
out_row r s time = record { key = r.key; aimed = r.aimed; retries = r.retries; stage = Out s.id s.peer time }

module _ {P V K : Type 0} (p : Order P) (k : Order K) (word : P → ℕ → Word) (time : ℕ) (f : Fet P V K) where
  -- a live key is queued, and this is its row in the queue
  abbrev pub Queues : QueueRow K → Type 0
  Queues q = (r : KeyRow K P) × (row_of k q.key f ≡ Some r) × (queue_row r ≡ Some q)

  -- it is due, and this allowed peer takes a message
  abbrev pub TakenBy : QueueRow K → P → Type 0
  TakenBy q peer = Takes word time f.roster.peers.rows (aims p k f.targets.rows) f.roster.shares q peer

  abbrev pub Sendable : QueueRow K → Type 0
  Sendable q = Queues q × ((peer : P) × TakenBy q peer)

  -- of the keys that can be sent, the first in queue order goes to an allowed peer that takes it; nothing is sent exactly
  -- where no key can be
  abbrev pub SendsFirst : Option (Message P K) → Type 0
  SendsFirst (Some s) =
      (q : QueueRow K) × (q.key ≡ s.key) × Queues q × TakenBy q s.peer × ((o : QueueRow K) → Sendable o → (o ≡ q) ⊎ (earlier k q o ≡ true))
  SendsFirst None = (q : QueueRow K) → Sendable q → ⊥

  -- from f to g: the key that was sent is out there under its id from this time, and every other key is where it was
  abbrev pub MovesOne : Option (Message P K) → Fet P V K → Type 0
  MovesOne (Some s) g =
      ((r : KeyRow K P) × (row_of k s.key f ≡ Some r) × (row_of k s.key g ≡ Some (out_row r s time)))
      × ((key : K) → (key ≢ s.key) → row_of k key g ≡ row_of k key f)
  MovesOne None g = g.keys ≡ f.keys

  abbrev pub Fair : Option (Message P K) → Fet P V K → Type 0
  Fair sent g = Orderly k f → SendsFirst sent × MovesOne sent g
