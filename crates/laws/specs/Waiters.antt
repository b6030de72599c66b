-- When a fetch that sends nothing is to be tried again.
use Rattle.std.specs.Prelude.{◌≡◌, ℕ, ◌<◌, ◌≤◌, ◌⊎◌, List, length, Some, None}
use Rattle.std.specs.List.{slice_get}
use Rattle.kinds.specs.declared.ordered.Ordered.{Ghosts as Order}
use Rattle.draw.specs.Rows.{all_back}
use Rattle.link.specs.declared.words.Word.{Word}
use Rattle.live.specs.declared.queue.QueueRow.{QueueRow}
use Rattle.live.specs.Requests.{until}
use Rattle.model.specs.Fet.{Fet}
use Rattle.model.specs.Tries.{limit}
use Rattle.model.specs.Laws.{Allowed, Heard}
use Rattle.model.specs.Fetches.{aims, queue, fetch_answer, fetch_step}

-- the deadline of a queued key that is not due
abbrev pub LateIn : {K : Type 0} → ℕ → List (QueueRow K) → ℕ → Type 0
LateIn {K} time keys u = (j : ℕ) × (q : QueueRow K) × (slice_get keys j ≡ Some q) × (time < q.turn.deadline) × (u ≡ q.turn.deadline)

module _ {P V K : Type 0} (p : Order P) (k : Order K) (word : P → ℕ → Word) (time : ℕ) (f : Fet P V K) where
  abbrev pub MayAsk : QueueRow K → P → Type 0
  MayAsk q peer = Allowed word time f.roster.peers.rows (aims p k f.targets.rows) f.roster.shares q peer

  -- an allowed peer of a due key says to wait until u
  abbrev pub Told : ℕ → Type 0
  Told u = Heard word time f.roster.peers.rows (aims p k f.targets.rows) f.roster.shares (queue k f) u

  -- a due key has an allowed peer
  abbrev pub Served : List (QueueRow K) → Type 0
  Served keys = (j : ℕ) × (q : QueueRow K) × (peer : P) × (slice_get keys j ≡ Some q) × (q.turn.deadline ≤ time) × MayAsk q peer

  -- the times that count: none at all; deadlines not due; waits met; or without a wait, where a due key had an allowed
  -- peer, now plus the delay
  abbrev pub Wakes : ℕ → Type 0
  Wakes u = (u ≡ limit) ⊎ (LateIn time (queue k f) u ⊎ (Told u ⊎ (((t : ℕ) → Told t → ⊥) × Served (queue k f) × (u ≡ until time f.delay))))

-- without a send, the waiter is the least of the times that count
abbrev pub WaiterStands : {P V K : Type 0} → Order P → Order K → Fet P V K → Type 0
WaiterStands {P} p k f =
    (word : P → ℕ → Word) (time : ℕ) (w : ℕ → ℕ) → all_back f.roster.shares ≡ f.roster.shares → length f.roster.peers.rows ≡ length f.roster.shares → fetch_answer p k word time w f ≡ None
    → (t : ℕ) × ((fetch_step p k word time w f).waiter ≡ Some t) × Wakes p k word time f t × ((u : ℕ) → Wakes p k word time f u → t ≤ u)
