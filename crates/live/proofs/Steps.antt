-- One row more of the queue.
use Rattle.std.proofs.Common.{◌≡◌, ℕ, ◌+◌, ◌<◌, ◌≤◌, List, length, get_or, drop, refl}
use Rattle.kinds.specs.declared.ordered.Ordered.{Ghosts as Order}
use Rattle.tables.specs.Tables.{Tab}
use Rattle.tables.proofs.Steps.{peel, spent}
use Rattle.live.specs.declared.row.KeyRow.{KeyRow}
use Rattle.live.specs.declared.queue.QueueRow.{QueueRow}
use Rattle.live.specs.Queues.{queue_row, enqueued, queue_on}

module _ {K P : Type 0} (k : Order K) (t : Tab (QueueRow K)) (xs : List (KeyRow K P)) (i : ℕ) where
  pub queue_more : (x : KeyRow K P) → i < length xs → x ≡ get_or xs i x → queue_on k t (drop i xs) ≡ queue_on k (enqueued k (queue_row x) t) (drop (i + 1) xs)
  unfolding queue_on
  queue_more x l e = rw (peel xs i x l e) refl

  pub queue_end : length xs ≤ i → queue_on k t (drop i xs) ≡ t
  unfolding queue_on
  queue_end l = rw (spent xs i l) refl
