-- The queue of the keys that wait to be asked for.
use Rattle.std.specs.Prelude.{Bool, cond, List, [], ◌∷◌, Some, None, Option}
use Rattle.std.specs.declared.cmp.Ordering.{Ordering}
use Rattle.std.specs.Ordering.{is_lt}
use Rattle.kinds.specs.Order.{and_then, by_number}
use Rattle.kinds.specs.declared.ordered.Ordered.{Ghosts as Order}
use Rattle.kinds.specs.declared.pair.Pair.{Pair}
use Rattle.tables.specs.Rows.{pair}
use Rattle.tables.specs.Scans.{best_of}
use Rattle.tables.specs.Tables.{Tab, put_in}
use Rattle.live.specs.declared.stage.Stage.{Stage}
use Rattle.live.specs.declared.stage.Stage.TheVariants.{Queued, Out, Judged}
use Rattle.live.specs.declared.row.KeyRow.{KeyRow}
use Rattle.live.specs.declared.queue.Turn.{Turn}
use Rattle.live.specs.declared.queue.QueueRow.{QueueRow}

-- fresh keys before retried ones, then earlier deadlines
abbrev pub by_turn : Turn → Turn → Ordering
by_turn x y = and_then (by_number x.round y.round) (by_number x.deadline y.deadline)

-- then smaller keys
abbrev pub by_queue : {K : Type 0} → Order K → Pair Turn K → Pair Turn K → Ordering
by_queue k x y = and_then (by_turn x.first y.first) (k.order x.second y.second)

abbrev pub turn_of : {K : Type 0} → QueueRow K → Pair Turn K
turn_of r = pair r.turn r.key

abbrev pub earlier : {K : Type 0} → Order K → QueueRow K → QueueRow K → Bool
earlier k a b = is_lt (by_queue k (turn_of a) (turn_of b))

abbrev pub queue_at : {K P : Type 0} → KeyRow K P → Stage P → Option (QueueRow K)
queue_at r (Queued retried deadline) = Some (record { turn = record { round = cond retried 1 0; deadline = deadline }; key = r.key; aimed = r.aimed; retries = r.retries })
queue_at r (Out id peer start) = None
queue_at r (Judged slip) = None

-- the row of the queue that a key has, if it is queued
abbrev pub queue_row : {K P : Type 0} → KeyRow K P → Option (QueueRow K)
queue_row r = queue_at r r.stage

-- a row of the queue, if it comes after another
abbrev pub past : {K : Type 0} → Order K → Option (QueueRow K) → Option (QueueRow K) → Option (QueueRow K)
past k None next = next
past k (Some last) None = None
past k (Some last) (Some next) = cond (earlier k last next) (Some next) None

-- the first queued key, and the next after one
abbrev pub first_queued : {K P : Type 0} → Order K → List (KeyRow K P) → Option (QueueRow K)
first_queued k rows = best_of (earlier k) queue_row rows

abbrev pub next_queued : {K P : Type 0} → Order K → QueueRow K → List (KeyRow K P) → Option (QueueRow K)
next_queued k last rows = best_of (earlier k) (λ r. past k (Some last) (queue_row r)) rows

abbrev pub enqueued : {K : Type 0} → Order K → Option (QueueRow K) → Tab (QueueRow K) → Tab (QueueRow K)
enqueued k None t = t
enqueued k (Some q) t = put_in (by_queue k) turn_of q t

-- the whole queue: each queued key put in its place
unfoldable pub queue_on : {K P : Type 0} → Order K → Tab (QueueRow K) → List (KeyRow K P) → Tab (QueueRow K)
queue_on k t [] = t
queue_on k t (r ∷ rs) = queue_on k (enqueued k (queue_row r) t) rs
