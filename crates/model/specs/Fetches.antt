-- What a fetch answers and leaves.
use Rattle.std.specs.Prelude.{ℕ, min, Bool, true, false, List, is_some, Some, None, Option}
use Rattle.kinds.specs.declared.ordered.Ordered.{Ghosts as Order}
use Rattle.kinds.specs.declared.pair.Pair.{Pair}
use Rattle.link.specs.declared.words.Word.{Word}
use Rattle.link.specs.declared.words.Message.{Message}
use Rattle.tables.specs.declared.row.Only.{Only}
use Rattle.tables.specs.Tables.{Tab, emptied}
use Rattle.live.specs.declared.row.KeyRow.{KeyRow}
use Rattle.live.specs.declared.queue.QueueRow.{QueueRow}
use Rattle.live.specs.declared.stage.Event.TheVariants.{Sent}
use Rattle.live.specs.Queues.{queue_on}
use Rattle.live.specs.Requests.{until}
use Rattle.live.specs.Keys.{stepped}
use Rattle.trackers.specs.Targets.{target_row}
use Rattle.model.specs.Fet.{Fet, with_keys, with_next, with_waiter}
use Rattle.model.specs.Tries.{Fetched, try_keys, limit}

-- a key is aimed at a peer
abbrev pub aims : {P K : Type 0} → Order P → Order K → List (Only (Pair K P)) → K → P → Bool
aims p k targets key peer = is_some (target_row k p key peer targets)

-- the queue in its order
abbrev pub queue : {P V K : Type 0} → Order K → Fet P V K → List (QueueRow K)
queue k f = (queue_on k (emptied f.listing) f.keys.rows).rows

-- what the walk of a fetch comes to, from what the link says, the time and the words ahead
unfoldable pub fetched : {P V K : Type 0} → Order P → Order K → (P → ℕ → Word) → ℕ → (ℕ → ℕ) → Fet P V K → Fetched P K
fetched p k word time w f =
    try_keys word time f.roster.peers.rows f.keys.rows (aims p k f.targets.rows) f.roster.shares (queue k f) w f.next limit None false

-- when to try the due keys again: at the least wait, or where none was met though some peer was allowed, at t
abbrev pub again : Option ℕ → Bool → ℕ → ℕ
again (Some u) allowed t = u
again None true t = t
again None false t = limit

-- none after a send
abbrev pub waiter_of : {P K : Type 0} → Option (Message P K) → ℕ → Option ℕ → Bool → ℕ → Option ℕ
waiter_of (Some s) late wait allowed t = None
waiter_of None late wait allowed t = Some (min late (again wait allowed t))

-- the key that was sent is out there under its id, from this time
abbrev pub sent_in : {P K : Type 0} → Order K → Option (Message P K) → ℕ → Tab (KeyRow K P) → Tab (KeyRow K P)
sent_in k None time t = t
sent_in k (Some s) time t = stepped k s.key (Sent s.id s.peer time) t

abbrev pub walked : {P V K : Type 0} → Order K → Fetched P K → ℕ → Fet P V K → Fet P V K
walked k r time f =
    with_keys (sent_in k r.sent time f.keys)
    (with_waiter (waiter_of r.sent r.late r.wait r.allowed (until time f.delay)) (with_next r.next f))

-- ---- fetch
abbrev pub fetch_answer : {P V K : Type 0} → Order P → Order K → (P → ℕ → Word) → ℕ → (ℕ → ℕ) → Fet P V K → Option (Message P K)
fetch_answer p k word time w f = (fetched p k word time w f).sent

abbrev pub fetch_words : {P V K : Type 0} → Order P → Order K → (P → ℕ → Word) → ℕ → (ℕ → ℕ) → Fet P V K → ℕ → ℕ
fetch_words p k word time w f = (fetched p k word time w f).words

abbrev pub fetch_step : {P V K : Type 0} → Order P → Order K → (P → ℕ → Word) → ℕ → (ℕ → ℕ) → Fet P V K → Fet P V K
fetch_step p k word time w f = walked k (fetched p k word time w f) time f
