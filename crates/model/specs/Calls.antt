-- What each call of a fetcher but `fetch` answers, and what the fetcher then holds.
use Rattle.std.specs.Prelude.{ℕ, ◌-◌, max, Bool, true, false, cond, List, length, count_by, is_some, Some, None, Option, nat_le}
use Rattle.kinds.specs.declared.ordered.Ordered.{Ghosts as Order}
use Rattle.score.specs.declared.rating.Rating.{Ghosts as Rate}
use Rattle.tables.specs.Rows.{lookup}
use Rattle.tables.specs.Only.{only_rows}
use Rattle.tables.specs.Tables.{fits, put_in, take_out, sweep_by, fill_with}
use Rattle.roster.specs.Rosters.{taken_over, weighed_in, recorded_in}
use Rattle.live.specs.declared.row.KeyRow.{KeyRow}
use Rattle.live.specs.declared.queue.QueueRow.{QueueRow}
use Rattle.live.specs.declared.stage.Stage.{Stage}
use Rattle.live.specs.declared.stage.Stage.TheVariants.{Queued, Out, Judged}
use Rattle.live.specs.declared.stage.Event.{Event}
use Rattle.live.specs.declared.stage.Event.TheVariants.{Returned, Rejected}
use Rattle.live.specs.declared.requests.Request.{Request}
use Rattle.live.specs.Keys.{key_of, fresh_row, stepped, step_fits, aimed_in}
use Rattle.live.specs.Requests.{until, earliest, asked}
use Rattle.live.specs.Queues.{first_queued}
use Rattle.waiting.specs.declared.rows.WaitRow.{WaitRow}
use Rattle.trackers.specs.Targets.{add_all, off_key}
use Rattle.trackers.specs.Lives.{live_key, live_target}
use Rattle.model.specs.Fet.{Fet, with_roster, with_blocked, with_keys, with_targets, with_waiter}

-- the row of a live key
abbrev pub row_of : {P V K : Type 0} → Order K → K → Fet P V K → Option (KeyRow K P)
row_of k key f = lookup k.order key_of key f.keys.rows

abbrev pub cleared : {P V K : Type 0} → Fet P V K → Fet P V K
cleared f = with_waiter None f

-- ---- peers
-- a list becomes the roster, where there is room for it
abbrev pub reconcile_answer : {P V K : Type 0} → List P → Fet P V K → Bool
reconcile_answer list f = nat_le (length list) f.roster.peers.most

abbrev pub reconcile_step : {P V K : Type 0} → Order P → Rate V → List P → Fet P V K → Fet P V K
reconcile_step p v list f =
    cond (reconcile_answer list f) (cleared (with_roster (taken_over p v f.own f.blocked.rows list f.roster) f)) f

-- a list becomes the blocked list, where there is room for it, and every row is weighed anew
abbrev pub block_answer : {P V K : Type 0} → List P → Fet P V K → Bool
block_answer list f = nat_le (length list) f.blocked.most

abbrev pub weighed : {P V K : Type 0} → Order P → Rate V → Fet P V K → Fet P V K
weighed p v f = with_roster (weighed_in p v f.own f.blocked.rows f.roster) f

abbrev pub block_step : {P V K : Type 0} → Order P → Rate V → List P → Fet P V K → Fet P V K
block_step p v list f =
    cond (block_answer list f) (cleared (weighed p v (with_blocked (fill_with (only_rows list) (length list) f.blocked) f))) f

-- an exchange recorded in the row of a peer
abbrev pub recorded : {P V K : Type 0} → Order P → Rate V → P → ℕ → ℕ → Fet P V K → Fet P V K
recorded p v peer elapsed size f = with_roster (recorded_in p v peer elapsed size f.roster) f

-- ---- targets
-- what is left after a change to a live key
abbrev pub where_live : {P V K : Type 0} → Option (KeyRow K P) → Fet P V K → Fet P V K → Fet P V K
where_live None f g = f
where_live (Some r) f g = g

abbrev pub aim_answer : {P V K : Type 0} → Order K → K → Fet P V K → Bool
aim_answer k key f = is_some (row_of k key f)

abbrev pub aim_step : {P V K : Type 0} → Order P → Order K → K → List P → Fet P V K → Fet P V K
aim_step p k key peers f =
    where_live (row_of k key f) f (cleared (with_targets (add_all k p key f.targets peers) (with_keys (aimed_in k key true f.keys) f)))

abbrev pub unaim_step : {P V K : Type 0} → Order K → K → Fet P V K → Fet P V K
unaim_step k key f =
    where_live (row_of k key f) f (cleared (with_targets (sweep_by (off_key k key) f.targets) (with_keys (aimed_in k key false f.keys) f)))

abbrev pub has_aim : {K P : Type 0} → Option (KeyRow K P) → Bool
has_aim None = false
has_aim (Some r) = r.aimed

-- ---- keys
-- a new key is queued fresh, due at once
abbrev pub ready_in : {P V K : Type 0} → Order K → K → Option (KeyRow K P) → Fet P V K → Bool
ready_in k key None f = fits k.order key_of key f.keys
ready_in k key (Some r) f = false

abbrev pub ready_answer : {P V K : Type 0} → Order K → K → Fet P V K → Bool
ready_answer k key f = ready_in k key (row_of k key f) f

abbrev pub ready_step : {P V K : Type 0} → Order K → K → ℕ → Fet P V K → Fet P V K
ready_step k key time f =
    cond (ready_answer k key f) (cleared (with_keys (put_in k.order key_of (fresh_row key false time) f.keys) f)) f

-- a key moves as its stage says
abbrev pub move_answer : {P V K : Type 0} → Order K → K → Event P → Fet P V K → Bool
move_answer k key event f = step_fits k key event f.keys

abbrev pub moved : {P V K : Type 0} → Order K → K → Event P → Fet P V K → Fet P V K
moved k key event f = with_keys (stepped k key event f.keys) f

-- the event that queues a key again: a request comes back, a delivery is rejected
abbrev pub retry_at : {K P : Type 0} → Option (KeyRow K P) → ℕ → Event P
retry_at None deadline = Rejected deadline
retry_at (Some r) deadline =
    elim r.stage [
      | Queued retried due ↦ Rejected deadline
      | Out id peer start ↦ Returned deadline
      | Judged slip ↦ Rejected deadline
    ]

abbrev pub retry_of : {P V K : Type 0} → Order K → K → ℕ → Fet P V K → Event P
retry_of k key time f = retry_at (row_of k key f) (until time f.delay)

abbrev pub retry_answer : {P V K : Type 0} → Order K → K → ℕ → Fet P V K → Bool
retry_answer k key time f = move_answer k key (retry_of k key time f) f

abbrev pub retry_step : {P V K : Type 0} → Order K → K → ℕ → Fet P V K → Fet P V K
retry_step k key time f = cond (retry_answer k key time f) (cleared (moved k key (retry_of k key time f) f)) f

-- the key and its targets go
abbrev pub clear_step : {P V K : Type 0} → Order K → K → Fet P V K → Fet P V K
clear_step k key f = with_targets (sweep_by (off_key k key) f.targets) (with_keys (take_out k.order key_of key f.keys) f)

-- the keys that somebody waits for stay, with their targets
abbrev pub keep_keys : {P V K S : Type 0} → Order K → List (WaitRow K S) → Fet P V K → Fet P V K
keep_keys k waiting f = with_keys (sweep_by (live_key k waiting) f.keys) f

abbrev pub keep_targets : {P V K : Type 0} → Order K → Fet P V K → Fet P V K
keep_targets k f = with_targets (sweep_by (live_target k f.keys.rows) f.targets) f

abbrev pub retain_step : {P V K S : Type 0} → Order K → List (WaitRow K S) → Fet P V K → Fet P V K
retain_step k waiting f = cleared (keep_targets k (keep_keys k waiting f))

-- ---- requests
abbrev pub requested_key : {K P : Type 0} → Option (Request K P) → Option K
requested_key None = None
requested_key (Some q) = Some q.key

-- the earliest request is charged the timeout plus the delay
abbrev pub expired : {P V K : Type 0} → Order P → Rate V → Option (Request K P) → Fet P V K → Fet P V K
expired p v None f = f
expired p v (Some q) f = recorded p v q.peer (until f.timeout f.delay) 0 f

abbrev pub active_answer : {P V K : Type 0} → Fet P V K → Option K
active_answer f = requested_key (earliest f.timeout f.keys.rows)

abbrev pub active_step : {P V K : Type 0} → Order P → Rate V → Fet P V K → Fet P V K
active_step p v f = expired p v (earliest f.timeout f.keys.rows) f

-- the time since the start, 0 if the clock went back
abbrev pub since : {K : Type 0} → ℕ → Option (K × ℕ) → Option (K × ℕ)
since time None = None
since time (Some x) = Some (x.0, time - x.1)

abbrev pub response_answer : {P V K : Type 0} → Order P → ℕ → P → ℕ → Fet P V K → Option (K × ℕ)
response_answer p id peer time f = since time (asked p id peer f.keys.rows)

abbrev pub first_of_two : {K : Type 0} → Option (K × ℕ) → Option K
first_of_two None = None
first_of_two (Some x) = Some x.0

abbrev pub missing_answer : {P V K : Type 0} → Order P → ℕ → P → ℕ → Fet P V K → Option K
missing_answer p id peer time f = first_of_two (response_answer p id peer time f)

-- a missing answer is charged the elapsed time plus the delay
abbrev pub charged : {P V K : Type 0} → Order P → Rate V → P → Option (K × ℕ) → Fet P V K → Fet P V K
charged p v peer None f = f
charged p v peer (Some x) f = recorded p v peer (until x.1 f.delay) 0 f

abbrev pub missing_step : {P V K : Type 0} → Order P → Rate V → ℕ → P → ℕ → Fet P V K → Fet P V K
missing_step p v id peer time f = charged p v peer (response_answer p id peer time f) f

-- ---- questions
abbrev pub later_of : ℕ → Option ℕ → ℕ
later_of t None = t
later_of t (Some w) = max t w

-- the later of the first queued key's deadline and the waiter
abbrev pub pending_by : {K : Type 0} → Option (QueueRow K) → Option ℕ → Option ℕ
pending_by None waiter = None
pending_by (Some q) waiter = Some (later_of q.turn.deadline waiter)

abbrev pub pending_answer : {P V K : Type 0} → Order K → Fet P V K → Option ℕ
pending_answer k f = pending_by (first_queued k f.keys.rows) f.waiter

abbrev pub deadline_of : {K P : Type 0} → Option (Request K P) → Option ℕ
deadline_of None = None
deadline_of (Some q) = Some q.deadline

abbrev pub deadline_answer : {P V K : Type 0} → Fet P V K → Option ℕ
deadline_answer f = deadline_of (earliest f.timeout f.keys.rows)

abbrev pub stage_of : {K P : Type 0} → Option (KeyRow K P) → Option (Stage P)
stage_of None = None
stage_of (Some r) = Some r.stage

abbrev pub is_queued : {P : Type 0} → Stage P → Bool
is_queued (Queued retried deadline) = true
is_queued (Out id peer start) = false
is_queued (Judged slip) = false

abbrev pub is_sent : {P : Type 0} → Stage P → Bool
is_sent (Queued retried deadline) = false
is_sent (Out id peer start) = true
is_sent (Judged slip) = false

-- queued, or out
abbrev pub is_in : {P : Type 0} → Bool → Stage P → Bool
is_in true x = is_queued x
is_in false x = is_sent x

-- how many rows are queued, or out
abbrev pub count_in : {K P : Type 0} → Bool → List (KeyRow K P) → ℕ
count_in queued rows = count_by (λ r. is_in queued r.stage) rows
