-- What each event makes of each stage.
use Rattle.std.specs.Prelude.{ℕ, ◌+◌, min, true, Some, None, Option}
use Rattle.live.specs.declared.stage.Stage.{Stage}
use Rattle.live.specs.declared.stage.Stage.TheVariants.{Queued, Out, Judged}
use Rattle.live.specs.declared.stage.Event.{Event}
use Rattle.live.specs.declared.stage.Event.TheVariants.{Sent, Returned, Answered, Redelivered, Rejected}
use Rattle.live.specs.declared.row.KeyRow.{KeyRow}

abbrev pub moved_to : {P : Type 0} → Stage P → Event P → Option (Stage P)
moved_to (Queued retried deadline) (Sent id peer start) = Some (Out id peer start)
moved_to (Queued retried deadline) (Returned time) = None
moved_to (Queued retried deadline) (Answered slip) = None
moved_to (Queued retried deadline) (Redelivered slip) = None
moved_to (Queued retried deadline) (Rejected time) = None
moved_to (Out id peer start) (Sent other to from) = None
moved_to (Out id peer start) (Returned time) = Some (Queued true time)
moved_to (Out id peer start) (Answered slip) = Some (Judged slip)
moved_to (Out id peer start) (Redelivered slip) = None
moved_to (Out id peer start) (Rejected time) = None
moved_to (Judged slip) (Sent id peer start) = None
moved_to (Judged slip) (Returned time) = None
moved_to (Judged slip) (Answered other) = None
moved_to (Judged slip) (Redelivered other) = Some (Judged other)
moved_to (Judged slip) (Rejected time) = Some (Queued true time)

-- one more where the key is queued again, up to 2 ^ 32 - 1
abbrev pub retries_after : {P : Type 0} → ℕ → Event P → ℕ
retries_after n (Sent id peer start) = n
retries_after n (Returned time) = min (n + 1) 4294967295
retries_after n (Answered slip) = n
retries_after n (Redelivered slip) = n
retries_after n (Rejected time) = min (n + 1) 4294967295

abbrev pub staged : {K P : Type 0} → KeyRow K P → ℕ → Option (Stage P) → Option (KeyRow K P)
staged r n None = None
staged r n (Some x) = Some (record { key = r.key; aimed = r.aimed; retries = n; stage = x })

abbrev pub row_after : {K P : Type 0} → KeyRow K P → Event P → Option (KeyRow K P)
row_after r e = staged r (retries_after r.retries e) (moved_to r.stage e)
