-- The requests that are out, and the deliveries under judgement.
use Rattle.std.specs.Prelude.{ℕ, ◌+◌, min, Bool, false, cond, ◌&&◌, ◌||◌, List, is_some, Some, None, Option, ◌==◌, nat_lt}
use Rattle.std.specs.Ordering.{is_eq}
use Rattle.kinds.specs.declared.ordered.Ordered.{Ghosts as Order}
use Rattle.tables.specs.Scans.{first_of, best_of}
use Rattle.live.specs.declared.stage.Stage.{Stage}
use Rattle.live.specs.declared.stage.Stage.TheVariants.{Queued, Out, Judged}
use Rattle.live.specs.declared.row.KeyRow.{KeyRow}
use Rattle.live.specs.declared.requests.Request.{Request}

-- a deadline, in 64 bits
abbrev pub until : ℕ → ℕ → ℕ
until start timeout = min (start + timeout) 18446744073709551615

abbrev pub out_by : {K P : Type 0} → ℕ → K → Stage P → Option (Request K P)
out_by timeout key (Queued retried deadline) = None
out_by timeout key (Out id peer start) = Some (record { key = key; peer = peer; id = id; start = start; deadline = until start timeout })
out_by timeout key (Judged slip) = None

-- the request of a row, if it is out
abbrev pub out_of : {K P : Type 0} → ℕ → KeyRow K P → Option (Request K P)
out_of timeout r = out_by timeout r.key r.stage

-- an earlier deadline, then a smaller id
abbrev pub sooner : {K P : Type 0} → Request K P → Request K P → Bool
sooner a b = nat_lt a.deadline b.deadline || (a.deadline == b.deadline && nat_lt a.id b.id)

abbrev pub earliest : {K P : Type 0} → ℕ → List (KeyRow K P) → Option (Request K P)
earliest timeout rows = best_of sooner (out_of timeout) rows

-- the key that is out under an id at a peer, with its start
abbrev pub asked_by : {K P : Type 0} → Order P → ℕ → P → K → Stage P → Option (K × ℕ)
asked_by p id peer key (Queued retried deadline) = None
asked_by p id peer key (Out i q start) = cond (i == id && is_eq (p.order q peer)) (Some (key, start)) None
asked_by p id peer key (Judged slip) = None

abbrev pub asked_in : {K P : Type 0} → Order P → ℕ → P → KeyRow K P → Option (K × ℕ)
asked_in p id peer r = asked_by p id peer r.key r.stage

abbrev pub asked : {K P : Type 0} → Order P → ℕ → P → List (KeyRow K P) → Option (K × ℕ)
asked p id peer rows = first_of (asked_in p id peer) rows

-- an id is out
abbrev pub has_id : {P : Type 0} → ℕ → Stage P → Bool
has_id id (Queued retried deadline) = false
has_id id (Out i q start) = i == id
has_id id (Judged slip) = false

abbrev pub id_in : {K P : Type 0} → ℕ → KeyRow K P → Option K
id_in id r = cond (has_id id r.stage) (Some r.key) None

abbrev pub id_out : {K P : Type 0} → ℕ → List (KeyRow K P) → Bool
id_out id rows = is_some (first_of (id_in id) rows)

-- the key under judgement by a slip
abbrev pub has_slip : {P : Type 0} → ℕ → Stage P → Bool
has_slip n (Queued retried deadline) = false
has_slip n (Out i q start) = false
has_slip n (Judged slip) = slip == n

abbrev pub under_in : {K P : Type 0} → ℕ → KeyRow K P → Option K
under_in n r = cond (has_slip n r.stage) (Some r.key) None

abbrev pub under : {K P : Type 0} → ℕ → List (KeyRow K P) → Option K
under n rows = first_of (under_in n) rows
