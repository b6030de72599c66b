-- What making the subscribers' tracker answers.
use Rattle.std.specs.Prelude.{◌≡◌, ℕ, ◌<◌, ◌≤◌, [], Ok, Err, Result}
use Rattle.tables.specs.declared.table.error.TableError.{TableError}
use Rattle.tables.specs.declared.table.error.TableError.TheVariants.{Rows, Memory}
use Rattle.tables.specs.Tables.{Tab, tab_of, Outside}
use Rattle.waiting.specs.declared.tracker.Subscribers.{Subscribers}

-- waiting pairs at most, and target pairs at most
abbrev pub most_pairs : ℕ
most_pairs = 4096

abbrev pub empty : {R : Type 0} → ℕ → ℕ → Tab R
empty engine most = record { engine = engine; most = most; rows = [] }

abbrev pub Refused : ℕ → ℕ → TableError → Type 0
Refused most bound Rows = Outside most bound
Refused most bound Memory = (0 < most) × (most ≤ bound)

-- a new value of which the view is so, or why there is none
abbrev pub MadeAs : {T V : Type 0} → (T → V) → V → ℕ → ℕ → Result T TableError → Type 0
MadeAs view new bound most (Ok t) = (0 < most) × (most ≤ bound) × (view t ≡ new)
MadeAs view new bound most (Err e) = Refused most bound e

abbrev pub MadeSubscribers : {K S : Type 0} → ℕ → ℕ → Result (Subscribers K S) TableError → Type 0
MadeSubscribers engine most r = MadeAs (λ t. tab_of t.table) (empty engine most) most_pairs most r
