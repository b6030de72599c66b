-- What making a tracker answers.
use Rattle.std.specs.Prelude.{ℕ, None, Result}
use Rattle.tables.specs.declared.table.error.TableError.{TableError}
use Rattle.tables.specs.Tables.{tab_of}
use Rattle.waiting.specs.Made.{most_pairs, empty, MadeAs}
use Rattle.trackers.specs.declared.targets.Targets.{Targets}
use Rattle.trackers.specs.declared.slips.Slips.{Slips}
use Rattle.trackers.specs.Slips.{slips_of}

abbrev pub most_slips : ℕ
most_slips = 2048

abbrev pub MadeTargets : {K P : Type 0} → ℕ → ℕ → Result (Targets K P) TableError → Type 0
MadeTargets engine most r = MadeAs (λ t. tab_of t.table) (empty engine most) most_pairs most r

abbrev pub MadeSlips : {K P : Type 0} → ℕ → ℕ → Result (Slips K P) TableError → Type 0
MadeSlips engine most r = MadeAs slips_of (record { rows = empty engine most; last = None }) most_slips most r
