use Rattle.std.proofs.Common.{◌≡◌, suc, ◌^◌, ◌<◌, length}
use Rattle.tables.specs.Tables.{tab_of}
use Rattle.live.specs.Requests.{id_out}
use Rattle.model.specs.Ids.{free_id}
use Rattle.model.proofs.Frees.{steps}
use Rattle.walk.proofs.ids.free_id.Given as goal

abbrev pub invariant-loop-free : goal.invariant-loop-free
invariant-loop-free g l = (l.free < 2 ^ 64) × (free_id (tab_of l.keys.table).rows l.free ≡ free_id (tab_of l.keys.table).rows l.id)

abbrev pub decreases-loop-free : goal.decreases-loop-free
decreases-loop-free g l = steps (suc (length (tab_of l.keys.table).rows)) (λ i. id_out i (tab_of l.keys.table).rows) l.free
