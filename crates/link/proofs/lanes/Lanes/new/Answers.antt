use Rattle.std.proofs.Common.{◌≡◌, replicate, Some, None, ap, ⊎_elim, arith}
use lib.ListN.{get_or-replicate}
use Rattle.std.proofs.lemmas.List.{get_or_past}
use Rattle.std.proofs.lemmas.Bool.{cases_lt}
use Rattle.link.specs.Lanes.{free_from, lane_of, InTime}
use Rattle.link.proofs.lanes.Lanes.new.Goals as goal

-- every lane of new lanes is free in time
new_timely : InTime (replicate 256 (Some 0))
new_timely s = ⊎_elim
    (λ h. let e : free_from (lane_of (replicate 256 (Some 0)) s) ≡ 0 = ap free_from (get_or-replicate 256 s (Some 0) None h) in omega arith)
    (λ h. let e : free_from (lane_of (replicate 256 (Some 0)) s) ≡ 0 = ap free_from (get_or_past (replicate 256 (Some 0)) s None h) in omega arith)
    (cases_lt s 256)

pub invariant_of-result-clause-timely : goal.invariant_of-result-clause-timely
invariant_of-result-clause-timely g c = new_timely
