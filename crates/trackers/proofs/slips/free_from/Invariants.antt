use Rattle.std.proofs.Common.{◌≡◌, ◌-◌}
use Rattle.tables.specs.Tables.{tab_of}
use Rattle.trackers.specs.Slips.{free_from}
use Rattle.trackers.proofs.slips.free_from.Given as goal

abbrev pub invariant-loop : goal.invariant-loop
invariant-loop g l = free_from l.most (tab_of l.slips).rows (l.most - l.counter) l.number ≡ free_from l.most (tab_of l.slips).rows l.most l.start
