use Rattle.std.proofs.Common.{◌≡◌, take}
use Rattle.tables.specs.Tables.{tab_of}
use Rattle.trackers.specs.Targets.{add_all}
use Rattle.trackers.proofs.targets.Targets.add.Given as goal

abbrev pub invariant-loop-peer : goal.invariant-loop-peer
invariant-loop-peer g l = tab_of l.self.table ≡ add_all g.K.Ordered g.P.Ordered l.key (tab_of l.initial.self.table) (take l.peer-index l.peers)
