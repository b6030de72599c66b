use Rattle.std.proofs.Common.{◌≡◌, take}
use Rattle.tables.specs.Tables.{tab_of}
use Rattle.waiting.specs.Waits.{wait_all}
use Rattle.waiting.proofs.tracker.Subscribers.insert.Given as goal

abbrev pub invariant-loop-subscriber : goal.invariant-loop-subscriber
invariant-loop-subscriber g l =
    tab_of l.self.table ≡ wait_all g.K.Ordered g.S.Ordered l.key (tab_of l.initial.self.table) (take l.subscriber-index l.subscribers)
