use Rattle.std.proofs.Common.{◌≡◌, drop}
use Rattle.std.specs.Fn.{ComputesKey, ComputesOnPairs, always_mut}
use Rattle.tables.specs.Scans.{best_from, best_of}
use Rattle.tables.proofs.scans.best.Given as goal

abbrev pub invariant-loop-row : goal.invariant-loop-row
invariant-loop-row g l =
    (always_mut g.F.FnMut l.initial.find → always_mut g.F.FnMut l.find)
    × (always_mut g.C.FnMut l.initial.ahead → always_mut g.C.FnMut l.ahead)
    × ((f : _) (p : _) → ComputesKey g.F.FnMut f l.initial.find → ComputesOnPairs g.C.FnMut p l.initial.ahead
    → ComputesKey g.F.FnMut f l.find × ComputesOnPairs g.C.FnMut p l.ahead × (best_from p f l.best (drop l.row-index l.rows) ≡ best_of p f l.rows))
