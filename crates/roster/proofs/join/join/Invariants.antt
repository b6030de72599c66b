use Rattle.std.proofs.Common.{◌≡◌, ◌++◌, drop, length}
use Rattle.tables.specs.Tables.{tab_of}
use Rattle.roster.specs.Peers.{joined}
use Rattle.roster.proofs.join.join.Given as goal

abbrev pub invariant-loop-peer : goal.invariant-loop-peer
invariant-loop-peer g l =
    record {
      made : (tab_of l.out).rows ++ joined g.P.Ordered g.V.Rating (drop l.peer-index l.list) l.rest ≡ joined g.P.Ordered g.V.Rating l.list l.old;
      long : length (tab_of l.out).rows ≡ l.peer-index;
      engine : (tab_of l.out).engine ≡ (tab_of l.initial.out).engine;
      most : (tab_of l.out).most ≡ (tab_of l.initial.out).most;
    }
