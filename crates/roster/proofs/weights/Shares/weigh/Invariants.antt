use Rattle.std.proofs.Common.{◌≡◌, ◌++◌, drop, vec_items, length}
use Rattle.tables.specs.Tables.{tab_of}
use Rattle.roster.specs.Peers.{shares_for}
use Rattle.roster.proofs.weights.Shares.weigh.Given as goal

abbrev pub invariant-loop-row : goal.invariant-loop-row
invariant-loop-row g l =
    let made = shares_for g.P.Ordered g.V.Rating l.excluded.own (tab_of l.excluded.blocked.now).rows in
    record {
      made : vec_items l.self.rows ++ made (drop l.row-index l.rows) ≡ made l.rows;
      long : length (vec_items l.self.rows) ≡ l.row-index;
      most : l.self.most ≡ l.initial.self.most;
    }
