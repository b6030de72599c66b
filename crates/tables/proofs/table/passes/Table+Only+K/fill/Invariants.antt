use Rattle.std.proofs.Common.{◌≡◌, ◌++◌, drop, vec_items, vec_len}
use Rattle.tables.specs.Only.{only_rows}
use Rattle.tables.proofs.table.passes.Table+Only+K.fill.Given as goal

abbrev pub invariant-loop-key : goal.invariant-loop-key
invariant-loop-key g l =
    (vec_items l.self.rows ++ only_rows (drop l.key-index l.list) ≡ only_rows l.list) × (vec_len l.self.rows ≡ l.key-index)
    × (l.self.engine ≡ l.initial.self.engine) × (l.self.most ≡ l.initial.self.most)
