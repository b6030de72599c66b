use Rattle.std.proofs.Common.{◌≡◌, ◌+◌, ◌++◌, true, drop, vec_items, nat_le, length, sym, ap, ◌∙◌, arith, rules}
use Rattle.tables.specs.Only.{only, only_rows}
use Rattle.tables.proofs.Steps.{made_over, made_all, only_more, only_none}
use Rattle.tables.proofs.table.passes.Table+Only+K.fill.Goals as goal

pub loop-key-preserved : goal.loop-key-preserved
loop-key-preserved g c = (
  ap (λ t. t ++ only_rows (drop (c.loop-key.key-index + 1) c.args.list.now)) c.push_reserved.ensures.items
      ∙ made_over only_rows (vec_items c.loop-key.self.rows) (only_rows c.args.list.now) c.args.list.now c.loop-key.key-index c.key-item.result (only c.key-item.result) (omega arith) c.key-item.is (only_more _ _) c.loop-key.invariant.0,
  omega arith,
  c.loop-key.invariant.2,
  c.loop-key.invariant.3,
)

pub returns-clause-table : goal.returns-clause-table
returns-clause-table g c =
    let i = made_all only_rows (vec_items c.loop-key.self.rows) (only_rows c.args.list.now) c.args.list.now c.loop-key.key-index only_none (omega arith) c.loop-key.invariant.0 in
    let h : nat_le (length c.args.list.now) c.args.self.now.most ≡ true = search rules in
    rw (h, sym i) search rules
