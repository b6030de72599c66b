use Rattle.std.proofs.Common.{◌+◌, drop, sym, ap, ◌∙◌, arith}
use Rattle.tables.specs.Tables.{tab_of}
use Rattle.model.specs.Tries.{left_out}
use Rattle.model.specs.Fetches.{aims}
use Rattle.model.proofs.Outs.{kept_in, left_out_lem, out_all}
use Rattle.walk.proofs.allowed.leave_out.Goals as goal
use Rattle.walk.proofs.allowed.leave_out.Goals.{then-not-is_kept, else-not-is_kept}

pub loop-i-preserved : goal.loop-i-preserved
loop-i-preserved g c =
    let ok = aims g.P.Ordered g.K.Ordered (tab_of c.args.targets.now.table).rows c.args.key in
    let ps = c.args.peers.now in
    let i = c.loop-i.i in
    let p = c.index-peers-i.result in
    elim c.if-not-is_kept.branch [
      | then-not-is_kept w ↦
          ap (left_out ok (drop (i + 1) ps) (i + 1)) w.shares-is
          ∙ sym (left_out_lem ok ps i c.loop-i.shares p c.loop-i-test.true c.index-peers-i.is (sym c.is_kept.ensures ∙ w.if-not-is_kept.true))
          ∙ c.loop-i.invariant
      | else-not-is_kept w ↦
          ap (left_out ok (drop (i + 1) ps) (i + 1)) w.shares-is
          ∙ sym (kept_in ok ps i c.loop-i.shares p c.loop-i-test.true c.index-peers-i.is (sym c.is_kept.ensures ∙ w.if-not-is_kept.false))
          ∙ c.loop-i.invariant
    ]

pub returns : goal.returns
returns g c =
    let ok = aims g.P.Ordered g.K.Ordered (tab_of c.args.targets.now.table).rows c.args.key in
    sym (out_all ok c.args.peers.now c.loop-i.i c.loop-i.shares (omega arith)) ∙ c.loop-i.invariant
