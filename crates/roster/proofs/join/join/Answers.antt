use Rattle.std.proofs.Common.{◌≡◌, ◌++◌, ◌∷◌, [], length, length-append, ap, ◌∙◌, arith}
use Rattle.tables.specs.Tables.{Tab, tab_of, with_rows}
use Rattle.roster.specs.Peers.{joined}
use Rattle.roster.proofs.Joins.{pushed, join_step, join_done}
use Rattle.roster.proofs.join.join.Goals as goal

pub loop-peer-preserved : goal.loop-peer-preserved
loop-peer-preserved g c =
    let t = tab_of c.loop-peer.out in
    let i = c.loop-peer.invariant in
    let new : tab_of c.push.new.self ≡ with_rows t (t.rows ++ c.row_of-row.result.0 ∷ []) = pushed c.row_of-row.result.0 t (tab_of c.push.new.self) c.push.ensures.table (omega arith) in
    record {
      made = join_step g.P.Ordered g.V.Rating c.args.list.now t.rows (joined g.P.Ordered g.V.Rating c.args.list.now c.args.old.now) c.loop-peer.peer-index c.peer-item.result _ _ c.loop-peer.rest.now _ (omega arith) c.peer-item.is c.row_of-row.ensures.row c.row_of-row.ensures.rest (ap (λ (x : Tab _). x.rows) new) i.made;
      long = ap (λ (x : Tab _). length x.rows) new ∙ simp length-append (omega arith);
      engine = ap (λ (x : Tab _). x.engine) new ∙ i.engine;
      most = ap (λ (x : Tab _). x.most) new ∙ i.most;
    }

pub returns : goal.returns
returns g c =
    let rows = join_done g.P.Ordered g.V.Rating c.args.list.now _ _ c.loop-peer.peer-index c.loop-peer.rest.now (omega arith) c.loop-peer.invariant.made in
    cc
