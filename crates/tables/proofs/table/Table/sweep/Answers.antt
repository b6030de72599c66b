use Rattle.std.proofs.Common.{rules, ap}
use Rattle.std.specs.Fn.{ComputesKey, always_mut}
use denote.Param.Always.{mut_by}
use Rattle.tables.specs.Sweeps.{Ruled}
use Rattle.tables.specs.Tables.{tab_of, with_rows}
use Rattle.tables.proofs.Sweeps.{ruled_callable, ruled_computes, swept_by}
use Rattle.tables.proofs.table.Table.sweep.Goals as goal

pub retain_mut-requires : goal.retain_mut-requires
retain_mut-requires g c = mut_by _ (λ y. always_mut g.F.FnMut y.0.now) (λ s a i. i) (λ s a r t i e. search (rules, ruled_callable)) _ c.requires

pub returns : goal.returns
returns g c h k =
    ap (with_rows (tab_of c.args.self.now)) (swept_by _ (λ s. ComputesKey g.F.FnMut h s.0.now) h (λ s x b t y e i.
    let r : Ruled g.F.FnMut s.0.now e.shown.now b t.0.now e.left.now = search rules in
    ruled_computes g.F.FnMut h (rw (e.shows, e.leaves) at r) i)
    _ k _ _ c.retain_mut.ensures.filtered)
