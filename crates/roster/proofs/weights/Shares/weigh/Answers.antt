use Rattle.std.proofs.Common.{◌∙◌, arith}
use Rattle.std.proofs.lemmas.Grind.{common_steps}
use Rattle.tables.specs.Tables.{tab_of}
use Rattle.roster.proofs.Hefts.{shares_step}
use Rattle.roster.proofs.weights.Shares.weigh.Goals as goal

pub loop-row-preserved : goal.loop-row-preserved
loop-row-preserved g c =
    let i = c.loop-row.invariant in
    record {
      made = shares_step g.P.Ordered g.V.Rating c.args.excluded.own (tab_of c.args.excluded.blocked.now).rows _ _ c.share_of.result c.args.rows.now c.loop-row.row-index c.row-item.result c.push.ensures.rows c.share_of.ensures (omega arith) c.row-item.is i.made;
      long = grind (arith, common_steps);
      most = c.push.ensures.most ∙ i.most;
    }
