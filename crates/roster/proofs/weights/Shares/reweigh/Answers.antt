use Rattle.std.proofs.Common.{length-set, arith}
use Rattle.roster.proofs.Hefts.{heft_fits, light_set, back_set}
use Rattle.roster.proofs.weights.Shares.reweigh.Goals as goal

pub invariant_of-self : goal.invariant_of-self
invariant_of-self c =
    let r = c.args.self.now in
    let light = light_set c.args.weight _ c.reweighed_share.result r.rows.items c.args.i (omega arith) c.index.ensures c.reweighed_share.ensures r.light c.requires in
    record {
      few = r.few;
      within = r.within;
      reserved = r.reserved;
      light = light;
      fits = heft_fits _ light (simp length-set (omega arith));
      back = back_set c.args.weight _ _ r.rows.items c.args.i (omega arith) c.index.ensures c.reweighed_share.ensures r.back;
    }
