use Rattle.std.proofs.Common.{sym, ◌∙◌}
use Rattle.std.specs.Vec.{with_items}
use Rattle.roster.proofs.Hefts.{length_changed}
use Rattle.roster.proofs.participants.Participants.record.Goals as goal

pub invariant_of-self : goal.invariant_of-self
invariant_of-self g c =
    let r = c.args.self.now in
    record {
      beside = rw (c.reweigh.ensures.rows, length_changed) (r.beside ∙ sym r.peers.rows.ok.0 ∙ (with_items r.peers.rows c.record_row.new.rows).ok.0);
      reserved = c.reweigh.ensures.most ∙ r.reserved;
      ready = r.ready;
    }
