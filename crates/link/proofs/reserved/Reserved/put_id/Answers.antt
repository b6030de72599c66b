use Rattle.std.proofs.Common.{append_assoc, rules}
use Rattle.link.proofs.reserved.Reserved.put_id.Goals as goal

pub returns : goal.returns
returns c = record {
  bytes = simp (c.put_bytes.ensures.bytes, c.put_head.ensures.bytes, c.id_bytes.ensures, append_assoc);
  room = search rules;
}
