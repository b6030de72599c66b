use Rattle.std.proofs.Common.{rules}
use Rattle.link.specs.Boxes.{Empty}
use Rattle.link.proofs.Written.{holds_taken}
use Rattle.link.proofs.outbox.Outbox.new.Goals as goal

pub returns : goal.returns
returns g c =
    let e : Empty c.args.room (record { bytes = c.in_ok-bytes.bytes; tally = c.new-2.result }) = search rules in
    (e, holds_taken g.P.Storable g.K.Storable c.args.room _ e)
