use Rattle.std.proofs.Common.{Some, ap}
use Rattle.score.specs.Scores.{means_after}
use Rattle.score.specs.declared.means.Means.{Means}
use Rattle.score.specs.declared.score.Score.{Score}
use Rattle.score.proofs.Records.{means_same}
use Rattle.score.proofs.score.ScoreRating.record.Goals as goal

abbrev of : Means → Score
of m = record { means = Some m }

pub returns : goal.returns
returns c =
    ap of
    (means_same c.means_with.result (means_after c.args.self.now.means c.args.elapsed c.args.size)
    c.means_with.ensures.size c.means_with.ensures.time)
