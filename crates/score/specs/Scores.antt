-- What a record makes of a score.
use Rattle.std.specs.Prelude.{ℕ, Some, None, Option}
use Rattle.std.proofs.Common.{arith}
use Rattle.score.specs.Means.{scaled, charged, halfway, weighed}
use Rattle.score.specs.declared.means.Means.{Means}

-- the first record sets each mean
abbrev pub first : ℕ → ℕ → Means
first elapsed size = record {
  size = scaled size;
  time = charged elapsed;
  short = omega arith;
  begun = omega arith;
  soon = omega arith;
}

abbrev pub later : Means → ℕ → ℕ → Means
later m elapsed size = record {
  size = halfway m.size (scaled size);
  time = halfway m.time (charged elapsed);
  short = omega arith;
  begun = omega arith;
  soon = omega arith;
}

abbrev pub means_after : Option Means → ℕ → ℕ → Means
means_after None elapsed size = first elapsed size
means_after (Some m) elapsed size = later m elapsed size

abbrev pub weight_of : Option Means → ℕ
weight_of None = 1
weight_of (Some m) = weighed m.size m.time
