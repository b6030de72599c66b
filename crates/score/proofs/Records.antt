-- Two means are the same where their numbers are.
use Rattle.std.proofs.Common.{◌≡◌, ◌*◌, ◌≤◌}
use mathlib.Core.HLevel.{is_prop→PathP}
use native.Mathlib.Bridge.{le_prop}
use Rattle.score.specs.Bounds.{most_bytes, most_time, fraction}
use Rattle.score.specs.declared.means.Means.{Means}

pub means_same : (x y : Means) → x.size ≡ y.size → x.time ≡ y.time → x ≡ y
means_same x y p q = λ i. record {
  size = p i;
  time = q i;
  short = is_prop→PathP (λ j. p j ≤ most_bytes * fraction) (λ j. le_prop) x.short y.short i;
  begun = is_prop→PathP (λ j. 1 ≤ q j) (λ j. le_prop) x.begun y.begun i;
  soon = is_prop→PathP (λ j. q j ≤ most_time) (λ j. le_prop) x.soon y.soon i;
}
