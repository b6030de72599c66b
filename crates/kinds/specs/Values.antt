-- 32 bytes are told apart by their bytes.
use Rattle.std.specs.Prelude.{◌≡◌, length}
use mathlib.Core.HLevel.{is_prop→PathP}
use Rattle.std.proofs.Math.Nat.{ℕ_set}
use Rattle.kinds.specs.declared.bytes32.Bytes32.{Bytes32}
use Rattle.kinds.specs.declared.named.Named.{Named}

pub bytes32_same : (x y : Bytes32) → x.bytes ≡ y.bytes → x ≡ y
bytes32_same x y e = λ i. record {
  bytes = e i;
  whole = is_prop→PathP (λ j. length (e j) ≡ 32) (λ j. ℕ_set (length (e j)) 32) x.whole y.whole i;
}

-- 32 bytes in a role
pub named_same : {R : Type 0} (x y : Named R) → x.bytes.bytes ≡ y.bytes.bytes → x ≡ y
named_same x y e = λ i. record { bytes = bytes32_same x.bytes y.bytes e i; role = x.role }
