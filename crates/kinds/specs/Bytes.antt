-- Numbers as big-endian bytes. The first byte is the whole quotient: for a number that fits the width it is a byte, and
-- for any other number two different ones still have different forms.
use Rattle.std.specs.Prelude.{ℕ, ◌/◌, ◌%◌, List, [], ◌∷◌}

abbrev pub be2 : ℕ → List ℕ
be2 n = (n / 256) ∷ (n % 256) ∷ []

abbrev pub be4 : ℕ → List ℕ
be4 n = (n / 16777216) ∷ (n / 65536 % 256) ∷ (n / 256 % 256) ∷ (n % 256) ∷ []

abbrev pub be8 : ℕ → List ℕ
be8 n =
    (n / 72057594037927936)
    ∷ (n / 281474976710656 % 256)
    ∷ (n / 1099511627776 % 256)
    ∷ (n / 4294967296 % 256)
    ∷ (n / 16777216 % 256)
    ∷ (n / 65536 % 256)
    ∷ (n / 256 % 256)
    ∷ (n % 256)
    ∷ []
