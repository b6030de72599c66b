-- The bounds that ratings keep.
use Rattle.std.specs.Prelude.{ℕ}

-- the longest record, in bytes
abbrev pub most_bytes : ℕ
most_bytes = 1048576

-- the longest time that a call can charge, in nanoseconds: a time below 2 ^ 62, and the longest timeout or delay on top
abbrev pub most_time : ℕ
most_time = 4611689618427387903

-- the greatest weight: a record of the greatest length in one nanosecond, and one
abbrev pub most_weight : ℕ
most_weight = 1048576000000001

-- a mean length keeps 32 fractional bits
abbrev pub fraction : ℕ
fraction = 4294967296

abbrev pub nanoseconds : ℕ
nanoseconds = 1000000000
