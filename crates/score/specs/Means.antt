-- What a score keeps, and what it weighs.
use Rattle.std.specs.Prelude.{ℕ, ◌+◌, ◌*◌, ◌/◌, min, max}
use Rattle.score.specs.Bounds.{most_bytes, most_time, fraction, nanoseconds}

-- a length as it is recorded: at most the longest record, times 2 ^ 32
abbrev pub scaled : ℕ → ℕ
scaled size = min size most_bytes * fraction

-- a time as it is recorded: 0 counts as 1, and none is longer than a call can charge
abbrev pub charged : ℕ → ℕ
charged elapsed = max (min elapsed most_time) 1

-- a later record makes a mean half of mean plus new, rounded down
abbrev pub halfway : ℕ → ℕ → ℕ
halfway mean new = (mean + new) / 2

-- bytes a second, rounded down, and one
abbrev pub weighed : ℕ → ℕ → ℕ
weighed size time = 1 + size * nanoseconds / (time * fraction)
