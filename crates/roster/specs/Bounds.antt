-- The bound of the roster and of the blocked list.
use Rattle.std.specs.Prelude.{ℕ}

-- rows at most
abbrev pub most_peers : ℕ
most_peers = 1024
