-- Orders: of numbers, of one part and then the next, and of bytes. Each is the library's.
--     by_number m n    of two numbers
--     and_then o p     the first order, and where it is equal the second
use Rattle.std.specs.Prelude.{ℕ, List}
use Rattle.std.specs.declared.cmp.Ordering.{Ordering}
use Rattle.std.specs.Cmp.Lexicographic.{slice_cmp}
pub use Rattle.std.specs.Ordering.{nat_cmp as by_number, ordering_then as and_then}

-- byte by byte; where one list ends first, it is the lesser
abbrev pub by_bytes : List ℕ → List ℕ → Ordering
by_bytes xs ys = slice_cmp by_number xs ys
