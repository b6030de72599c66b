-- Bytes in memory that is reserved once.
use Rattle.std.specs.Prelude.{◌≡◌, ℕ, ◌+◌, ◌≤◌, List, [], ◌++◌, length, vec_items}
use Rattle.link.specs.declared.reserved.Reserved.{Reserved}

-- nothing is written
pub record Blank (most : ℕ) (r : Reserved) : Type 0 where
  pub bytes : vec_items r.written ≡ []
  pub room : r.room ≡ most

-- as many bytes more have room
abbrev pub HasRoom : ℕ → Reserved → Type 0
HasRoom n r = length (vec_items r.written) + n ≤ r.room

-- bytes were appended
pub record Grown (r : Reserved) (more : List ℕ) (s : Reserved) : Type 0 where
  pub bytes : vec_items s.written ≡ vec_items r.written ++ more
  pub room : s.room ≡ r.room
