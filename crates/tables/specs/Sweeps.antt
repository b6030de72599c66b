-- One call of the rule of a sweep.
use Rattle.std.specs.Prelude.{◌≡◌, Bool, Option}
use Rattle.std.specs.Borrow.{Bor}
use Rattle.std.specs.Fn.{CalledAt, Mut}
use Rattle.std.specs.Option.{is_some, unwrap_or}

-- a call of a rule at a row x: whether the row stays, and the row x' that it then is
pub record Ruled {F R : Type 0} (g : Mut F (Bor R × Unit {0}) (Option R)) (f : F) (x : R) (stays : Bool) (f' : F) (x' : R) : Type 0 where
  pub made : Option R
  pub called : CalledAt g f x made f'
  pub kept : stays ≡ is_some made
  pub changed : x' ≡ unwrap_or made x
