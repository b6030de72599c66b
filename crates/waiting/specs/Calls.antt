-- What a closure answers.
use Rattle.std.specs.Prelude.{◌≡◌}
use Rattle.std.specs.Borrow.{Bor}
use Rattle.std.specs.Fn.{Shared}

-- each call at a value gives what f gives of it
abbrev pub Gives : {F A R : Type 0} → Shared F (Bor A × Unit {0}) R → (A → R) → F → Type 0
Gives {F} {A} {R} g f closure = (x : Bor A) (r : R) → g.post closure (x, tt) r → r ≡ f x.now
