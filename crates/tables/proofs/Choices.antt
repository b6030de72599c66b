-- One choice between two of those found.
use Rattle.std.proofs.Common.{◌≡◌, Bool, true, false, Some, Option, Bor, refl, sym, ◌∙◌}
use Rattle.std.specs.Fn.{Mut, Called, ComputesOnPairs}
use Rattle.tables.specs.Scans.{better}
use Rattle.tables.proofs.Computed.{computes_two}

module _ {F A : Type 0} {g : Mut F (Bor A × (Bor A × Unit {0})) Bool} {f f' : F} (p : A → A → Bool) {x y : Bor A} where
  -- a closure that computes p goes on to
  pub computes_on : {r : Bool} → Called g f (x, (y, tt)) r f' → ComputesOnPairs g p f → ComputesOnPairs g p f'
  computes_on e k = (computes_two p k e).1

  module _ {a b : A} {best next : Option A} where
    pub newer : Called g f (x, (y, tt)) true f' → ComputesOnPairs g p f → x.now ≡ a → y.now ≡ b → best ≡ Some b → next ≡ Some a → Some a ≡ better p best next
    newer e k m n i j = let h : true ≡ p a b = (computes_two p k e).0 ∙ (λ t. p (m t) (n t)) in rw (i, j, sym h) refl

    pub older : Called g f (x, (y, tt)) false f' → ComputesOnPairs g p f → x.now ≡ a → y.now ≡ b → best ≡ Some b → next ≡ Some a → Some b ≡ better p best next
    older e k m n i j = let h : false ≡ p a b = (computes_two p k e).0 ∙ (λ t. p (m t) (n t)) in rw (i, j, sym h) refl
