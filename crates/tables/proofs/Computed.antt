-- Clauses of functions that take a closure, where no call changes the closure.
use Rattle.std.proofs.Common.{◌≡◌, Bor, List, [], ◌∷◌, Bool, Option, ap, ◌∙◌}
use Rattle.std.specs.Fn.{Mut, Called, ComputesKey, ComputesOnPairs}
use Rattle.tables.specs.Scans.{first_of, best_of}
use Rattle.std.proofs.lemmas.Fn.{always_returns_same}

-- from a clause that holds of each function that the closure computes, at the function h, which each call gives
pub computed : {F X K : Type 0} {g : Mut F (Bor X × Unit {0}) K} {f : F} {P : (X → K) → Type 0} (h : X → K) → ((h : X → K) → ComputesKey g h f → P h)
    → ((a : Bor X × Unit {0}) (r : K) (f' : F) → Called g f a r f' → (r ≡ h a.0.now) × (f' ≡ f)) → P h
computed {g = g} {f = f} h clause calls = clause h (always_returns_same g (λ a r. r ≡ h a.0.now) f calls)

-- a call of a closure that computes h
pub computes : {F X K : Type 0} {g : Mut F (Bor X × Unit {0}) K} {f f' : F} (h : X → K) {x : Bor X} {r : K} → ComputesKey g h f → Called g f (x, tt) r f' → (r ≡ h x.now) × ComputesKey g h f'
computes {f' = f'} h {x} {r} k e = ((k.at ((x, tt) ∷ []) r f' e).0, record { at = λ xs. (k.at ((x, tt) ∷ xs) r f' e).1 })

-- and of one that computes p of two values
pub computes_two : {F X : Type 0} {g : Mut F (Bor X × (Bor X × Unit {0})) Bool} {f f' : F} (p : X → X → Bool) {x y : Bor X} {r : Bool} → ComputesOnPairs g p f → Called g f (x, (y, tt)) r f'
    → (r ≡ p x.now y.now) × ComputesOnPairs g p f'
computes_two {f' = f'} p {x} {y} {r} k e = ((k.at ((x, (y, tt)) ∷ []) r f' e).0, record { at = λ xs. (k.at ((x, (y, tt)) ∷ xs) r f' e).1 })

-- what is found first in the rows xs by a closure that no call changes
pub first_is : {F R A : Type 0} {g : Mut F (Bor R × Unit {0}) (Option A)} {f : F} {r : Option A} {xs : List R} (rows : List R) (h : R → Option A) → ((h : R → Option A) → ComputesKey g h f → r ≡ first_of h xs)
    → xs ≡ rows → ((a : Bor R × Unit {0}) (x : Option A) (f' : F) → Called g f a x f' → (x ≡ h a.0.now) × (f' ≡ f)) → r ≡ first_of h rows
first_is rows h clause e calls = computed h clause calls ∙ ap (first_of h) e

-- and what is best
pub best_is : {F C R A : Type 0} {g : Mut F (Bor R × Unit {0}) (Option A)} {k : Mut C (Bor A × (Bor A × Unit {0})) Bool} {f : F} {c : C} {r : Option A} {xs : List R} (rows : List R) (h : R → Option A) (p : A → A → Bool)
    → ((h : R → Option A) (p : A → A → Bool) → ComputesKey g h f → ComputesOnPairs k p c → r ≡ best_of p h xs)
    → xs ≡ rows → ((a : Bor R × Unit {0}) (x : Option A) (f' : F) → Called g f a x f' → (x ≡ h a.0.now) × (f' ≡ f))
    → ((a : Bor A × (Bor A × Unit {0})) (x : Bool) (c' : C) → Called k c a x c' → (x ≡ p a.0.now a.1.0.now) × (c' ≡ c)) → r ≡ best_of p h rows
best_is {g = g} {k = k} {f = f} {c = c} rows h p clause e calls compares =
    clause h p (always_returns_same g (λ a r. r ≡ h a.0.now) f calls) (always_returns_same k (λ a r. r ≡ p a.0.now a.1.0.now) c compares) ∙ ap (best_of p h) e
