-- A list in order is ascending, and an ascending one is in order.
use Rattle.std.proofs.Common.{◌≡◌, ℕ, Bool, true, false, ◌&&◌, List, [], ◌∷◌, Some, Ordering, Less, Equal, Greater, refl, arith}
use Rattle.std.specs.Ordering.{is_lt}
use Rattle.std.specs.List.{AllByRecursion as All}
use Rattle.std.proofs.ByRecursion.{All-weaker}
use Rattle.tables.specs.Rows.{Lawful, Ascending}
use Rattle.tables.specs.Lists.{ordered_from, ordered}
use Rattle.tables.proofs.WalkLaws as walk

abbrev self : {T : Type 0} → T → T
self x = x

less : (x : Ordering) → is_lt x ≡ true → x ≡ Less
less Less h = refl
less Equal h = cc
less Greater h = cc

both : (a b : Bool) → (a && b) ≡ true → (a ≡ true) × (b ≡ true)
both true b h = (refl, h)
both false b h = let z : ◌≡◌ {A = ℕ} 0 1 = cc in absurd (omega arith)

module _ {T : Type 0} (order : T → T → Ordering) (o : Lawful order) where
  rise : (x : T) (xs : List T) → ordered_from order (Some x) xs ≡ true → All (λ y. order x y ≡ Less) xs × walk.Up order o self xs
  unfolding ordered_from walk.Up
  rise x [] h = (tt, tt)
  rise x (y ∷ ys) h =
      let b = both _ _ h in
      let l : order x y ≡ Less = less _ b.0 in
      let r = rise y ys b.1 in
      ((l, All-weaker _ _ (λ z m. o.joined _ _ _ l m) ys r.0), r)

  up : (xs : List T) → ordered order xs ≡ true → walk.Up order o self xs
  unfolding ordered_from walk.Up
  up [] h = tt
  up (x ∷ xs) h = rise x xs h

  pub ordered_ascending : (xs : List T) → ordered order xs ≡ true → Ascending order self xs
  ordered_ascending xs h = walk.from_up order o self xs (up xs h)

  fall : (x : T) (xs : List T) → All (λ y. order x y ≡ Less) xs → walk.Up order o self xs → ordered_from order (Some x) xs ≡ true
  unfolding ordered_from walk.Up
  fall x [] a u = refl
  fall x (y ∷ ys) a u = rw (a.0, fall y ys u.0 u.1) refl

  down : (xs : List T) → walk.Up order o self xs → ordered order xs ≡ true
  unfolding ordered_from walk.Up
  down [] u = refl
  down (x ∷ xs) u = fall x xs u.0 u.1

  pub ascending_ordered : (xs : List T) → Ascending order self xs → ordered order xs ≡ true
  ascending_ordered xs h = down xs (walk.to_up order o self xs h)
