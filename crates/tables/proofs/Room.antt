-- Room in tables: where a `put` is not refused, and how many numbers there are below a bound.
use Rattle.std.proofs.Common.{◌≡◌, ℕ, ◌+◌, ◌<◌, ◌≤◌, Bool, true, false, cond, ◌||◌, ltb, List, [], ◌∷◌, length, is_ok, Some, Ok, Err, Result, Ordering, Less, refl, ap, arith, lt-ltb}
use Rattle.std.specs.List.{AllByRecursion as All}
use Rattle.std.proofs.lemmas.Bool.Decides.{nat_tests}
use Rattle.kinds.specs.Order.{by_number}
use Rattle.tables.specs.Rows.{Ascending, place_of, at_place, lookup, put}
use Rattle.tables.specs.Tables.{Tab, with_rows, fits, put_in}
use Rattle.tables.proofs.WalkLaws as walk
use Rattle.tables.proofs.Lawfuls.{number_lawful}

module _ {K R : Type 0} (order : K → K → Ordering) (key : R → K) where
  pub found_fits : (k : K) (r : R) (t : Tab R) → lookup order key k t.rows ≡ Some r → fits order key k t ≡ true
  found_fits k r t h = go (place_of order key k t.rows) h where
    go : (x : Result ℕ ℕ) → at_place x t.rows ≡ Some r → (is_ok x || ltb (length t.rows) t.most) ≡ true
    go (Ok i) e = refl
    go (Err i) e = let z : ◌≡◌ {A = ℕ} 0 1 = cc in absurd (omega arith)

  or_true : (a b : Bool) → b ≡ true → (a || b) ≡ true
  or_true true b h = refl
  or_true false b h = h

  pub room_fits : (k : K) (t : Tab R) → length t.rows < t.most → fits order key k t ≡ true
  room_fits k t l = or_true _ _ (lt-ltb (length t.rows) t.most l)

  pub put_in_is : (row : R) (t : Tab R) → fits order key (key row) t ≡ true → put_in order key row t ≡ with_rows t (put order key row t.rows)
  put_in_is row t h = ap (λ b. cond b (with_rows t (put order key row t.rows)) t) h

-- ---- numbers in order below a bound are no more than the bound
below : (x y : ℕ) → by_number x y ≡ Less → x < y
below x y h = grind (arith, nat_tests)

pigeons : {R : Type 0} (key : R → ℕ) (a m : ℕ) (rows : List R) → a ≤ m → walk.Up by_number number_lawful key rows → All (λ r. a ≤ key r) rows → All (λ r. key r < m) rows → length rows + a ≤ m
unfolding walk.Up
pigeons key a m [] l u g h = omega arith
pigeons key a m (r ∷ rs) l u g h =
    let lo = g.0 in let hi = h.0 in
    let q : length rs + (key r + 1) ≤ m = pigeons key (key r + 1) m rs (omega arith) u.1 (lift rs u.0) h.1 in
    omega arith where
      lift : (qs : List _) → All (λ s. by_number (key r) (key s) ≡ Less) qs → All (λ s. key r + 1 ≤ key s) qs
      lift [] z = tt
      lift (q ∷ qs) z = let b = below (key r) (key q) z.0 in (omega arith, lift qs z.1)

zeros : {R : Type 0} (key : R → ℕ) (rows : List R) → All (λ r. 0 ≤ key r) rows
zeros key [] = tt
zeros key (r ∷ rs) = (omega arith, zeros key rs)

pub numbered : {R : Type 0} (key : R → ℕ) (m : ℕ) (rows : List R) → Ascending by_number key rows → All (λ r. key r < m) rows → length rows ≤ m
numbered key m rows up h = let q = pigeons key 0 m rows (omega arith) (walk.to_up by_number number_lawful key rows up) (zeros key rows) h in omega arith
