-- Orders by a first part and then by the rest.
use Rattle.std.specs.Prelude.{◌≡◌, ℕ, List, [], ◌∷◌, refl, nat_eq}
use Rattle.std.specs.declared.cmp.Ordering.TheVariants.{Less, Equal, Greater}
use Rattle.std.specs.declared.cmp.Ordering.{Ordering}
use Rattle.std.proofs.Common.{sym, ap, arith}
use Rattle.std.specs.Cmp.{nat_cmp_total, tied_itself, then_flip, both_tied}
use Rattle.std.specs.Cmp.Lexicographic.{slice_cmp, pointwise, nat_list_cmp_total}
use Rattle.std.specs.Ordering.{nat_cmp, ordering_then, ordering_reverse, is_eq}
use Rattle.std.proofs.lemmas.Bool.Decides.{nat_tests}
use Rattle.kinds.specs.Order.{by_number, by_bytes, and_then}

-- two steps are one, by the first parts, and where these are equal by the rest
pub then_joined : {A : Type 0} (p : A → A → Ordering) → ((x y : A) → p x y ≡ Equal → x ≡ y) → ((x y z : A) → p x y ≡ Less → p y z ≡ Less → p x z ≡ Less)
    → (a b c : A) (u v w s t : Ordering) → s ≡ p a b → t ≡ p b c → (u ≡ Less → v ≡ Less → w ≡ Less)
    → and_then s u ≡ Less → and_then t v ≡ Less → and_then (p a c) w ≡ Less
then_joined p same jp a b c u v w Less Less es et j hs ht = rw (jp a b c (sym es) (sym et)) refl
then_joined p same jp a b c u v w Less Equal es et j hs ht = rw (← same b c (sym et), ← es) refl
then_joined p same jp a b c u v w Equal Less es et j hs ht = rw (same a b (sym es), ← et) refl
then_joined p same jp a b c u v w Equal Equal es et j hs ht = rw (same a b (sym es), ← et) (j hs ht)
then_joined p same jp a b c u v w Greater t es et j hs ht = cc
then_joined p same jp a b c u v w Less Greater es et j hs ht = cc
then_joined p same jp a b c u v w Equal Greater es et j hs ht = cc

pub then_equal : (s t : Ordering) → and_then s t ≡ Equal → (s ≡ Equal) × (t ≡ Equal)
then_equal Less t h = (cc, cc)
then_equal Equal t h = (refl, h)
then_equal Greater t h = (cc, cc)

pub then_reversed : (s t : Ordering) → and_then (ordering_reverse s) (ordering_reverse t) ≡ ordering_reverse (and_then s t)
then_reversed = then_flip

-- ---- numbers
pub number_same : (x y : ℕ) → by_number x y ≡ Equal → x ≡ y
number_same x y h = grind (arith, nat_tests)

pub number_reflexive : (x : ℕ) → by_number x x ≡ Equal
number_reflexive = tied_itself nat_cmp_total

pub number_turned : (x y : ℕ) → by_number y x ≡ ordering_reverse (by_number x y)
number_turned x y = nat_cmp_total.antisymm y x

pub number_joined : (x y z : ℕ) → by_number x y ≡ Less → by_number y z ≡ Less → by_number x z ≡ Less
number_joined = nat_cmp_total.trans

number_equal : (x y : ℕ) → nat_eq x y ≡ is_eq (by_number x y)
number_equal x y = grind (arith, nat_tests)

-- ---- bytes
pub bytes_same : (xs ys : List ℕ) → by_bytes xs ys ≡ Equal → xs ≡ ys
bytes_same [] [] h = refl
bytes_same [] (y ∷ ys) h = cc
bytes_same (x ∷ xs) [] h = cc
bytes_same (x ∷ xs) (y ∷ ys) h =
    let e : x ≡ y = number_same x y (then_equal (by_number x y) (by_bytes xs ys) h).0 in
    let f : xs ≡ ys = bytes_same xs ys (then_equal (by_number x y) (by_bytes xs ys) h).1 in
    cc

pub bytes_reflexive : (xs : List ℕ) → by_bytes xs xs ≡ Equal
bytes_reflexive = tied_itself nat_list_cmp_total

pub bytes_turned : (xs ys : List ℕ) → by_bytes ys xs ≡ ordering_reverse (by_bytes xs ys)
bytes_turned xs ys = nat_list_cmp_total.antisymm ys xs

pub bytes_joined : (xs ys zs : List ℕ) → by_bytes xs ys ≡ Less → by_bytes ys zs ≡ Less → by_bytes xs zs ≡ Less
bytes_joined = nat_list_cmp_total.trans

-- the test of equality that goes byte by byte
pub bytes_equal : (xs ys : List ℕ) → pointwise nat_eq xs ys ≡ is_eq (by_bytes xs ys)
bytes_equal [] [] = refl
bytes_equal [] (y ∷ ys) = refl
bytes_equal (x ∷ xs) [] = refl
bytes_equal (x ∷ xs) (y ∷ ys) = both_tied _ _ (by_number x y) (by_bytes xs ys) (number_equal x y) (bytes_equal xs ys)

-- ---- the library's orders are these
pub numbers_compared : (x y : ℕ) → nat_cmp x y ≡ by_number x y
numbers_compared x y = refl

pub then_is : (o p q : Ordering) → p ≡ q → ordering_then o p ≡ and_then o q
then_is o p q e = ap (λ s. ordering_then o s) e

pub bytes_compared : (xs ys : List ℕ) → slice_cmp nat_cmp xs ys ≡ by_bytes xs ys
bytes_compared xs ys = refl
