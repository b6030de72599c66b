-- The search by halves: it needs no more turns than there are rows, and on rows in order it finds the place.
use Rattle.std.proofs.Common.{◌≡◌, ℕ, zero, suc, ◌+◌, ◌-◌, ◌<◌, ◌≤◌, List, [], ◌∷◌, length, get_or, Some, Ok, Err, Option, Result, Ordering, Less, Equal, Greater, sym, refl, ap, ◌∙◌, subst, ⊎_elim, arith, le-ltb, lt-ltb}
use Rattle.std.proofs.lemmas.Bool.{cases_lt}
use Rattle.tables.specs.Rows.{Lawful, Ascending, Lie, Placed, by, row_at, halfway, turn_at, halved, between, place_by, place_of}
use Rattle.tables.proofs.Searches.{less_before, less_upto, greater_from}

pub row_at_get_or : {R : Type 0} (rows : List R) (i : ℕ) (d : R) → i < length rows → row_at rows i ≡ Some (get_or rows i d)
row_at_get_or [] i d l = absurd (omega arith)
row_at_get_or (r ∷ rs) zero d l = refl
row_at_get_or (r ∷ rs) (suc i) d l = row_at_get_or rs i d (omega arith)

pub row_found : {R : Type 0} (rows : List R) (i : ℕ) → i < length rows → (r : R) × (row_at rows i ≡ Some r) × ((d : R) → get_or rows i d ≡ r)
row_found [] i l = absurd (omega arith)
row_found (r ∷ rs) zero l = (r, refl, λ d. refl)
row_found (r ∷ rs) (suc i) l = row_found rs i (omega arith)

by_cases : {G : Type 0} (x : Ordering) → (x ≡ Less → G) → (x ≡ Equal → G) → (x ≡ Greater → G) → G
by_cases Less p q r = p refl
by_cases Equal p q r = q refl
by_cases Greater p q r = r refl

module _ {R : Type 0} (test : R → Ordering) (rows : List R) where
  turn_same : (o : Option R) (u v h d e : Result ℕ ℕ) → u ≡ v → d ≡ e → turn_at test o u h d ≡ turn_at test o v h e
  turn_same o u v h d e p q = rw (p, q) refl

  pub enough : (m n low high : ℕ) → high - low ≤ m → high - low ≤ n → halved test rows m low high ≡ halved test rows n low high
  unfolding halved
  enough zero zero low high p q = refl
  enough zero (suc n) low high p q = rw (le-ltb low high (omega arith)) refl
  enough (suc m) zero low high p q = rw (le-ltb low high (omega arith)) refl
  enough (suc m) (suc n) low high p q =
      ⊎_elim
      (λ lt. rw (lt-ltb low high lt) (turn_same _ _ _ _ _ _ (enough m n (halfway low high + 1) high (omega arith) (omega arith)) (enough m n low (halfway low high) (omega arith) (omega arith))))
      (λ ge. rw (le-ltb low high ge) refl)
      (cases_lt low high)

  pub between_done : (low high : ℕ) → high ≤ low → between test rows low high ≡ Err low
  unfolding halved
  between_done low high h = enough (high - low) 0 low high (omega arith) (omega arith)

  once : (n low high : ℕ) (row : R) → low < high → row_at rows (halfway low high) ≡ Some row
      → halved test rows (suc n) low high ≡ by (test row) (halved test rows n (halfway low high + 1) high) (Ok (halfway low high)) (halved test rows n low (halfway low high))
  unfolding halved
  once n low high row lt is = rw (lt-ltb low high lt, is) refl

  pub between_turn : (low high : ℕ) (row : R) → low < high → high ≤ length rows → row ≡ get_or rows (halfway low high) row
      → between test rows low high ≡ by (test row) (between test rows (halfway low high + 1) high) (Ok (halfway low high)) (between test rows low (halfway low high))
  between_turn low high row lt le is =
      let n = high - low in
      let at : row_at rows (halfway low high) ≡ Some row = row_at_get_or rows (halfway low high) row (omega arith) ∙ ap Some (sym is) in
      let a = enough n (suc n) low high (omega arith) (omega arith) in
      let b = once n low high row lt at in
      let c = enough n (high - (halfway low high + 1)) (halfway low high + 1) high (omega arith) (omega arith) in
      let d = enough n (halfway low high - low) low (halfway low high) (omega arith) (omega arith) in
      cc

  -- a turn by what the test says of the row in the middle
  pub between_by : (low high : ℕ) (row : R) (o : Ordering) → low < high → high ≤ length rows → row ≡ get_or rows (halfway low high) row → test row ≡ o
      → between test rows low high ≡ by o (between test rows (halfway low high + 1) high) (Ok (halfway low high)) (between test rows low (halfway low high))
  between_by low high row o lt le is e =
      between_turn low high row lt le is ∙ ap (λ x. by x (between test rows (halfway low high + 1) high) (Ok (halfway low high)) (between test rows low (halfway low high))) e

  pub place_between : place_by test rows ≡ between test rows 0 (length rows)
  unfolding place_by
  place_between = refl

module _ {K R : Type 0} (order : K → K → Ordering) (key : R → K) (k : K) (rows : List R) where
  abbrev test : R → Ordering
  test r = order (key r) k

  -- one turn, at the row in the middle
  turned_placed : Lawful order → Ascending order key rows → (low high : ℕ) (row : R) (u d : Result ℕ ℕ) → low < high → high ≤ length rows → ((e : R) → get_or rows (halfway low high) e ≡ row)
      → (Lie order key k rows Less 0 (halfway low high + 1) → Placed order key k rows u) → (Lie order key k rows Greater (halfway low high) (length rows) → Placed order key k rows d)
      → Placed order key k rows (by (order (key row) k) u (Ok (halfway low high)) d)
  turned_placed o up low high row u d lt le is goUp goDown =
      let at : (x : Ordering) → order (key row) k ≡ x → (e : R) → order (key (get_or rows (halfway low high) e)) k ≡ x = λ x h e. subst (λ y. order (key y) k ≡ x) (sym (is e)) h in
      let reach : halfway low high < length rows = omega arith in
      by_cases (order (key row) k)
      (λ e. rw e (goUp (less_upto order o key rows k (halfway low high) up reach (at Less e))))
      (λ e. rw e (reach, less_before order o key rows k (halfway low high) up reach (at Equal e), at Equal e))
      (λ e. rw e (goDown (greater_from order o key rows k (halfway low high) up reach (at Greater e))))

  pub halved_placed : Lawful order → Ascending order key rows → (n low high : ℕ) → high - low ≤ n → low ≤ high → high ≤ length rows → Lie order key k rows Less 0 low
      → Lie order key k rows Greater high (length rows) → Placed order key k rows (halved test rows n low high)
  unfolding halved
  halved_placed o up zero low high p q r below above = (omega arith, below, λ m d ge lt. above m d (omega arith) lt)
  halved_placed o up (suc n) low high p q r below above =
      ⊎_elim
      (λ lt.
      let reach : halfway low high < length rows = omega arith in
      let f : (x : R) × (row_at rows (halfway low high) ≡ Some x) × ((d : R) → get_or rows (halfway low high) d ≡ x) = row_found rows (halfway low high) reach in
      subst (Placed order key k rows) (sym (once test rows n low high f.0 lt f.1))
      (turned_placed o up low high f.0 _ _ lt r f.2
      (λ b. halved_placed o up n (halfway low high + 1) high (omega arith) (omega arith) r b above)
      (λ a. halved_placed o up n low (halfway low high) (omega arith) (omega arith) (omega arith) below a)))
      (λ ge. rw (le-ltb low high ge) (omega arith, below, λ m d g lt. above m d (omega arith) lt))
      (cases_lt low high)

  pub place_placed : Lawful order → Ascending order key rows → Placed order key k rows (place_of order key k rows)
  unfolding place_by
  place_placed o up = halved_placed o up (length rows - 0) 0 (length rows) (omega arith) (omega arith) (omega arith) (λ m d ge lt. absurd (omega arith)) (λ m d ge lt. absurd (omega arith))
