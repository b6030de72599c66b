-- What a caller may know of `lookup`, `put`, `without` and `swept` on rows in the order of their keys.
use Rattle.std.proofs.Common.{◌≡◌, ℕ, ◌+◌, cond, List, [], ◌∷◌, length, get_or, is_some, Some, None, Ok, Err, Option, Result, Ordering, Less, sym, refl, ap, ◌∙◌, subst}
use Rattle.std.specs.List.{AllByRecursion as All}
use Rattle.tables.specs.Rows.{Lawful, Ascending, Placed, row_at, place_of, at_place, placed, unplaced, lookup, put, without, swept, and_more}
use Rattle.tables.proofs.Walks as walks
use Rattle.tables.proofs.WalkLaws as walk
use Rattle.tables.proofs.Edits as places
use Rattle.tables.proofs.Halving.{row_found, place_placed}

module _ {K R : Type 0} (order : K → K → Ordering) (o : Lawful order) (key : R → K) where
  -- ---- on rows in order, each is what a walk from the first row on gives
  look : (k : K) (rows : List R) (p : Result ℕ ℕ) → Placed order key k rows p → at_place p rows ≡ walks.lookup order key k rows
  look k rows (Ok i) h =
      let f : (x : R) × (row_at rows i ≡ Some x) × ((d : R) → get_or rows i d ≡ x) = row_found rows i h.0 in
      f.1 ∙ (ap Some (sym (f.2 f.0)) ∙ sym (places.lookup_at order key rows k i f.0 h.0 h.1 h.2))
  look k rows (Err i) h = sym (places.lookup_absent order key rows k (places.absent order key rows k i h.1 h.2))

  pub lookup_walk : (k : K) (rows : List R) → Ascending order key rows → lookup order key k rows ≡ walks.lookup order key k rows
  lookup_walk k rows up = look k rows (place_of order key k rows) (place_placed order key k rows o up)

  puts : (row : R) (rows : List R) (p : Result ℕ ℕ) → Placed order key (key row) rows p → placed p row rows ≡ walks.put order key row rows
  puts row rows (Ok i) h = places.put_at order key rows row i h.0 h.1 h.2
  puts row rows (Err i) h = places.put_new order key rows row i h.0 h.1 h.2

  pub put_walk : (row : R) (rows : List R) → Ascending order key rows → put order key row rows ≡ walks.put order key row rows
  put_walk row rows up = puts row rows (place_of order key (key row) rows) (place_placed order key (key row) rows o up)

  removes : (k : K) (rows : List R) (p : Result ℕ ℕ) → Placed order key k rows p → unplaced p rows ≡ walks.without order key k rows
  removes k rows (Ok i) h = places.without_at order key rows k i h.0 h.1 h.2
  removes k rows (Err i) h = sym (places.without_absent order key rows k (places.absent order key rows k i h.1 h.2))

  pub without_walk : (k : K) (rows : List R) → Ascending order key rows → without order key k rows ≡ walks.without order key k rows
  without_walk k rows up = removes k rows (place_of order key k rows) (place_placed order key k rows o up)

  -- ---- rows stay in order
  pub ascending_none : Ascending order key []
  ascending_none = walk.ascending_none order o key

  pub ascending_put : (row : R) (rows : List R) → Ascending order key rows → Ascending order key (put order key row rows)
  ascending_put row rows up = subst (Ascending order key) (sym (put_walk row rows up)) (walk.ascending_put order o key row rows up)

  pub ascending_without : (k : K) (rows : List R) → Ascending order key rows → Ascending order key (without order key k rows)
  ascending_without k rows up = subst (Ascending order key) (sym (without_walk k rows up)) (walk.ascending_without order o key k rows up)

  -- ---- lookups
  pub lookup_none : (k : K) → lookup order key k [] ≡ None
  lookup_none k = lookup_walk k [] ascending_none ∙ walk.lookup_none order o key k

  pub lookup_key : (k : K) (r : R) (rows : List R) → Ascending order key rows → lookup order key k rows ≡ Some r → key r ≡ k
  lookup_key k r rows up h = walk.lookup_key order o key k r rows (sym (lookup_walk k rows up) ∙ h)

  pub lookup_put_same : (row : R) (rows : List R) → Ascending order key rows → lookup order key (key row) (put order key row rows) ≡ Some row
  lookup_put_same row rows up =
      lookup_walk (key row) (put order key row rows) (ascending_put row rows up) ∙ (ap (walks.lookup order key (key row)) (put_walk row rows up) ∙ walk.lookup_put_same order o key row rows)

  pub lookup_put_other : (row : R) (k : K) (rows : List R) → Ascending order key rows → (key row ≡ k → ⊥) → lookup order key k (put order key row rows) ≡ lookup order key k rows
  lookup_put_other row k rows up ne =
      lookup_walk k (put order key row rows) (ascending_put row rows up) ∙ (ap (walks.lookup order key k) (put_walk row rows up) ∙ (walk.lookup_put_other order o key row k rows ne ∙ sym (lookup_walk k rows up)))

  pub lookup_without_same : (k : K) (rows : List R) → Ascending order key rows → lookup order key k (without order key k rows) ≡ None
  lookup_without_same k rows up =
      lookup_walk k (without order key k rows) (ascending_without k rows up) ∙ (ap (walks.lookup order key k) (without_walk k rows up) ∙ walk.lookup_without_same order o key k rows up)

  pub lookup_without_other : (j k : K) (rows : List R) → Ascending order key rows → (j ≡ k → ⊥) → lookup order key j (without order key k rows) ≡ lookup order key j rows
  lookup_without_other j k rows up ne =
      lookup_walk j (without order key k rows) (ascending_without k rows up) ∙ (ap (walks.lookup order key j) (without_walk k rows up) ∙ (walk.lookup_without_other order o key j k rows ne ∙ sym (lookup_walk j rows up)))

  -- ---- lengths
  pub length_put : (row : R) (rows : List R) → Ascending order key rows → length (put order key row rows) ≡ cond (is_some (lookup order key (key row) rows)) (length rows) (length rows + 1)
  length_put row rows up =
      ap length (put_walk row rows up) ∙ (walk.length_put order o key row rows up ∙ ap (λ f. cond (is_some f) (length rows) (length rows + 1)) (sym (lookup_walk (key row) rows up)))

  pub length_without : (k : K) (rows : List R) → Ascending order key rows → length (without order key k rows) + cond (is_some (lookup order key k rows)) 1 0 ≡ length rows
  length_without k rows up = rw (without_walk k rows up, lookup_walk k rows up) (walk.length_without order o key k rows)

  -- ---- sweeps
  -- a rule that keeps the key of each row that it keeps
  abbrev pub KeepsKey : (R → Option R) → Type 0
  KeepsKey f = (r s : R) → f r ≡ Some s → key s ≡ key r

  abbrev pub then_by : (R → Option R) → Option R → Option R
  then_by f None = None
  then_by f (Some r) = f r

  one_swept : (f : R → Option R) (k : K) → KeepsKey f → (r : R) (x : Option R) → f r ≡ x → (rest : List R) → order k (key r) ≡ Less → All (λ s. order k (key s) ≡ Less) rest
      → All (λ s. order k (key s) ≡ Less) (and_more x rest)
  one_swept f k ke r None e rest h a = a
  one_swept f k ke r (Some s) e rest h a = (subst (λ y. order k y ≡ Less) (sym (ke r s e)) h, a)

  all_swept : (f : R → Option R) (k : K) → KeepsKey f → (rows : List R) → All (λ s. order k (key s) ≡ Less) rows → All (λ s. order k (key s) ≡ Less) (swept f rows)
  unfolding swept
  all_swept f k ke [] a = tt
  all_swept f k ke (r ∷ rs) a = one_swept f k ke r (f r) refl (swept f rs) a.0 (all_swept f k ke rs a.1)

  up_one : (f : R → Option R) → KeepsKey f → (r : R) (x : Option R) → f r ≡ x → (rest : List R) → All (λ s. order (key r) (key s) ≡ Less) rest → walk.Up order o key rest → walk.Up order o key (and_more x rest)
  unfolding walk.Up
  up_one f ke r None e rest a u = u
  up_one f ke r (Some s) e rest a u = (subst (λ y. All (λ t. order y (key t) ≡ Less) rest) (sym (ke r s e)) a, u)

  up_swept : (f : R → Option R) → KeepsKey f → (rows : List R) → walk.Up order o key rows → walk.Up order o key (swept f rows)
  unfolding swept walk.Up
  up_swept f ke [] u = tt
  up_swept f ke (r ∷ rs) u = up_one f ke r (f r) refl (swept f rs) (all_swept f (key r) ke rs u.0) (up_swept f ke rs u.1)

  pub ascending_swept : (f : R → Option R) → KeepsKey f → (rows : List R) → Ascending order key rows → Ascending order key (swept f rows)
  ascending_swept f ke rows up = walk.from_up order o key _ (up_swept f ke rows (walk.to_up order o key rows up))

  look_one : (f : R → Option R) → KeepsKey f → (k : K) (r : R) (rs rest : List R) (x : Option R) → f r ≡ x → walk.Up order o key (r ∷ rs)
      → walks.lookup order key k rest ≡ then_by f (walks.lookup order key k rs) → walks.lookup order key k (and_more x rest) ≡ then_by f (walks.lookup order key k (r ∷ rs))
  unfolding walks.lookup walk.Up
  look_one f ke k r rs rest None e u h =
      walk.by_cases (order (key r) k)
      (λ c. rw c h)
      (λ c. rw (c, e) (h ∙ ap (then_by f) (walk.after order o key k r rs c u.0)))
      (λ c. rw c h)
  look_one f ke k r rs rest (Some s) e u h =
      walk.by_cases (order (key r) k) (λ c. rw (ke r s e, c) h) (λ c. rw (ke r s e, c) (sym e)) (λ c. rw (ke r s e, c) h)

  look_swept : (f : R → Option R) → KeepsKey f → (k : K) (rows : List R) → walk.Up order o key rows → walks.lookup order key k (swept f rows) ≡ then_by f (walks.lookup order key k rows)
  unfolding swept walks.lookup walk.Up
  look_swept f ke k [] u = refl
  look_swept f ke k (r ∷ rs) u = look_one f ke k r rs (swept f rs) (f r) refl u (look_swept f ke k rs u.1)

  pub lookup_swept : (f : R → Option R) → KeepsKey f → (k : K) (rows : List R) → Ascending order key rows → lookup order key k (swept f rows) ≡ then_by f (lookup order key k rows)
  lookup_swept f ke k rows up =
      lookup_walk k (swept f rows) (ascending_swept f ke rows up) ∙ (look_swept f ke k rows (walk.to_up order o key rows up) ∙ ap (then_by f) (sym (lookup_walk k rows up)))
