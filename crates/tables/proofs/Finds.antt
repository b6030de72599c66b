-- Lookups by cases, rows by lookups, and the first row in which something is found.
use Rattle.std.proofs.Common.{◌≡◌, ℕ, ◌⊎◌, List, [], ◌∷◌, Some, None, Option, Ordering, Equal, sym, refl, ap, ◌∙◌, subst, inl, inr, ⊎_elim, arith}
use Rattle.std.specs.List.{AllByRecursion as All}
use Rattle.tables.specs.Rows.{Lawful, Ascending, In, lookup, put, without}
use Rattle.tables.proofs.Walks as walks
use Rattle.tables.proofs.WalkLaws as walk
use Rattle.tables.proofs.Laws as laws
use Rattle.tables.specs.Scans.{first_of, or_else}

-- at x it is a, elsewhere b
abbrev pub By : {K A : Type 0} → K → K → A → A → A → Type 0
By x y c a b = ((x ≡ y) × (c ≡ a)) ⊎ ((x ≡ y → ⊥) × (c ≡ b))

module _ {K R : Type 0} (order : K → K → Ordering) (o : Lawful order) (key : R → K) where
  pub differ : (x y : K) → (order x y ≡ Equal → ⊥) → x ≡ y → ⊥
  differ x y h e = h (subst (λ z. order x z ≡ Equal) e (o.reflexive x))

  -- two keys are the same or not
  pub decide : (x y : K) → (x ≡ y) ⊎ (x ≡ y → ⊥)
  decide x y =
      walk.by_cases (order x y) (λ c. inr (differ x y (λ d. let z : ◌≡◌ {A = ℕ} 0 1 = cc in omega arith))) (λ c. inl (o.same x y c)) (λ c. inr (differ x y (λ d. let z : ◌≡◌ {A = ℕ} 0 1 = cc in omega arith)))

  pub lookup_put : (row : R) (k : K) (rows : List R) → Ascending order key rows → By (key row) k (lookup order key k (put order key row rows)) (Some row) (lookup order key k rows)
  lookup_put row k rows up =
      ⊎_elim (λ e. inl (e, subst (λ y. lookup order key y (put order key row rows) ≡ Some row) e (laws.lookup_put_same order o key row rows up))) (λ n. inr (n, laws.lookup_put_other order o key row k rows up n)) (decide (key row) k)

  pub lookup_without : (j k : K) (rows : List R) → Ascending order key rows → By j k (lookup order key k (without order key j rows)) None (lookup order key k rows)
  lookup_without j k rows up =
      ⊎_elim (λ e. inl (e, subst (λ y. lookup order key y (without order key j rows) ≡ None) e (laws.lookup_without_same order o key j rows up))) (λ n. inr (n, laws.lookup_without_other order o key k j rows up (λ e. n (sym e)))) (decide j k)

  -- ---- rows in the table are those that lookups find
  in_walk : (k : K) (r : R) (rows : List R) → walks.lookup order key k rows ≡ Some r → In r rows
  unfolding walks.lookup
  in_walk k r [] h = let z : ◌≡◌ {A = ℕ} 0 1 = cc in absurd (omega arith)
  in_walk k r (q ∷ qs) h =
      walk.by_cases (order (key q) k) (λ c. inr (in_walk k r qs (rw c at h))) (λ c. let f : Some q ≡ Some r = rw c at h in let g : q ≡ r = cc in inl g) (λ c. inr (in_walk k r qs (rw c at h)))

  pub lookup_in : (k : K) (r : R) (rows : List R) → Ascending order key rows → lookup order key k rows ≡ Some r → In r rows
  lookup_in k r rows up h = in_walk k r rows (sym (laws.lookup_walk order o key k rows up) ∙ h)

  all_in : (Q : R → Type 0) (r : R) (rows : List R) → All Q rows → In r rows → Q r
  all_in Q r [] a i = absurd i
  all_in Q r (q ∷ qs) a (inl e) = subst Q e a.0
  all_in Q r (q ∷ qs) a (inr i) = all_in Q r qs a.1 i

  walk_in : (r : R) (rows : List R) → walk.Up order o key rows → In r rows → walks.lookup order key (key r) rows ≡ Some r
  unfolding walks.lookup walk.Up
  walk_in r [] u i = absurd i
  walk_in r (q ∷ qs) u (inl e) = rw (subst (λ y. order (key q) (key y) ≡ Equal) e (o.reflexive (key q))) (ap (λ (y : R). Some y) e)
  walk_in r (q ∷ qs) u (inr i) = rw (all_in _ r qs u.0 i) (walk_in r qs u.1 i)

  pub in_lookup : (r : R) (rows : List R) → Ascending order key rows → In r rows → lookup order key (key r) rows ≡ Some r
  in_lookup r rows up i = laws.lookup_walk order o key (key r) rows up ∙ walk_in r rows (walk.to_up order o key rows up) i

  -- ---- the first row that a test finds
  found_one : {A : Type 0} (f : R → Option A) (a : A) (r : R) (rs : List R) (x : Option A) → f r ≡ x → or_else x (first_of f rs) ≡ Some a
      → (first_of f rs ≡ Some a → (q : R) × In q rs × (f q ≡ Some a)) → (q : R) × In q (r ∷ rs) × (f q ≡ Some a)
  found_one f a r rs None e h rec = let t = rec h in (t.0, inr t.1, t.2)
  found_one f a r rs (Some b) e h rec = (r, inl refl, e ∙ h)

  found : {A : Type 0} (f : R → Option A) (a : A) (rows : List R) → first_of f rows ≡ Some a → (q : R) × In q rows × (f q ≡ Some a)
  unfolding first_of
  found f a [] h = let z : ◌≡◌ {A = ℕ} 0 1 = cc in absurd (omega arith)
  found f a (r ∷ rs) h = found_one f a r rs (f r) refl h (found f a rs)

  pub found_some : {A : Type 0} (f : R → Option A) (a : A) (rows : List R) → Ascending order key rows → first_of f rows ≡ Some a → (q : R) × (lookup order key (key q) rows ≡ Some q) × (f q ≡ Some a)
  found_some f a rows up h = let t = found f a rows h in (t.0, in_lookup t.0 rows up t.1, t.2)

  or_none : {A : Type 0} (x y : Option A) → or_else x y ≡ None → (x ≡ None) × (y ≡ None)
  or_none None y h = (refl, h)
  or_none (Some a) y h = let z : ◌≡◌ {A = ℕ} 0 1 = cc in absurd (omega arith)

  none_in : {A : Type 0} (f : R → Option A) (rows : List R) (q : R) → first_of f rows ≡ None → In q rows → f q ≡ None
  unfolding first_of
  none_in f [] q h i = absurd i
  none_in f (r ∷ rs) q h (inl e) = subst (λ y. f y ≡ None) e (or_none _ _ h).0
  none_in f (r ∷ rs) q h (inr i) = none_in f rs q (or_none _ _ h).1 i

  pub found_none : {A : Type 0} (f : R → Option A) (rows : List R) → Ascending order key rows → first_of f rows ≡ None → (k : K) (q : R) → lookup order key k rows ≡ Some q → f q ≡ None
  found_none f rows up h k q l = none_in f rows q h (lookup_in k q rows up l)
