-- What a caller may know of the rows of a key.
use Rattle.std.proofs.Common.{◌≡◌, ℕ, zero, suc, ◌+◌, ◌-◌, ◌<◌, ◌≤◌, Bool, true, false, ◌||◌, ◌⊎◌, List, [], ◌∷◌, length, get_or, take, drop, Some, filter, Ordering, Less, Equal, Greater, sym, refl, ap, ◌∙◌, subst, inl, inr, ⊎_elim, arith}
use Rattle.std.specs.Ordering.{is_eq, is_lt, is_le}
use Rattle.std.specs.List.{AllByRecursion as All, prefix_len}
use Rattle.std.proofs.ByRecursion.{All-get_or}
use Rattle.std.proofs.Math.Numerals.{one-add}
use Rattle.kinds.specs.Order.{and_then}
use Rattle.kinds.specs.declared.ordered.Ordered.{Ghosts as Order}
use Rattle.std.proofs.lemmas.Bool.{cases_Bool, false_from_ne_true, true≢false}
use Rattle.tables.specs.Rows.{Lawful, Ascending, In, pair, by_pair, lookup}
use Rattle.tables.proofs.WalkLaws as walk
use Rattle.tables.proofs.Finds.{in_lookup, lookup_in}
use Rattle.tables.proofs.Laws.{lookup_key}
use Rattle.tables.proofs.Lawfuls.{pair_lawful}
use Rattle.waiting.specs.declared.rows.WaitRow.{WaitRow}
use Rattle.waiting.specs.Waits.{pair_of, is_of, wait_row}
use Rattle.waiting.specs.Groups.{bound_of, below, up_to, rows_of, any_waits, waited}
use Rattle.waiting.proofs.Splits.{Parted, bound_is}

-- at most: less or the same
abbrev AtMost : Ordering → Type 0
AtMost x = (x ≡ Less) ⊎ (x ≡ Equal)

first_at_most : (x y : Ordering) → and_then x y ≡ Less → AtMost x
first_at_most Less y h = inl refl
first_at_most Equal y h = inr refl
first_at_most Greater y h = cc

-- a row of a smaller key comes before the bound, and with `past` also one of the key
abbrev side : Bool → Ordering → Bool
side past Less = true
side past Equal = past
side past Greater = false

side_less : (x : Ordering) → is_lt x ≡ side false x
side_less Less = refl
side_less Equal = refl
side_less Greater = refl

side_at_most : (x : Ordering) → is_le x ≡ side true x
side_at_most Less = refl
side_at_most Equal = refl
side_at_most Greater = refl

abbrev before : {K S : Type 0} → Order K → K → Bool → WaitRow K S → Bool
before k key past r = side past (k.order r.pair.first key)

module _ {K S : Type 0} (k : Order K) (o : Lawful k.order) (s : Order S) (os : Lawful s.order) where
  -- what comes before the bound takes with it all that comes before
  side_down : (past : Bool) (x y key : K) → AtMost (k.order x y) → side past (k.order y key) ≡ true → side past (k.order x key) ≡ true
  side_down past x y key (inr e) h = subst (λ z. side past (k.order z key) ≡ true) (sym (o.same _ _ e)) h
  side_down past x y key (inl l) h =
      walk.by_cases (k.order y key)
      (λ e. ap (side past) (o.joined _ _ _ l e))
      (λ e. ap (side past) (subst (λ z. k.order x z ≡ Less) (o.same _ _ e) l))
      (λ e. absurd (true≢false (sym h ∙ ap (side past) e)))

  side_up : (past : Bool) (x y key : K) → AtMost (k.order x y) → side past (k.order x key) ≡ false → side past (k.order y key) ≡ false
  side_up past x y key l h = false_from_ne_true (side past (k.order y key)) (λ e. true≢false (sym (side_down past x y key l e) ∙ h))

  abbrev Up : List (WaitRow K S) → Type 0
  Up rows = walk.Up (by_pair k s) (pair_lawful k s o os) pair_of rows

  abbrev Later : K → Bool → List (WaitRow K S) → Type 0
  Later key past rows = All (λ r. before k key past r ≡ false) rows

  later : (key : K) (past : Bool) (r : WaitRow K S) (rs : List (WaitRow K S)) → before k key past r ≡ false → All (λ q. by_pair k s r.pair q.pair ≡ Less) rs → Later key past rs
  later key past r [] h a = tt
  later key past r (q ∷ qs) h a = (side_up past r.pair.first q.pair.first key (first_at_most _ _ a.0) h, later key past r qs h a.1)

  parted : (key : K) (past : Bool) (rows : List (WaitRow K S)) → Up rows → Parted (before k key past) rows
  unfolding walk.Up
  parted key past [] u n d l m = absurd (omega arith)
  parted key past (r ∷ rs) u n d l m =
      ⊎_elim
      (λ e. behind n (parted key past rs u.1) (rw e at l) m)
      (λ e. All-get_or (λ q. before k key past q ≡ false) (r ∷ rs) n d m (e, later key past r rs e u.0))
      (cases_Bool (before k key past r))
    where
      behind : (n : ℕ) → Parted (before k key past) rs → 1 + prefix_len (before k key past) rs ≤ n → n < length (r ∷ rs) → before k key past (get_or (r ∷ rs) n d) ≡ false
      behind zero p l m = absurd (omega arith)
      behind (suc n) p l m = p n d (omega arith) (omega arith)

  bound_lead : (key : K) (past : Bool) (rows : List (WaitRow K S)) → Ascending (by_pair k s) pair_of rows → bound_of (before k key past) rows ≡ prefix_len (before k key past) rows
  bound_lead key past rows up = bound_is (before k key past) rows (parted key past rows (walk.to_up (by_pair k s) (pair_lawful k s o os) pair_of rows up))

  is_below : (key : K) → below {S = S} k key ≡ before k key false
  is_below key i r = side_less (k.order r.pair.first key) i

  is_up_to : (key : K) → up_to {S = S} k key ≡ before k key true
  is_up_to key i r = side_at_most (k.order r.pair.first key) i

  -- each bound is the number of rows in front that come before it
  pub below_lead : (key : K) (rows : List (WaitRow K S)) → Ascending (by_pair k s) pair_of rows → bound_of (below k key) rows ≡ prefix_len (below k key) rows
  below_lead key rows up = subst (λ h. bound_of h rows ≡ prefix_len h rows) (sym (is_below key)) (bound_lead key false rows up)

  pub up_to_lead : (key : K) (rows : List (WaitRow K S)) → Ascending (by_pair k s) pair_of rows → bound_of (up_to k key) rows ≡ prefix_len (up_to k key) rows
  up_to_lead key rows up = subst (λ h. bound_of h rows ≡ prefix_len h rows) (sym (is_up_to key)) (bound_lead key true rows up)

  -- ---- the rows of a key are those that have it
  lead_none : (key : K) (past : Bool) (rows : List (WaitRow K S)) → Later key past rows → prefix_len (before k key past) rows ≡ 0
  lead_none key past [] a = refl
  lead_none key past (r ∷ rs) a = rw a.0 refl

  not_equal : (x : Ordering) → side true x ≡ false → is_eq x ≡ false
  not_equal Less h = cc
  not_equal Equal h = cc
  not_equal Greater h = refl

  kept_none : (key : K) (rows : List (WaitRow K S)) → Later key true rows → filter (is_of k key) rows ≡ []
  kept_none key [] a = refl
  kept_none key (r ∷ rs) a = rw (not_equal _ a.0) (kept_none key rs a.1)

  part_more : (r : WaitRow K S) (rs : List (WaitRow K S)) (a b : ℕ) → take ((1 + b) - (1 + a)) (drop (1 + a) (r ∷ rs)) ≡ take (b - a) (drop a rs)
  part_more r rs a b = rw (one-add a) (ap (λ n. take n (drop a rs)) (let z : (1 + b) - suc a ≡ b - a = omega arith in z))

  part_first : (r : WaitRow K S) (rs : List (WaitRow K S)) (a b : ℕ) → a ≡ 0 → take ((1 + b) - 0) (drop 0 (r ∷ rs)) ≡ r ∷ take (b - a) (drop a rs)
  part_first r rs zero b e = ap (λ n. take n (r ∷ rs)) (let z : (1 + b) - 0 ≡ suc b = omega arith in z) ∙ ap (λ n. r ∷ take n rs) (omega arith)
  part_first r rs (suc a) b e = absurd (omega arith)

  part_none : (xs : List (WaitRow K S)) → take (0 - 0) xs ≡ []
  part_none [] = refl
  part_none (x ∷ xs) = refl

  group : (key : K) (rows : List (WaitRow K S)) → Up rows
      → take (prefix_len (before k key true) rows - prefix_len (before k key false) rows) (drop (prefix_len (before k key false) rows) rows) ≡ filter (is_of k key) rows
  unfolding walk.Up
  group key [] u = refl
  group key (r ∷ rs) u =
      walk.by_cases (k.order r.pair.first key)
      (λ e. rw e (part_more r rs (prefix_len (before k key false) rs) (prefix_len (before k key true) rs) ∙ group key rs u.1))
      (λ e. rw e (part_first r rs (prefix_len (before k key false) rs) (prefix_len (before k key true) rs) (lead_none key false rs (later key false r rs (ap (side false) e) u.0)) ∙ ap (λ t. r ∷ t) (group key rs u.1)))
      (λ e. rw e (part_none (r ∷ rs) ∙ sym (kept_none key rs (later key true r rs (ap (side true) e) u.0))))

  pub rows_of_is : (key : K) (rows : List (WaitRow K S)) → Ascending (by_pair k s) pair_of rows → rows_of k key rows ≡ filter (is_of k key) rows
  rows_of_is key rows up =
      let low : bound_of (below k key) rows ≡ prefix_len (before k key false) rows = ap (λ h. bound_of h rows) (is_below key) ∙ bound_lead key false rows up in
      let high : bound_of (up_to k key) rows ≡ prefix_len (before k key true) rows = ap (λ h. bound_of h rows) (is_up_to key) ∙ bound_lead key true rows up in
      rw (low, high) (group key rows (walk.to_up (by_pair k s) (pair_lawful k s o os) pair_of rows up))

  -- ---- who waits, by look-ups
  is_equal : (x : Ordering) → is_eq x ≡ true → x ≡ Equal
  is_equal Less h = cc
  is_equal Equal h = refl
  is_equal Greater h = cc

  some_in : (key : K) (rows : List (WaitRow K S)) → any_waits (filter (is_of k key) rows) ≡ true → (r : WaitRow K S) × In r rows × (r.pair.first ≡ key) × (r.waits ≡ true)
  some_in key [] h = cc
  some_in key (r ∷ rs) h =
      ⊎_elim
      (λ e.
      ⊎_elim
      (λ w. (r, inl refl, o.same _ _ (is_equal _ e), w))
      (λ w. let t = some_in key rs (let u : (r.waits || any_waits (filter (is_of k key) rs)) ≡ true = rw e at h in rw w at u) in (t.0, inr t.1, t.2, t.3))
      (cases_Bool r.waits))
      (λ e. let t = some_in key rs (rw e at h) in (t.0, inr t.1, t.2, t.3))
      (cases_Bool (is_of k key r))

  none_in : (key : K) (rows : List (WaitRow K S)) → any_waits (filter (is_of k key) rows) ≡ false → (r : WaitRow K S) → In r rows → r.pair.first ≡ key → r.waits ≡ false
  none_in key [] h r i e = absurd i
  none_in key (q ∷ qs) h r i e =
      ⊎_elim
      (λ f.
      let g = neither q.waits _ (rw f at h) in
      ⊎_elim (λ x. subst (λ y. y.waits ≡ false) x g.0) (λ x. none_in key qs g.1 r x e) i)
      (λ f.
      ⊎_elim
      (λ x. absurd (true≢false (sym (ap is_eq (subst (λ y. k.order y.pair.first key ≡ Equal) (sym x) (subst (λ z. k.order r.pair.first z ≡ Equal) e (o.reflexive r.pair.first)))) ∙ f)))
      (λ x. none_in key qs (rw f at h) r x e) i)
      (cases_Bool (is_of k key q))
    where
      neither : (a b : Bool) → (a || b) ≡ false → (a ≡ false) × (b ≡ false)
      neither true b z = cc
      neither false b z = (refl, z)

  -- where somebody waits for a key, some pair of it has a row that waits
  pub waited_some : (key : K) (rows : List (WaitRow K S)) → Ascending (by_pair k s) pair_of rows → waited k key rows ≡ true
      → (w : S) × (r : WaitRow K S) × (wait_row k s key w rows ≡ Some r) × (r.waits ≡ true)
  waited_some key rows up h =
      let t = some_in key rows (sym (ap any_waits (rows_of_is key rows up)) ∙ h) in
      (t.0.pair.second, t.0, ap (λ x. lookup (by_pair k s) pair_of (pair x t.0.pair.second) rows) (sym t.2) ∙ in_lookup (by_pair k s) (pair_lawful k s o os) pair_of t.0 rows up t.1, t.3)

  -- where nobody does, none has
  pub waited_none : (key : K) (rows : List (WaitRow K S)) → Ascending (by_pair k s) pair_of rows → waited k key rows ≡ false → (w : S) (r : WaitRow K S) → wait_row k s key w rows ≡ Some r → r.waits ≡ false
  waited_none key rows up h w r e =
      none_in key rows (sym (ap any_waits (rows_of_is key rows up)) ∙ h) r (lookup_in (by_pair k s) (pair_lawful k s o os) pair_of (pair key w) r rows up e)
      (ap (λ p. p.first) (lookup_key (by_pair k s) (pair_lawful k s o os) pair_of (pair key w) r rows up e))
