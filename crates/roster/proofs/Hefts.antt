-- What shares weigh together, and at most.
use Rattle.std.proofs.Common.{◌≡◌, ℕ, zero, suc, ◌*◌, ◌^◌, ◌<◌, ◌≤◌, Bool, false, List, [], ◌∷◌, ◌++◌, ◌+◌, length, get_or, drop, set, Option, sym, refl, ap, ◌∙◌, suc-mul, arith}
use Rattle.std.proofs.lemmas.List.{map-append}
use Rattle.std.proofs.lemmas.Bool.Decides.{nat_tests}
use Rattle.kinds.specs.declared.ordered.Ordered.{Ghosts as Order}
use Rattle.score.specs.Bounds.{most_weight}
use Rattle.score.specs.declared.rating.Rating.{Ghosts as Rate}
use Rattle.draw.specs.declared.rows.Share.{Share}
use Rattle.draw.specs.Rows.{back, all_back, heft}
use Rattle.tables.specs.declared.row.Only.{Only}
use Rattle.tables.proofs.Steps.{made_over, made_all}
use Rattle.roster.specs.declared.row.PeerRow.{PeerRow}
use Rattle.roster.specs.Bounds.{most_peers}
use Rattle.roster.specs.Weights.{heaviest, changed_at, reweighed}
use Rattle.roster.specs.Peers.{share_for, shares_for}

-- no share weighs more than the heaviest
heft_most : (m : ℕ) (xs : List Share) → heaviest xs ≤ m → heft xs ≤ length xs * m
unfolding heaviest
heft_most m [] h = omega arith
heft_most m (s ∷ ss) h = let r = heft_most m ss (omega arith) in simp suc-mul (omega arith)

-- a roster's shares sum below 2 ^ 64
pub heft_fits : (xs : List Share) → heaviest xs ≤ most_weight → length xs ≤ most_peers → heft xs < 2 ^ 64
heft_fits xs h l = let r = heft_most most_weight xs h in omega arith

-- ---- none, and one more
pub light_none : (xs : List Share) → xs ≡ [] → heaviest xs ≤ most_weight
unfolding heaviest
light_none xs e = rw e (omega arith)

pub back_none : (xs : List Share) → xs ≡ [] → all_back xs ≡ xs
back_none xs e = rw e refl

light_at : (s : Share) (xs : List Share) → heaviest xs ≤ most_weight → s.weight ≤ most_weight → heaviest (xs ++ s ∷ []) ≤ most_weight
unfolding heaviest
light_at s [] h l = omega arith
light_at s (x ∷ xs) h l = let r = light_at s xs (omega arith) l in omega arith

pub light_more : (s : Share) (xs ys : List Share) → ys ≡ xs ++ s ∷ [] → heaviest xs ≤ most_weight → s.weight ≤ most_weight → heaviest ys ≤ most_weight
light_more s xs ys e h l = rw e (light_at s xs h l)

pub back_more : (s : Share) (xs ys : List Share) → ys ≡ xs ++ s ∷ [] → all_back xs ≡ xs → back s ≡ s → all_back ys ≡ ys
back_more s xs ys e h b = rw e (map-append back xs (s ∷ []) ∙ cc)

-- ---- shares of rows
module _ {P V : Type 0} (p : Order P) (v : Rate V) (own : Option P) (blocked : List (Only P)) where
  pub length_shares : (rows : List (PeerRow P V)) → length (shares_for p v own blocked rows) ≡ length rows
  unfolding shares_for
  length_shares [] = refl
  length_shares (r ∷ rs) = ap suc (length_shares rs)

  -- a share made of the next row and put at the end of what is made
  pub shares_step : (made next : List Share) (s : Share) (rows : List (PeerRow P V)) (i : ℕ) (r : PeerRow P V) → next ≡ made ++ s ∷ [] → s ≡ share_for p v own blocked r → i < length rows → r ≡ get_or rows i r
      → made ++ shares_for p v own blocked (drop i rows) ≡ shares_for p v own blocked rows → next ++ shares_for p v own blocked (drop (i + 1) rows) ≡ shares_for p v own blocked rows
  unfolding shares_for
  shares_step made next s rows i r e f l is h = rw (e, f) (made_over (shares_for p v own blocked) made _ rows i r (share_for p v own blocked r) l is refl h)

  pub shares_done : (made : List Share) (rows : List (PeerRow P V)) (i : ℕ) → length rows ≤ i → made ++ shares_for p v own blocked (drop i rows) ≡ shares_for p v own blocked rows → made ≡ shares_for p v own blocked rows
  unfolding shares_for
  shares_done made rows i l h = made_all (shares_for p v own blocked) made _ rows i refl l h

-- ---- one changed
pub changed_set : {R : Type 0} (f : R → R) (r s : R) (rows : List R) (i : ℕ) → i < length rows → r ≡ get_or rows i r → s ≡ f r → set rows i s ≡ changed_at f rows i
unfolding changed_at
changed_set f r s [] i l e h = absurd (omega arith)
changed_set f r s (x ∷ xs) zero l e h = ap (λ t. t ∷ xs) (h ∙ ap f e)
changed_set f r s (x ∷ xs) (suc i) l e h = ap (λ t. x ∷ t) (changed_set f r s xs i (omega arith) e h)

pub changed_past : {R : Type 0} (f : R → R) (rows : List R) (i : ℕ) → length rows ≤ i → changed_at f rows i ≡ rows
unfolding changed_at
changed_past f [] i l = refl
changed_past f (r ∷ rs) zero l = absurd (omega arith)
changed_past f (r ∷ rs) (suc i) l = ap (λ t. r ∷ t) (changed_past f rs i (omega arith))

pub length_changed : {R : Type 0} (f : R → R) (rows : List R) (i : ℕ) → length (changed_at f rows i) ≡ length rows
unfolding changed_at
length_changed f [] i = refl
length_changed f (r ∷ rs) zero = refl
length_changed f (r ∷ rs) (suc i) = ap suc (length_changed f rs i)

-- ---- a share with another weight
pub light_set : (w : ℕ) (r s : Share) (xs : List Share) (i : ℕ) → i < length xs → r ≡ get_or xs i r → s ≡ reweighed w r → heaviest xs ≤ most_weight → w ≤ most_weight → heaviest (set xs i s) ≤ most_weight
unfolding heaviest
light_set w r s [] i l e f h k = h
light_set w r s (x ∷ xs) zero l e f h k =
    let a : s.weight ≤ most_weight = rw (f, e) (grind (arith, nat_tests)) in
    omega arith
light_set w r s (x ∷ xs) (suc i) l e f h k = let a = light_set w r s xs i (omega arith) e f (omega arith) k in omega arith

-- no share is aside
pub back_set : (w : ℕ) (r s : Share) (xs : List Share) (i : ℕ) → i < length xs → r ≡ get_or xs i r → s ≡ reweighed w r → all_back xs ≡ xs → all_back (set xs i s) ≡ set xs i s
back_set w r s [] i l e f h = refl
back_set w r s (x ∷ xs) zero l e f h =
    let a : x.aside ≡ false = cc in
    let b : s.aside ≡ false = ap (λ (y : Share). y.aside) (f ∙ ap (reweighed w) e) ∙ a in
    let t : all_back xs ≡ xs = cc in
    let u : back s ≡ s = ap (λ (v : Bool). record { weight = s.weight; aside = v }) (sym b) in
    cc
back_set w r s (x ∷ xs) (suc i) l e f h =
    let t : all_back xs ≡ xs = cc in
    let u : back x ≡ x = cc in
    let k = back_set w r s xs i (omega arith) e f t in
    cc
