-- The order in which rows are drawn: one pick and then the rest, each row left once.
use Rattle.std.proofs.Common.{◌≡◌, ℕ, zero, suc, ◌+◌, ◌<◌, true, cond, eqb, List, [], ◌∷◌, length, get_or, Some, None, Option, sym, refl, ap, ◌∙◌, ⊎_elim, add-one, arith}
use Rattle.std.proofs.lemmas.Bool.{cases_eq, eq-eqb, ne_eqb, cond-true, cond-false}
use Rattle.std.proofs.lemmas.List.{get_or-set_same, get_or-set_other}
use Rattle.draw.specs.Fits.{drawn_below}
use Rattle.draw.proofs.Picks.{some_left, running, reach_part, pick_some, fewer_left, part_head}
use Rattle.draw.specs.Words.{drawn, rest}
use Rattle.draw.specs.declared.rows.Share.{Share}
use Rattle.draw.specs.declared.rows.By.TheVariants.{Head}
use Rattle.draw.specs.Rows.{part, pick, words_after, without, total, manner_of, reach, nobody}
use Rattle.draw.specs.Order.{picks, picks_words, order, order_words, times, Once}

pub picks_step : (n : ℕ) (xs : List Share) (retries : ℕ) (w : ℕ → ℕ) (p : ℕ) → Some p ≡ pick xs retries w → picks (suc n) xs retries w ≡ p ∷ picks n (without xs p) retries (words_after xs retries w)
picks_step n xs retries w p e =
    ap (λ (o : Option ℕ). elim o [ None ↦ [] | Some q ↦ q ∷ picks n (without xs q) retries (words_after xs retries w) ]) (sym e)

pub words_step : (n : ℕ) (xs : List Share) (retries : ℕ) (w : ℕ → ℕ) (p : ℕ) → Some p ≡ pick xs retries w → picks_words (suc n) xs retries w ≡ picks_words n (without xs p) retries (words_after xs retries w)
words_step n xs retries w p e =
    ap (λ (o : Option ℕ). elim o [ None ↦ w | Some q ↦ picks_words n (without xs q) retries (words_after xs retries w) ]) (sym e)

one_more : (xs : List Share) (p : ℕ) → total Head (without xs p) + 1 ≡ total Head xs → suc (total Head (without xs p)) ≡ total Head xs
one_more xs p n = sym (add-one (total Head (without xs p))) ∙ n

pub order_step : (xs : List Share) (retries : ℕ) (w : ℕ → ℕ) (p : ℕ) → Some p ≡ pick xs retries w → total Head (without xs p) + 1 ≡ total Head xs → order xs retries w ≡ p ∷ order (without xs p) retries (words_after xs retries w)
order_step xs retries w p e n =
    ap (λ k. picks k xs retries w) (sym (one_more xs p n)) ∙ picks_step (total Head (without xs p)) xs retries w p e

pub order_words_step : (xs : List Share) (retries : ℕ) (w : ℕ → ℕ) (p : ℕ) → Some p ≡ pick xs retries w → total Head (without xs p) + 1 ≡ total Head xs
    → order_words xs retries w ≡ order_words (without xs p) retries (words_after xs retries w)
order_words_step xs retries w p e n =
    ap (λ k. picks_words k xs retries w) (sym (one_more xs p n)) ∙ words_step (total Head (without xs p)) xs retries w p e

pub order_none : (xs : List Share) (retries : ℕ) (w : ℕ → ℕ) → total Head xs ≡ 0 → order xs retries w ≡ []
order_none xs retries w e = ap (λ k. picks k xs retries w) e

pub order_words_none : (xs : List Share) (retries : ℕ) (w : ℕ → ℕ) → total Head xs ≡ 0 → order_words xs retries w ≡ w
order_words_none xs retries w e = ap (λ k. picks_words k xs retries w) e

-- a row that is left is there to be picked
none_left : (xs : List Share) (p : ℕ) → total Head xs ≡ 0 → part Head (get_or xs p nobody) ≡ 0
none_left [] p h = refl
none_left (s ∷ ss) zero h = omega arith
none_left (s ∷ ss) (suc p) h = none_left ss p (omega arith)

-- what is picked where a row is left: a place within, whose row is left
pub picked : (xs : List Share) (retries : ℕ) (w : ℕ → ℕ) → 0 < total Head xs → (p : ℕ) × (Some p ≡ pick xs retries w) × (p < length xs) × (total Head (without xs p) + 1 ≡ total Head xs) × (part Head (get_or xs p nobody) ≡ 1)
picked xs retries w h =
    let by = manner_of retries w in
    let v = rest (retries + 4) w in
    let x = drawn (total by xs) v in
    let p = reach by 0 xs x in
    let lt : x < total by xs = drawn_below (total by xs) v (some_left by xs h) in
    let within = (running by xs x lt).0 in
    let one = reach_part by 0 xs x (omega arith) (omega arith) in
    (p, pick_some xs retries w by x p h refl refl refl, within, fewer_left by xs x p lt refl within, part_head by (get_or xs p nobody) one)

once_at : (n : ℕ) (xs : List Share) (retries : ℕ) (w : ℕ → ℕ) (p : ℕ) → total Head xs ≡ n → times p (picks n xs retries w) ≡ part Head (get_or xs p nobody)
once_at zero xs retries w p e = sym (none_left xs p e)
once_at (suc n) xs retries w p e =
    let h = picked xs retries w (omega arith) in
    let q = h.0 in
    let ih = once_at n (without xs q) retries (words_after xs retries w) p (omega (arith, h.3)) in
    ap (times p) (picks_step n xs retries w q h.1)
    ∙ ⊎_elim
    (λ same.
    let a : ◌≡◌ {A = ℕ} (cond (eqb p q) 1 0) 1 = cond-true (eqb p q) 1 0 (eq-eqb p q same) in
    let z : part Head (get_or (without xs q) p nobody) ≡ 0 =
    ap (λ k. part Head (get_or (without xs q) k nobody)) same ∙ ap (part Head) (get_or-set_same xs q _ nobody h.2) in
    let o : part Head (get_or xs p nobody) ≡ 1 = ap (λ k. part Head (get_or xs k nobody)) same ∙ h.4 in
    omega (arith, a, ih, z, o))
    (λ other.
    let a : ◌≡◌ {A = ℕ} (cond (eqb p q) 1 0) 0 = cond-false (eqb p q) 1 0 (ne_eqb p q other) in
    let z = ap (part Head) (get_or-set_other xs q p (record { weight = (get_or xs q nobody).weight; aside = true }) nobody other) in
    omega (arith, a, ih, z))
    (cases_eq p q)

pub once : (xs : List Share) (retries : ℕ) (w : ℕ → ℕ) → Once xs (order xs retries w)
once xs retries w p = once_at (total Head xs) xs retries w p refl
