-- What is left to draw from, and what setting a row aside leaves.
use Rattle.std.proofs.Common.{◌≡◌, ℕ, zero, suc, ◌+◌, ◌<◌, ◌≤◌, true, false, cond, eqb, List, [], ◌∷◌, length, get_or, take, Some, sym, refl, ap, ◌∙◌, ⊎_elim, arith}
use Rattle.std.proofs.lemmas.Bool.{eq-eqb, cases_lt, eqb-true, eqb-false, cond_both, cond-true, cond-false, lt-ltb, le-ltb, ne_eqb}
use Rattle.draw.specs.declared.rows.Share.{Share}
use Rattle.draw.specs.declared.rows.By.{By}
use Rattle.draw.specs.declared.rows.By.TheVariants.{Weight, Head}
use Rattle.draw.specs.Words.{drawn, rest}
use Rattle.draw.specs.declared.rows.Left.{Left}
use Rattle.draw.specs.Rows.{part, left_by, total, reach, manner_of, choice, pick, words_after, nobody, Spans, without, back, all_back, heft}

pub part_le : (by : By) (s : Share) → part by s ≤ s.weight
part_le Weight s = cond_both s.aside 0 s.weight (λ n. n ≤ s.weight) (λ _. omega arith) (λ _. omega arith)
part_le Head s =
    cond_both s.aside 0 (cond (eqb s.weight 0) 0 1) (λ n. n ≤ s.weight) (λ _. omega arith)
    (λ _. cond_both (eqb s.weight 0) 0 1 (λ n. n ≤ s.weight) (λ _. omega arith)
    (λ e. omega (arith, eqb-false s.weight 0 e)))

pub total_le : (by : By) (xs : List Share) → total by xs ≤ heft xs
total_le by [] = omega arith
total_le by (s ∷ ss) = omega (arith, part_le by s, total_le by ss)

head_le : (s : Share) → part Head s ≤ part Weight s
head_le s = elim s.aside as (λ b. cond b 0 (cond (eqb s.weight 0) 0 1) ≤ cond b 0 s.weight) [
  | true ↦ omega arith
  | false ↦ cond_both (eqb s.weight 0) 0 1 (λ n. n ≤ s.weight) (λ _. omega arith)
      (λ e. omega (arith, eqb-false s.weight 0 e))
]

pub heads_le : (xs : List Share) → total Head xs ≤ total Weight xs
heads_le [] = omega arith
heads_le (s ∷ ss) = omega (arith, head_le s, heads_le ss)

-- where a row is left by head, one is left in either manner
pub some_left : (by : By) (xs : List Share) → 0 < total Head xs → 0 < total by xs
some_left Weight xs h = omega (arith, heads_le xs)
some_left Head xs h = h

-- whatever counts by weight counts as one by head
pub part_head : (by : By) (s : Share) → 0 < part by s → part Head s ≡ 1
part_head Head s h =
    (elim s.aside as (λ b. 0 < cond b 0 (cond (eqb s.weight 0) 0 1) → ◌≡◌ {A = ℕ} (cond b 0 (cond (eqb s.weight 0) 0 1)) 1) [
      | true ↦ (λ h. omega arith)
      | false ↦ cond_both (eqb s.weight 0) 0 1 (λ n. 0 < n → n ≡ 1) (λ _ h. omega arith) (λ _ h. refl)
    ]) h
part_head Weight s h =
    (elim s.aside as (λ b. 0 < cond b 0 s.weight → ◌≡◌ {A = ℕ} (cond b 0 (cond (eqb s.weight 0) 0 1)) 1) [
      | true ↦ (λ h. omega arith)
      | false ↦ (λ h. cond_both (eqb s.weight 0) 0 1 (λ n. n ≡ 1)
          (λ e. omega (arith, eqb-true s.weight 0 e)) (λ _. refl))
    ]) h

-- the row that is reached counts for something
pub reach_part : (by : By) (sum : ℕ) (xs : List Share) (x : ℕ) → sum ≤ x → x < sum + total by xs → 0 < part by (get_or xs (reach by sum xs x) nobody)
reach_part by sum [] x lo hi = let a : 0 < 0 = omega arith in absurd (omega arith)
reach_part by sum (s ∷ ss) x lo hi =
    ⊎_elim
    (λ lt. let e = lt-ltb x (sum + part by s) lt in rw e (omega arith))
    (λ ge. let e = le-ltb x (sum + part by s) ge in rw e (reach_part by (sum + part by s) ss x ge (omega arith)))
    (cases_lt x (sum + part by s))

pub part_away : (by : By) (w : ℕ) → part by (record { weight = w; aside = true }) ≡ 0
part_away Weight w = refl
part_away Head w = refl

pub total_without : (by : By) (xs : List Share) (p : ℕ) → p < length xs → total by (without xs p) + part by (get_or xs p nobody) ≡ total by xs
total_without by [] p h = omega arith
total_without by (s ∷ ss) zero h = omega (arith, part_away by s.weight)
total_without by (s ∷ ss) (suc p) h = omega (arith, total_without by ss p (omega arith))

pub back_without : (xs : List Share) (p : ℕ) → all_back (without xs p) ≡ all_back xs
back_without [] p = refl
back_without (s ∷ ss) zero = refl
back_without (s ∷ ss) (suc p) = ap (λ l. back s ∷ l) (back_without ss p)

pub heft_back : (xs : List Share) → heft (all_back xs) ≡ heft xs
heft_back [] = refl
heft_back (s ∷ ss) = ap (λ n. s.weight + n) (heft_back ss)

-- rows that are the same once all are back weigh the same
pub heft_same : (xs ys : List Share) → all_back xs ≡ all_back ys → heft xs ≡ heft ys
heft_same xs ys e = sym (heft_back xs) ∙ ap heft e ∙ heft_back ys

pub pick_some : (xs : List Share) (retries : ℕ) (w : ℕ → ℕ) (by : By) (x p : ℕ) → 0 < total Head xs → by ≡ manner_of retries w → x ≡ drawn (total by xs) (rest (retries + 4) w) → p ≡ reach by 0 xs x → Some p ≡ pick xs retries w
pick_some xs retries w by x p some e-by e-x e-p =
    ap Some (e-p ∙ ap (reach by 0 xs) e-x ∙ ap (λ b. choice b xs (rest (retries + 4) w)) e-by)
    ∙ sym (cond-false (eqb (total Head xs) 0) _ _ (ne_eqb (total Head xs) 0 (λ e. omega arith)))

pub words_some : (xs : List Share) (retries : ℕ) (w : ℕ → ℕ) (by : By) → 0 < total Head xs → by ≡ manner_of retries w → rest (total by xs) (rest (retries + 4) w) ≡ words_after xs retries w
words_some xs retries w by some e-by =
    ap (λ b. rest (total b xs) (rest (retries + 4) w)) e-by
    ∙ sym (cond-false (eqb (total Head xs) 0) _ _ (ne_eqb (total Head xs) 0 (λ e. omega arith)))

pub words_none : (xs : List Share) (retries : ℕ) (w : ℕ → ℕ) → total Head xs ≡ 0 → words_after xs retries w ≡ w
words_none xs retries w e = cond-true (eqb (total Head xs) 0) _ _ (eq-eqb (total Head xs) 0 e)

pub fewer_left : (by : By) (xs : List Share) (x p : ℕ) → x < total by xs → p ≡ reach by 0 xs x → p < length xs → total Head (without xs p) + 1 ≡ total Head xs
fewer_left by xs x p lt e within =
    let one : 0 < part by (get_or xs p nobody) = rw e (reach_part by 0 xs x (omega arith) (omega arith)) in
    omega (arith, total_without Head xs p within, part_head by (get_or xs p nobody) one)

spans : (by : By) (sum : ℕ) (xs : List Share) (x : ℕ) → sum ≤ x → x < sum + total by xs → (reach by sum xs x < length xs) × (sum + total by (take (reach by sum xs x) xs) ≤ x) × (x < sum + total by (take (suc (reach by sum xs x)) xs))
spans by sum [] x lo hi = absurd (omega arith)
spans by sum (s ∷ ss) x lo hi =
    ⊎_elim
    (λ lt. let e = lt-ltb x (sum + part by s) lt in rw e (omega arith, omega arith, omega arith))
    (λ ge. let e = le-ltb x (sum + part by s) ge in
    let h = spans by (sum + part by s) ss x ge (omega arith) in
    rw e (omega (arith, h.0), omega (arith, h.1), omega (arith, h.2)))
    (cases_lt x (sum + part by s))

-- what is drawn below the sum of the rows left falls within the row that is reached
pub running : (by : By) (xs : List Share) (x : ℕ) → x < total by xs → Spans by xs x (reach by 0 xs x)
running by xs x h =
    let s = spans by 0 xs x (omega arith) (omega arith) in (s.0, omega (arith, s.1), omega (arith, s.2))

-- no more rows are left than there are
pub heads_length : (xs : List Share) → total Head xs ≤ length xs
heads_length [] = omega arith
heads_length (s ∷ ss) =
    let one : part Head s ≤ 1 = (elim s.aside as (λ b. cond b 0 (cond (eqb s.weight 0) 0 1) ≤ 1) [
      | true ↦ omega arith
      | false ↦ cond_both (eqb s.weight 0) 0 1 (λ n. n ≤ 1) (λ _. omega arith) (λ _. omega arith)
    ]) in
    omega (arith, one, heads_length ss)

-- the counts of the rows left are what they count for, in either manner
pub left_total : (by : By) (l : Left) (xs : List Share) → l.weight ≡ total Weight xs → l.heads ≡ total Head xs → left_by by l ≡ total by xs
left_total Weight l xs w h = w
left_total Head l xs w h = h
