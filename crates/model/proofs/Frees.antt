-- Among one more id than are out, one is free.
use Rattle.std.proofs.Common.{◌≡◌, ℕ, zero, suc, ◌+◌, ◌%◌, ◌^◌, ◌<◌, ◌≤◌, Bool, true, false, cond, eqb, List, [], ◌∷◌, length, is_some, Some, None, Option, sym, refl, ap, ◌∙◌, subst, ⊎_elim, arith}
use Rattle.std.proofs.lemmas.Bool.{cases_Bool, cases_eq, cond-true, cond-false, eq-eqb, ne_eqb, both_ways}
use Rattle.tables.specs.Scans.{first_of, or_else}
use Rattle.live.specs.declared.row.KeyRow.{KeyRow}
use Rattle.live.specs.declared.stage.Stage.{Stage}
use Rattle.live.specs.declared.stage.Stage.TheVariants.{Queued, Out, Judged}
use Rattle.live.specs.Requests.{has_id, id_in, id_out}
use Rattle.model.specs.Ids.{after, free_in, free_id}

-- the id after j steps
abbrev pos : ℕ → ℕ → ℕ
pos s j = (s + j) % 2 ^ 64

abbrev same : ℕ → ℕ → ℕ
same a b = cond (eqb a b) 1 0

-- how many of the first k ids are o
abbrev hits : ℕ → ℕ → ℕ → ℕ
hits zero s o = 0
hits (suc k) s o = same o (pos s k) + hits k s o

-- whether a row is out under an id, and how often the first k ids are that of a row
abbrev same_at : {P : Type 0} → Stage P → ℕ → ℕ
same_at (Queued retried deadline) x = 0
same_at (Out id peer start) x = same id x
same_at (Judged slip) x = 0

abbrev hits_at : {P : Type 0} → Stage P → ℕ → ℕ → ℕ
hits_at (Queued retried deadline) k s = 0
hits_at (Out id peer start) k s = hits k s id
hits_at (Judged slip) k s = 0

-- how many rows are out under an id, and how many of the first k are so
abbrev times : {K P : Type 0} → List (KeyRow K P) → ℕ → ℕ
times [] x = 0
times (r ∷ rs) x = same_at r.stage x + times rs x

abbrev all_hits : {K P : Type 0} → List (KeyRow K P) → ℕ → ℕ → ℕ
all_hits [] k s = 0
all_hits (r ∷ rs) k s = hits_at r.stage k s + all_hits rs k s

apart : (s j k : ℕ) → j < k → k < 2 ^ 64 → pos s j ≡ pos s k → ⊥
apart s j k h l e = omega arith

hits_none : (k s o : ℕ) → ((j : ℕ) → j < k → o ≡ pos s j → ⊥) → hits k s o ≡ 0
hits_none zero s o h = refl
hits_none (suc k) s o h =
    let a : ◌≡◌ {A = ℕ} (same o (pos s k)) 0 = cond-false (eqb o (pos s k)) 1 0 (ne_eqb o (pos s k) (h k (omega arith))) in
    let b = hits_none k s o (λ j l. h j (omega arith)) in
    omega (arith, a, b)

hits_one : (k s o : ℕ) → k ≤ 2 ^ 64 → hits k s o ≤ 1
hits_one zero s o l = omega arith
hits_one (suc k) s o l = ⊎_elim
    (λ e. let a : ◌≡◌ {A = ℕ} (same o (pos s k)) 1 = cond-true (eqb o (pos s k)) 1 0 (eq-eqb o (pos s k) e) in
    let b = hits_none k s o (λ j h q. apart s j k h (omega arith) (sym q ∙ e)) in omega (arith, a, b))
    (λ n. let a : ◌≡◌ {A = ℕ} (same o (pos s k)) 0 = cond-false (eqb o (pos s k)) 1 0 (ne_eqb o (pos s k) n) in
    let b = hits_one k s o (omega arith) in omega (arith, a, b))
    (cases_eq o (pos s k))

out_none : (K P : Type 0) (id : ℕ) → id_out {K = K} {P = P} id [] ≡ true → ⊥
unfolding first_of
out_none K P id e = both_ways false refl e

module _ {P : Type 0} where
  at_few : (x : Stage P) (k s : ℕ) → k ≤ 2 ^ 64 → hits_at x k s ≤ 1
  at_few (Queued retried deadline) k s l = omega arith
  at_few (Out id peer start) k s l = hits_one k s id l
  at_few (Judged slip) k s l = omega arith

  at_zero : (x : Stage P) (s : ℕ) → hits_at x 0 s ≡ 0
  at_zero (Queued retried deadline) s = refl
  at_zero (Out id peer start) s = refl
  at_zero (Judged slip) s = refl

  at_more : (x : Stage P) (k s : ℕ) → hits_at x (suc k) s ≡ same_at x (pos s k) + hits_at x k s
  at_more (Queued retried deadline) k s = refl
  at_more (Out id peer start) k s = refl
  at_more (Judged slip) k s = refl

  at_times : (x : Stage P) (id : ℕ) → has_id id x ≡ true → 1 ≤ same_at x id
  at_times (Queued retried deadline) id e = absurd (both_ways false refl e)
  at_times (Out i peer start) id e = let a : ◌≡◌ {A = ℕ} (same i id) 1 = cond-true (eqb i id) 1 0 e in omega (arith, a)
  at_times (Judged slip) id e = absurd (both_ways false refl e)

module _ {K P : Type 0} where
  all_few : (rs : List (KeyRow K P)) (k s : ℕ) → k ≤ 2 ^ 64 → all_hits rs k s ≤ length rs
  all_few [] k s l = omega arith
  all_few (r ∷ rs) k s l = omega (arith, at_few r.stage k s l, all_few rs k s l)

  all_zero : (rs : List (KeyRow K P)) (s : ℕ) → all_hits rs 0 s ≡ 0
  all_zero [] s = refl
  all_zero (r ∷ rs) s = omega (arith, at_zero r.stage s, all_zero rs s)

  all_more : (rs : List (KeyRow K P)) (k s : ℕ) → all_hits rs (suc k) s ≡ times rs (pos s k) + all_hits rs k s
  all_more [] k s = refl
  all_more (r ∷ rs) k s = omega (arith, at_more r.stage k s, all_more rs k s)

  out_more : (r : KeyRow K P) (rs : List (KeyRow K P)) (id : ℕ) → has_id id r.stage ≡ false → id_out id (r ∷ rs) ≡ id_out id rs
  unfolding first_of
  out_more r rs id e = ap (λ (o : Option K). is_some (or_else o (first_of (id_in id) rs))) (cond-false (has_id id r.stage) (Some r.key) None e)

  out_times : (rs : List (KeyRow K P)) (id : ℕ) → id_out id rs ≡ true → 1 ≤ times rs id
  out_times [] id e = absurd (out_none K P id e)
  out_times (r ∷ rs) id e = ⊎_elim
      (λ t. omega (arith, at_times r.stage id t))
      (λ f. omega (arith, out_times rs id (sym (out_more r rs id f) ∙ e)))
      (cases_Bool (has_id id r.stage))

  all_many : (rs : List (KeyRow K P)) (k s : ℕ) → ((j : ℕ) → j < k → id_out (pos s j) rs ≡ true) → k ≤ all_hits rs k s
  all_many rs zero s h = omega (arith, all_zero rs s)
  all_many rs (suc k) s h = omega (arith, all_more rs k s, out_times rs (pos s k) (h k (omega arith)), all_many rs k s (λ j l. h j (omega arith)))

-- where the walk ends at an id that is out, it met only such ids
met : (n : ℕ) (out : ℕ → Bool) (s i : ℕ) → out (free_in n out (pos s i)) ≡ true → (j : ℕ) → j ≤ n → out (pos s (i + j)) ≡ true
met zero out s i e j l = let k : i ≡ i + j = omega arith in subst (λ m. out (pos s m) ≡ true) k e
met (suc n) out s i e zero l =
    let k : i ≡ i + 0 = omega arith in
    subst (λ m. out (pos s m) ≡ true) k
    (⊎_elim (λ t. t) (λ f. sym (ap (out) (cond-false (out (pos s i)) (free_in n out (after (pos s i))) (pos s i) f)) ∙ e) (cases_Bool (out (pos s i))))
met (suc n) out s i e (suc j) l =
    let k : i + 1 + j ≡ i + suc j = omega arith in
    let a : after (pos s i) ≡ pos s (i + 1) = omega arith in
    let t : out (pos s i) ≡ true = ⊎_elim (λ t. t) (λ f. sym (ap (out) (cond-false (out (pos s i)) (free_in n out (after (pos s i))) (pos s i) f)) ∙ e) (cases_Bool (out (pos s i))) in
    subst (λ m. out (pos s m) ≡ true) k
    (met n out s (i + 1) (ap (λ x. out (free_in n out x)) (sym a) ∙ sym (ap (out) (cond-true (out (pos s i)) (free_in n out (after (pos s i))) (pos s i) t)) ∙ e) j (omega arith))

pub free : {K P : Type 0} (keys : List (KeyRow K P)) (id : ℕ) → id < 2 ^ 64 → length keys < 2 ^ 64 → id_out (free_id keys id) keys ≡ false
free keys id f l = ⊎_elim
    (λ t.
    let out : ℕ → Bool = λ i. id_out i keys in
    let z : pos id 0 ≡ id = omega arith in
    let h : (j : ℕ) → j < suc (length keys) → out (pos id j) ≡ true = λ j q.
    let k : 0 + j ≡ j = omega arith in
    subst (λ m. out (pos id m) ≡ true) k (met (length keys) out id 0 (ap (λ x. out (free_in (length keys) out x)) z ∙ t) j (omega arith)) in
    absurd (omega (arith, all_few keys (suc (length keys)) id (omega arith), all_many keys (suc (length keys)) id h)))
    (λ e. e)
    (cases_Bool (id_out (free_id keys id) keys))

pub free_stop : (n : ℕ) (out : ℕ → Bool) (id : ℕ) → out id ≡ false → free_in n out id ≡ id
free_stop zero out id e = refl
free_stop (suc n) out id e = cond-false (out id) _ id e

-- how many ids are passed over, at most n
abbrev pub steps : ℕ → (ℕ → Bool) → ℕ → ℕ
steps zero out x = 0
steps (suc n) out x = cond (out x) (suc (steps n out (after x))) 0

steps_stop : (n : ℕ) (out : ℕ → Bool) (x : ℕ) → out (free_in n out x) ≡ false → steps (suc n) out x ≡ steps n out x
steps_stop zero out x e = cond-false (out x) (suc (steps 0 out (after x))) 0 e
steps_stop (suc n) out x e = ⊎_elim
    (λ t. let f : out (free_in n out (after x)) ≡ false = sym (ap (out) (cond-true (out x) (free_in n out (after x)) x t)) ∙ e in
    cond-true (out x) (suc (steps (suc n) out (after x))) 0 t ∙ ap suc (steps_stop n out (after x) f) ∙ sym (cond-true (out x) (suc (steps n out (after x))) 0 t))
    (λ f. cond-false (out x) (suc (steps (suc n) out (after x))) 0 f ∙ sym (cond-false (out x) (suc (steps n out (after x))) 0 f))
    (cases_Bool (out x))

free_same : (n : ℕ) (out : ℕ → Bool) (x : ℕ) → out (free_in n out x) ≡ false → free_in (suc n) out x ≡ free_in n out x
free_same zero out x e = cond-false (out x) (free_in 0 out (after x)) x e
free_same (suc n) out x e = ⊎_elim
    (λ t. let f : out (free_in n out (after x)) ≡ false = sym (ap (out) (cond-true (out x) (free_in n out (after x)) x t)) ∙ e in
    cond-true (out x) (free_in (suc n) out (after x)) x t ∙ free_same n out (after x) f ∙ sym (cond-true (out x) (free_in n out (after x)) x t))
    (λ f. cond-false (out x) (free_in (suc n) out (after x)) x f ∙ sym (cond-false (out x) (free_in n out (after x)) x f))
    (cases_Bool (out x))

module _ {K P : Type 0} (keys : List (KeyRow K P)) (x : ℕ) (f : x < 2 ^ 64) (l : length keys < 2 ^ 64) (t : id_out x keys ≡ true) where
  pub falls : steps (suc (length keys)) (λ i. id_out i keys) (after x) < steps (suc (length keys)) (λ i. id_out i keys) x
  falls =
      let a = cond-true (id_out x keys) (suc (steps (length keys) (λ i. id_out i keys) (after x))) 0 t in
      let b = steps_stop (length keys) (λ i. id_out i keys) (after x) (free keys (after x) (omega arith) l) in
      omega (arith, a, b)

  pub goes_on : free_id keys (after x) ≡ free_id keys x
  goes_on = sym (cond-true (id_out x keys) (free_in (length keys) (λ i. id_out i keys) (after x)) x t) ∙ free_same (length keys) (λ i. id_out i keys) x (free keys x f l)
