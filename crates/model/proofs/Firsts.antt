-- The walk sends the first ready key.
use Rattle.std.proofs.Common.{◌≡◌, ℕ, zero, suc, ◌+◌, ◌<◌, ◌≤◌, min, Bool, true, false, cond, ◌||◌, eqb, leb, List, [], ◌∷◌, length, get_or, Some, None, Option, sym, refl, ap, ◌∙◌, subst, ⊎_elim, arith}
use Rattle.std.specs.List.{slice_get}
use Rattle.std.proofs.lemmas.List.{get_or-set_other, length-set}
use Rattle.std.proofs.lemmas.Bool.{cases_eq, cases_Bool, cond_both, cond-true, cond-false, leb-true, leb-false, eqb-true, ne_eqb, both_ways}
use Rattle.draw.specs.declared.rows.Share.{Share}
use Rattle.draw.specs.declared.rows.By.TheVariants.{Head}
use Rattle.draw.specs.Rows.{part, total, pick, words_after, without, nobody, all_back}
use Rattle.draw.proofs.Orders.{picked}
use Rattle.draw.proofs.Picks.{part_le, back_without}
use Rattle.link.specs.declared.words.Word.{Word}
use Rattle.link.specs.declared.words.Word.TheVariants.{Take, Closed, Wait}
use Rattle.link.specs.declared.words.Message.{Message}
use Rattle.roster.specs.declared.row.PeerRow.{PeerRow}
use Rattle.live.specs.declared.row.KeyRow.{KeyRow}
use Rattle.live.specs.declared.queue.QueueRow.{QueueRow}
use Rattle.model.specs.Ids.{next_of, words_of}
use Rattle.model.specs.Tries.{sooner_of, stays, left_out, rows_for, Named, Tried, Fetched, try_rows, try_key, go_on, try_keys}
use Rattle.model.specs.Laws.{AllowedAt, Ready, First}
use Rattle.model.proofs.Steps.{rows_none, rows_some}

pub none_left : (xs : List Share) (p : ℕ) → total Head xs ≡ 0 → part Head (get_or xs p nobody) ≡ 0
none_left [] p h = refl
none_left (s ∷ ss) zero h = omega arith
none_left (s ∷ ss) (suc p) h = none_left ss p (omega arith)

pub nth_some : {X : Type 0} (xs : List X) (p : ℕ) → p < length xs → (x : X) × (slice_get xs p ≡ Some x)
nth_some [] p h = absurd (omega arith)
nth_some (x ∷ xs) zero h = (x, refl)
nth_some (x ∷ xs) (suc p) h = nth_some xs p (omega arith)

pub away : (xs : List Share) (p : ℕ) → part Head (get_or (without xs p) p nobody) ≡ 0
away [] p = refl
away (s ∷ ss) zero = refl
away (s ∷ ss) (suc p) = away ss p

pub other : (xs : List Share) (q p : ℕ) → (p ≡ q → ⊥) → get_or (without xs q) p nobody ≡ get_or xs p nobody
other xs q p h = get_or-set_other xs q p (record { weight = (get_or xs q nobody).weight; aside = true }) nobody h

module _ {P V : Type 0} (word : P → ℕ → Word) (time : ℕ) (peers : List (PeerRow P V)) where
  -- the row of the roster is left in the draw
  abbrev pub Open : List Share → ℕ → PeerRow P V → Type 0
  Open xs p row = (slice_get peers p ≡ Some row) × (part Head (get_or xs p nobody) ≡ 1)

  -- what the tries of the rows left came to
  abbrev pub Judged : List Share → Option (Named P) → Type 0
  Judged xs (Some h) = (p : ℕ) × (row : PeerRow P V) × Open xs p row × (row.peer ≡ h.peer) × (word h.peer time ≡ Take)
  Judged xs None = (p : ℕ) (row : PeerRow P V) → Open xs p row → word row.peer time ≡ Take → ⊥

  wider : (xs : List Share) (q : ℕ) (x : PeerRow P V) (h : Option (Named P)) → slice_get peers q ≡ Some x → (word x.peer time ≡ Take → ⊥) → Judged (without xs q) h → Judged xs h
  wider xs q x (Some h) at never j =
      let p = j.0 in
      let ne : p ≡ q → ⊥ = λ e. let z : part Head (get_or (without xs q) p nobody) ≡ 0 = ap (λ k. part Head (get_or (without xs q) k nobody)) e ∙ away xs q in omega (arith, z, j.2.1) in
      (p, j.1, (j.2.0, sym (ap (part Head) (other xs q p ne)) ∙ j.2.1), j.3, j.4)
  wider xs q x None at never j = λ p row o t. ⊎_elim
      (λ e. let s : Some x ≡ Some row = sym at ∙ ap (slice_get peers) (sym e) ∙ o.0 in let d : x ≡ row = cc in never (ap (λ (y : PeerRow P V). word y.peer time) d ∙ t))
      (λ ne. j p row (o.0, ap (part Head) (other xs q p ne) ∙ o.1) t)
      (cases_eq p q)

  module _ {K : Type 0} (out : List (KeyRow K P)) where
    judge_step : (xs : List Share) (r : ℕ) (w : ℕ → ℕ) (next wait : Option ℕ) (allowed : Bool) (q : ℕ) (x : PeerRow P V) → Some q ≡ pick xs r w → total Head (without xs q) + 1 ≡ total Head xs → slice_get peers q ≡ Some x → part Head (get_or xs q nobody) ≡ 1
        → ((w' : ℕ → ℕ) (next' wait' : Option ℕ) → Judged (without xs q) (try_rows word time peers out (without xs q) r w' next' wait' true).hit)
        → (v : Word) → word x.peer time ≡ v → Judged xs (try_rows word time peers out xs r w next wait allowed).hit
    judge_step xs r w next wait allowed q x e n at one ih Take ev =
        subst (λ t. Judged xs t.hit) (sym (rows_some word time peers out xs r w next wait allowed q x e n at Take ev)) (q, x, (at, one), refl, ev)
    judge_step xs r w next wait allowed q x e n at one ih Closed ev =
        subst (λ t. Judged xs t.hit) (sym (rows_some word time peers out xs r w next wait allowed q x e n at Closed ev))
        (wider xs q x (try_rows word time peers out (without xs q) r (words_of next (words_after xs r w)) (next_of out next (words_after xs r w)) wait true).hit at (λ t. let z : ◌≡◌ {A = ℕ} 0 1 = cc in omega arith)
        (ih (words_of next (words_after xs r w)) (next_of out next (words_after xs r w)) wait))
    judge_step xs r w next wait allowed q x e n at one ih (Wait u) ev =
        subst (λ t. Judged xs t.hit) (sym (rows_some word time peers out xs r w next wait allowed q x e n at (Wait u) ev))
        (wider xs q x (try_rows word time peers out (without xs q) r (words_after xs r w) next (sooner_of wait u) true).hit at (λ t. let z : ◌≡◌ {A = ℕ} 0 1 = cc in omega arith)
        (ih (words_after xs r w) next (sooner_of wait u)))

    judged : (n : ℕ) (xs : List Share) (r : ℕ) (w : ℕ → ℕ) (next wait : Option ℕ) (allowed : Bool) → total Head xs ≡ n → length xs ≡ length peers → Judged xs (try_rows word time peers out xs r w next wait allowed).hit
    judged zero xs r w next wait allowed e l =
        subst (λ t. Judged xs t.hit) (sym (rows_none word time peers out xs r w next wait allowed e)) (λ p row o t. omega (arith, none_left xs p e, o.1))
    judged (suc n) xs r w next wait allowed e l =
        let h = picked xs r w (omega arith) in
        let x = nth_some peers h.0 (omega (arith, h.2)) in
        judge_step xs r w next wait allowed h.0 x.0 h.1 h.3 x.1 h.4
        (λ w' next' wait'. judged n (without xs h.0) r w' next' wait' true (omega (arith, h.3)) (length-set xs h.0 _ ∙ l))
        (word x.0.peer time) refl

back_at : (xs : List Share) (p : ℕ) → (get_or (all_back xs) p nobody).aside ≡ false
back_at [] p = refl
back_at (s ∷ ss) zero = refl
back_at (s ∷ ss) (suc p) = back_at ss p

part_one : (s : Share) → s.aside ≡ false → (s.weight ≡ 0 → ⊥) → part Head s ≡ 1
part_one s a h = cond-false s.aside 0 (cond (eqb s.weight 0) 0 1) a ∙ cond-false (eqb s.weight 0) 0 1 (ne_eqb s.weight 0 h)

one_weighs : (s : Share) → part Head s ≡ 1 → s.weight ≡ 0 → ⊥
one_weighs s e z = omega (arith, part_le Head s, e)

part_zero : (s : Share) → s.weight ≡ 0 → part Head s ≡ 0
part_zero s e = omega (arith, part_le Head s)

kept_at : (b : Bool) (xs : List Share) (i k : ℕ) → (k ≡ i → ⊥) → get_or (cond b xs (without xs i)) k nobody ≡ get_or xs k nobody
kept_at true xs i k h = refl
kept_at false xs i k h = other xs i k h

stays_at : (z b : Bool) (xs : List Share) (i : ℕ) → (z ≡ true → (get_or xs i nobody).weight ≡ 0)
    → part Head (get_or (cond (z || b) xs (without xs i)) i nobody) ≡ cond b (part Head (get_or xs i nobody)) 0
stays_at true true xs i h = refl
stays_at true false xs i h = part_zero (get_or xs i nobody) (h refl)
stays_at false true xs i h = refl
stays_at false false xs i h = away xs i

-- a peer that is not wanted has no row left, and any other has its row
module _ {P V : Type 0} (ok : P → Bool) where
  here_at : (r : PeerRow P V) (xs : List Share) (i k : ℕ) → k ≡ i
      → part Head (get_or (cond (stays ok r (get_or xs i nobody)) xs (without xs i)) k nobody) ≡ cond (ok r.peer) (part Head (get_or xs k nobody)) 0
  here_at r xs i k e =
      ap (λ n. part Head (get_or (cond (stays ok r (get_or xs i nobody)) xs (without xs i)) n nobody)) e
      ∙ stays_at (eqb (get_or xs i nobody).weight 0) (ok r.peer) xs i (eqb-true (get_or xs i nobody).weight 0)
      ∙ ap (λ n. cond (ok r.peer) (part Head (get_or xs n nobody)) 0) (sym e)

  before_at : (ps : List (PeerRow P V)) (i : ℕ) (xs : List Share) (k : ℕ) → k < i → get_or (left_out ok ps i xs) k nobody ≡ get_or xs k nobody
  before_at [] i xs k h = refl
  before_at (p ∷ ps) i xs k h =
      before_at ps (i + 1) (cond (stays ok p (get_or xs i nobody)) xs (without xs i)) k (omega arith) ∙ kept_at (stays ok p (get_or xs i nobody)) xs i k (λ e. omega arith)

  left_at : (ps : List (PeerRow P V)) (i j : ℕ) (xs : List Share) (row : PeerRow P V) → slice_get ps j ≡ Some row
      → part Head (get_or (left_out ok ps i xs) (i + j) nobody) ≡ cond (ok row.peer) (part Head (get_or xs (i + j) nobody)) 0
  left_at [] i j xs row e = let z : ◌≡◌ {A = ℕ} 0 1 = cc in absurd (omega arith)
  left_at (p ∷ ps) i zero xs row e =
      let d : p ≡ row = cc in
      ap (part Head) (before_at ps (i + 1) (cond (stays ok p (get_or xs i nobody)) xs (without xs i)) (i + 0) (omega arith))
      ∙ here_at p xs i (i + 0) (omega arith)
      ∙ ap (λ (q : PeerRow P V). cond (ok q.peer) (part Head (get_or xs (i + 0) nobody)) 0) d
  left_at (p ∷ ps) i (suc j) xs row e =
      let k : i + suc j ≡ i + 1 + j = omega arith in
      let ys = cond (stays ok p (get_or xs i nobody)) xs (without xs i) in
      ap (λ n. part Head (get_or (left_out ok ps (i + 1) ys) n nobody)) k
      ∙ left_at ps (i + 1) j ys row e
      ∙ ap (λ n. cond (ok row.peer) (part Head (get_or ys n nobody)) 0) (sym k)
      ∙ ap (λ s. cond (ok row.peer) (part Head s) 0) (kept_at (stays ok p (get_or xs i nobody)) xs i (i + suc j) (λ q. omega arith))

  length_left : (ps : List (PeerRow P V)) (i : ℕ) (xs : List Share) → length (left_out ok ps i xs) ≡ length xs
  length_left [] i xs = refl
  length_left (p ∷ ps) i xs =
      length_left ps (i + 1) (cond (stays ok p (get_or xs i nobody)) xs (without xs i))
      ∙ cond_both (stays ok p (get_or xs i nobody)) xs (without xs i) (λ z. length z ≡ length xs) (λ _. refl) (λ _. length-set xs i _)

  back_left : (ps : List (PeerRow P V)) (i : ℕ) (xs : List Share) → all_back (left_out ok ps i xs) ≡ all_back xs
  back_left [] i xs = refl
  back_left (p ∷ ps) i xs =
      back_left ps (i + 1) (cond (stays ok p (get_or xs i nobody)) xs (without xs i))
      ∙ cond_both (stays ok p (get_or xs i nobody)) xs (without xs i) (λ z. all_back z ≡ all_back xs) (λ _. refl) (λ _. back_without xs i)

  rows_at : (aimed : Bool) (ps : List (PeerRow P V)) (xs : List Share) (j : ℕ) (row : PeerRow P V) → slice_get ps j ≡ Some row
      → part Head (get_or (rows_for aimed ok ps xs) j nobody) ≡ cond aimed (cond (ok row.peer) (part Head (get_or xs j nobody)) 0) (part Head (get_or xs j nobody))
  rows_at false ps xs j row e = refl
  rows_at true ps xs j row e =
      let z : 0 + j ≡ j = omega arith in
      ap (λ n. part Head (get_or (left_out ok ps 0 xs) n nobody)) (sym z) ∙ left_at ps 0 j xs row e ∙ ap (λ n. cond (ok row.peer) (part Head (get_or xs n nobody)) 0) z

  pub length_rows : (aimed : Bool) (ps : List (PeerRow P V)) (xs : List Share) → length (rows_for aimed ok ps xs) ≡ length xs
  length_rows false ps xs = refl
  length_rows true ps xs = length_left ps 0 xs

  pub back_rows : (aimed : Bool) (ps : List (PeerRow P V)) (xs : List Share) → all_back (rows_for aimed ok ps xs) ≡ all_back xs
  back_rows false ps xs = refl
  back_rows true ps xs = back_left ps 0 xs

some_of : (aimed b : Bool) (n : ℕ) → n ≡ 1 → (aimed ≡ true → b ≡ true) → ◌≡◌ {A = ℕ} (cond aimed (cond b n 0) n) 1
some_of false b n e h = e
some_of true b n e h = cond-true b n 0 (h refl) ∙ e

of_some : (aimed b : Bool) (n : ℕ) → ◌≡◌ {A = ℕ} (cond aimed (cond b n 0) n) 1 → (n ≡ 1) × (aimed ≡ true → b ≡ true)
of_some false b n e = (e, λ a. absurd (both_ways false refl a))
of_some true true n e = (e, λ a. refl)
of_some true false n e = let z : ◌≡◌ {A = ℕ} 0 1 = e in absurd (omega arith)

module _ {P V K : Type 0} (word : P → ℕ → Word) (time : ℕ) (peers : List (PeerRow P V)) (out : List (KeyRow K P)) (aims : K → P → Bool) (shares : List Share)
    (whole : all_back shares ≡ shares) (same : length peers ≡ length shares) where
  pub to_open : (k : QueueRow K) (p : ℕ) (row : PeerRow P V) → AllowedAt word time peers aims shares k p row → Open word time peers (rows_for k.aimed (aims k.key) peers shares) p row
  to_open k p row a = (
    a.0,
    rows_at (aims k.key) k.aimed peers shares p row a.0
        ∙ some_of k.aimed (aims k.key row.peer) (part Head (get_or shares p nobody))
        (part_one (get_or shares p nobody) (sym (ap (λ l. (get_or l p nobody).aside) whole) ∙ back_at shares p) a.1) a.2,
  )

  pub from_open : (k : QueueRow K) (p : ℕ) (row : PeerRow P V) → Open word time peers (rows_for k.aimed (aims k.key) peers shares) p row → AllowedAt word time peers aims shares k p row
  from_open k p row o =
      let h = of_some k.aimed (aims k.key row.peer) (part Head (get_or shares p nobody)) (sym (rows_at (aims k.key) k.aimed peers shares p row o.0) ∙ o.1) in
      (o.0, one_weighs (get_or shares p nobody) h.0, h.1)

  later : (k : QueueRow K) (ks : List (QueueRow K)) (o : Option (Message P K)) → (Ready word time peers aims shares k → ⊥) → First word time peers aims shares ks o → First word time peers aims shares (k ∷ ks) o
  later k ks (Some s) never f = (suc f.0, f.1, f.2, f.3, f.4, passed) where
    passed : (j : ℕ) (k' : QueueRow K) → j < suc f.0 → slice_get (k ∷ ks) j ≡ Some k' → Ready word time peers aims shares k' → ⊥
    passed zero k' h e r = let d : k ≡ k' = cc in never (subst (λ x. Ready word time peers aims shares x) (sym d) r)
    passed (suc j) k' h e r = f.5 j k' (omega arith) e r
  later k ks None never f = passed where
    passed : (j : ℕ) (k' : QueueRow K) → slice_get (k ∷ ks) j ≡ Some k' → Ready word time peers aims shares k' → ⊥
    passed zero k' e r = let d : k ≡ k' = cc in never (subst (λ x. Ready word time peers aims shares x) (sym d) r)
    passed (suc j) k' e r = f j k' e r

  module _ (k : QueueRow K) (ks : List (QueueRow K)) (late : ℕ) (more : (ℕ → ℕ) → Option ℕ → Option ℕ → Bool → Fetched P K)
      (ih : (w : ℕ → ℕ) (next wait : Option ℕ) (allowed : Bool) → First word time peers aims shares ks (more w next wait allowed).sent) (due : k.turn.deadline ≤ time) where
    due_hit : (h : Option (Named P)) (w : ℕ → ℕ) (next wait : Option ℕ) (allowed : Bool) → Judged word time peers (rows_for k.aimed (aims k.key) peers shares) h
        → First word time peers aims shares (k ∷ ks) (go_on word time peers out aims shares k.key late (record { hit = h; words = w; next = next; wait = wait; allowed = allowed }) more).sent
    due_hit (Some h) w next wait allowed j = (0, k, refl, refl, (due, (j.0, j.1, j.3, from_open k j.0 j.1 j.2), j.4), λ i k' lt e r. omega arith)
    due_hit None w next wait allowed j =
        later k ks (more w next wait allowed).sent (λ r. let a = r.1.1 in j a.0 a.1 (to_open k a.0 a.1 a.3) (ap (λ y. word y time) a.2 ∙ r.1.2)) (ih w next wait allowed)

    due_key : (t : Tried P) → Judged word time peers (rows_for k.aimed (aims k.key) peers shares) t.hit
        → First word time peers aims shares (k ∷ ks) (go_on word time peers out aims shares k.key late t more).sent
    due_key t j = due_hit t.hit t.words t.next t.wait t.allowed j

  pub first : (keys : List (QueueRow K)) (w : ℕ → ℕ) (next : Option ℕ) (late : ℕ) (wait : Option ℕ) (allowed : Bool)
      → First word time peers aims shares keys (try_keys word time peers out aims shares keys w next late wait allowed).sent
  first [] w next late wait allowed = λ j k' e r. let z : ◌≡◌ {A = ℕ} 0 1 = cc in omega arith
  first (k ∷ ks) w next late wait allowed =
      let xs = rows_for k.aimed (aims k.key) peers shares in
      ⊎_elim
      (λ e. subst (λ (f : Fetched P K). First word time peers aims shares (k ∷ ks) f.sent) (sym (cond-true (leb k.turn.deadline time) _ _ e))
      (due_key k ks late (λ w' next' wait' allowed'. try_keys word time peers out aims shares ks w' next' late wait' allowed') (λ w' next' wait' allowed'. first ks w' next' late wait' allowed') (leb-true k.turn.deadline time e)
      (try_key word time peers out aims shares k w next wait allowed)
      (judged word time peers out (total Head xs) xs k.retries w next wait allowed refl (length_rows (aims k.key) k.aimed peers shares ∙ sym same))))
      (λ e. subst (λ (f : Fetched P K). First word time peers aims shares (k ∷ ks) f.sent) (sym (cond-false (leb k.turn.deadline time) _ _ e))
      (later k ks (try_keys word time peers out aims shares ks w next (min late k.turn.deadline) wait allowed).sent (λ r. omega (arith, leb-false k.turn.deadline time e, r.1.0)) (first ks w next (min late k.turn.deadline) wait allowed)))
      (cases_Bool (leb k.turn.deadline time))
