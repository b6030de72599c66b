-- Where nothing is sent, the wait is the least of all that due keys' allowed peers say.
use Rattle.std.proofs.Common.{◌≡◌, ℕ, zero, suc, ◌+◌, ◌≤◌, min, Bool, true, false, leb, ◌⊎◌, List, [], ◌∷◌, length, get_or, Some, None, Option, sym, refl, ap, ◌∙◌, subst, inl, inr, ⊎_elim, arith}
use Rattle.std.specs.List.{slice_get}
use Rattle.std.proofs.lemmas.List.{length-set}
use Rattle.std.proofs.lemmas.Bool.{cases_eq, cases_lt, cases_Bool, cond-true, cond-false, leb-true, leb-false}
use Rattle.draw.specs.declared.rows.Share.{Share}
use Rattle.draw.specs.declared.rows.By.TheVariants.{Head}
use Rattle.draw.specs.Rows.{part, total, pick, words_after, without, nobody, all_back}
use Rattle.link.specs.declared.words.Word.{Word}
use Rattle.link.specs.declared.words.Word.TheVariants.{Take, Closed, Wait}
use Rattle.link.specs.declared.words.Message.{Message}
use Rattle.roster.specs.declared.row.PeerRow.{PeerRow}
use Rattle.live.specs.declared.row.KeyRow.{KeyRow}
use Rattle.live.specs.declared.queue.QueueRow.{QueueRow}
use Rattle.draw.proofs.Orders.{picked}
use Rattle.model.specs.Ids.{next_of, words_of}
use Rattle.model.specs.Tries.{sooner_of, rows_for, Named, Tried, Fetched, try_rows, try_key, go_on, try_keys}
use Rattle.model.specs.Laws.{Allowed, LeastOf, Heard, Quiet}
use Rattle.model.proofs.Steps.{rows_none, rows_some}
use Rattle.model.proofs.Firsts.{none_left, nth_some, away, other, length_rows, Open, to_open, from_open}

least_as : {S S' : ℕ → Type 0} (o : Option ℕ) → ((u : ℕ) → S u → S' u) → ((u : ℕ) → S' u → S u) → LeastOf S o → LeastOf S' o
least_as None f b l = λ u s. l u (b u s)
least_as (Some t) f b l = (f t l.0, λ u s. l.1 u (b u s))

least_more : (S : ℕ → Type 0) (o : Option ℕ) (t : ℕ) → LeastOf S o → LeastOf (λ u. S u ⊎ (u ≡ t)) (sooner_of o t)
least_more S None t l = (inr refl, λ u s. ⊎_elim (λ a. absurd (l u a)) (λ e. omega arith) s)
least_more S (Some v) t l = (
  (⊎_elim
      (λ h. let e : v ≡ min v t = omega arith in inl (subst S e l.0))
      (λ h. let e : min v t ≡ t = omega arith in inr e)
      (cases_lt v t)),
  λ u s. ⊎_elim (λ a. let h : v ≤ u = l.1 u a in omega arith) (λ e. omega arith) s,
)

hit_never : {P : Type 0} {X : Type 0} (t t' : Option (Named P)) (h : Named P) → t ≡ t' → t' ≡ Some h → t ≡ None → X
hit_never t t' h e s n = let z : ◌≡◌ {A = ℕ} 0 1 = cc in absurd (omega arith)

module _ {P V : Type 0} (word : P → ℕ → Word) (time : ℕ) (peers : List (PeerRow P V)) where
  -- some peer with a row left says to wait until u
  abbrev HeardIn : List Share → ℕ → Type 0
  HeardIn xs u = (p : ℕ) × (row : PeerRow P V) × Open word time peers xs p row × (word row.peer time ≡ Wait u)

  in_wider : (xs : List Share) (q u : ℕ) → HeardIn (without xs q) u → HeardIn xs u
  in_wider xs q u h =
      let p = h.0 in
      let ne : p ≡ q → ⊥ = λ e. let z : part Head (get_or (without xs q) p nobody) ≡ 0 = ap (λ k. part Head (get_or (without xs q) k nobody)) e ∙ away xs q in omega (arith, z, h.2.1) in
      (p, h.1, (h.2.0, sym (ap (part Head) (other xs q p ne)) ∙ h.2.1), h.3)

  in_narrower : (xs : List Share) (q : ℕ) (x : PeerRow P V) (u : ℕ) → slice_get peers q ≡ Some x → HeardIn xs u → HeardIn (without xs q) u ⊎ (word x.peer time ≡ Wait u)
  in_narrower xs q x u at h = ⊎_elim
      (λ e. let s : Some x ≡ Some h.1 = sym at ∙ ap (slice_get peers) (sym e) ∙ h.2.0 in let d : x ≡ h.1 = cc in inr (ap (λ (y : PeerRow P V). word y.peer time) d ∙ h.3))
      (λ ne. inl (h.0, h.1, (h.2.0, ap (part Head) (other xs q h.0 ne) ∙ h.2.1), h.3))
      (cases_eq h.0 q)

  module _ {K : Type 0} (out : List (KeyRow K P)) where
    wait_step : (xs : List Share) (r : ℕ) (w : ℕ → ℕ) (next wait : Option ℕ) (allowed : Bool) (S : ℕ → Type 0) (q : ℕ) (x : PeerRow P V) → Some q ≡ pick xs r w → total Head (without xs q) + 1 ≡ total Head xs → slice_get peers q ≡ Some x → part Head (get_or xs q nobody) ≡ 1
        → ((w' : ℕ → ℕ) (next' wait' : Option ℕ) (S' : ℕ → Type 0) → (try_rows word time peers out (without xs q) r w' next' wait' true).hit ≡ None → LeastOf S' wait' → LeastOf (λ u. S' u ⊎ HeardIn (without xs q) u) (try_rows word time peers out (without xs q) r w' next' wait' true).wait)
        → (v : Word) → word x.peer time ≡ v → (try_rows word time peers out xs r w next wait allowed).hit ≡ None → LeastOf S wait → LeastOf (λ u. S u ⊎ HeardIn xs u) (try_rows word time peers out xs r w next wait allowed).wait
    wait_step xs r w next wait allowed S q x e n at one ih Take ev none l =
        let s = rows_some word time peers out xs r w next wait allowed q x e n at Take ev in
        hit_never (try_rows word time peers out xs r w next wait allowed).hit _ _ (ap (λ (t : Tried P). t.hit) s) refl none
    wait_step xs r w next wait allowed S q x e n at one ih Closed ev none l =
        let s = rows_some word time peers out xs r w next wait allowed q x e n at Closed ev in
        let w' = words_of next (words_after xs r w) in
        let next' = next_of out next (words_after xs r w) in
        subst (LeastOf (λ u. S u ⊎ HeardIn xs u)) (sym (ap (λ (t : Tried P). t.wait) s))
        (least_as (try_rows word time peers out (without xs q) r w' next' wait true).wait
        (λ u. ⊎_elim (λ a. inl a) (λ h. inr (in_wider xs q u h)))
        (λ u. ⊎_elim (λ a. inl a) (λ h. inr (⊎_elim (λ a. a) (λ b. let z : ◌≡◌ {A = ℕ} 0 1 = cc in absurd (omega arith)) (in_narrower xs q x u at h))))
        (ih w' next' wait S (sym (ap (λ (t : Tried P). t.hit) s) ∙ none) l))
    wait_step xs r w next wait allowed S q x e n at one ih (Wait t) ev none l =
        let s = rows_some word time peers out xs r w next wait allowed q x e n at (Wait t) ev in
        let w' = words_after xs r w in
        subst (LeastOf (λ u. S u ⊎ HeardIn xs u)) (sym (ap (λ (y : Tried P). y.wait) s))
        (least_as (try_rows word time peers out (without xs q) r w' next (sooner_of wait t) true).wait
        (λ u. ⊎_elim (⊎_elim (λ a. inl a) (λ k. inr (q, x, (at, one), ev ∙ ap Wait (sym k)))) (λ h. inr (in_wider xs q u h)))
        (λ u. ⊎_elim (λ a. inl (inl a)) (λ h. ⊎_elim (λ a. inr a) (λ b. let d : u ≡ t = cc in inl (inr d)) (in_narrower xs q x u at h)))
        (ih w' next (sooner_of wait t) (λ u. S u ⊎ (u ≡ t)) (sym (ap (λ (y : Tried P). y.hit) s) ∙ none) (least_more S wait t l)))

    waited : (n : ℕ) (xs : List Share) (r : ℕ) (w : ℕ → ℕ) (next wait : Option ℕ) (allowed : Bool) (S : ℕ → Type 0) → total Head xs ≡ n → length xs ≡ length peers
        → (try_rows word time peers out xs r w next wait allowed).hit ≡ None → LeastOf S wait → LeastOf (λ u. S u ⊎ HeardIn xs u) (try_rows word time peers out xs r w next wait allowed).wait
    waited zero xs r w next wait allowed S e l none s =
        subst (LeastOf (λ u. S u ⊎ HeardIn xs u)) (sym (ap (λ (t : Tried P). t.wait) (rows_none word time peers out xs r w next wait allowed e)))
        (least_as wait (λ u a. inl a) (λ u. ⊎_elim (λ a. a) (λ h. absurd (omega (arith, none_left xs h.0 e, h.2.1)))) s)
    waited (suc n) xs r w next wait allowed S e l none s =
        let h = picked xs r w (omega arith) in
        let x = nth_some peers h.0 (omega (arith, h.2)) in
        wait_step xs r w next wait allowed S h.0 x.0 h.1 h.3 x.1 h.4
        (λ w' next' wait' S' none' s'. waited n (without xs h.0) r w' next' wait' true S' (omega (arith, h.3)) (length-set xs h.0 _ ∙ l) none' s')
        (word x.0.peer time) refl none s

module _ {P V K : Type 0} (word : P → ℕ → Word) (time : ℕ) (peers : List (PeerRow P V)) (out : List (KeyRow K P)) (aims : K → P → Bool) (shares : List Share)
    (whole : all_back shares ≡ shares) (same : length peers ≡ length shares) where
  heard_later : (k : QueueRow K) (ks : List (QueueRow K)) (u : ℕ) → Heard word time peers aims shares ks u → Heard word time peers aims shares (k ∷ ks) u
  heard_later k ks u h = (suc h.0, h.1, h.2, h.3, h.4, h.5, h.6)

  heard_here : (k : QueueRow K) (ks : List (QueueRow K)) (u : ℕ) → k.turn.deadline ≤ time → HeardIn word time peers (rows_for k.aimed (aims k.key) peers shares) u → Heard word time peers aims shares (k ∷ ks) u
  heard_here k ks u due h = (0, k, h.1.peer, refl, due, (h.0, h.1, refl, from_open word time peers out aims shares whole same k h.0 h.1 h.2), h.3)

  heard_cases : (k : QueueRow K) (ks : List (QueueRow K)) (u j : ℕ) (k' : QueueRow K) (peer : P) → slice_get (k ∷ ks) j ≡ Some k' → k'.turn.deadline ≤ time → Allowed word time peers aims shares k' peer → word peer time ≡ Wait u
      → ((k.turn.deadline ≤ time) × HeardIn word time peers (rows_for k.aimed (aims k.key) peers shares) u) ⊎ Heard word time peers aims shares ks u
  heard_cases k ks u zero k' peer e due a t =
      let d : k' ≡ k = cc in
      let b : Allowed word time peers aims shares k peer = subst (λ (y : QueueRow K). Allowed word time peers aims shares y peer) d a in
      inl (subst (λ (y : QueueRow K). y.turn.deadline ≤ time) d due, (b.0, b.1, to_open word time peers out aims shares whole same k b.0 b.1 b.3, ap (λ y. word y time) b.2 ∙ t))
  heard_cases k ks u (suc j) k' peer e due a t = inr (j, k', peer, e, due, a, t)

  module _ (k : QueueRow K) (ks : List (QueueRow K)) (late : ℕ) (S : ℕ → Type 0) (more : (ℕ → ℕ) → Option ℕ → Option ℕ → Bool → Fetched P K)
      (ih : (w : ℕ → ℕ) (next wait : Option ℕ) (allowed : Bool) (S' : ℕ → Type 0) → (more w next wait allowed).sent ≡ None → LeastOf S' wait → LeastOf (λ u. S' u ⊎ Heard word time peers aims shares ks u) (more w next wait allowed).wait)
      (due : k.turn.deadline ≤ time) where
    least_hit : (h : Option (Named P)) (w : ℕ → ℕ) (next wait : Option ℕ) (allowed : Bool)
        → (h ≡ None → LeastOf (λ u. S u ⊎ HeardIn word time peers (rows_for k.aimed (aims k.key) peers shares) u) wait)
        → (go_on word time peers out aims shares k.key late (record { hit = h; words = w; next = next; wait = wait; allowed = allowed }) more).sent ≡ None
        → LeastOf (λ u. S u ⊎ Heard word time peers aims shares (k ∷ ks) u) (go_on word time peers out aims shares k.key late (record { hit = h; words = w; next = next; wait = wait; allowed = allowed }) more).wait
    least_hit (Some h) w next wait allowed l none = let z : ◌≡◌ {A = ℕ} 0 1 = cc in absurd (omega arith)
    least_hit None w next wait allowed l none =
        least_as (more w next wait allowed).wait
        (λ u. ⊎_elim (⊎_elim (λ a. inl a) (λ h. inr (heard_here k ks u due h))) (λ h. inr (heard_later k ks u h)))
        (λ u. ⊎_elim (λ a. inl (inl a)) (λ h. ⊎_elim (λ b. inl (inr b.1)) (λ b. inr b) (heard_cases k ks u h.0 h.1 h.2 h.3 h.4 h.5 h.6)))
        (ih w next wait allowed (λ u. S u ⊎ HeardIn word time peers (rows_for k.aimed (aims k.key) peers shares) u) none (l refl))

    least_key : (t : Tried P) → (t.hit ≡ None → LeastOf (λ u. S u ⊎ HeardIn word time peers (rows_for k.aimed (aims k.key) peers shares) u) t.wait)
        → (go_on word time peers out aims shares k.key late t more).sent ≡ None
        → LeastOf (λ u. S u ⊎ Heard word time peers aims shares (k ∷ ks) u) (go_on word time peers out aims shares k.key late t more).wait
    least_key t l none = least_hit t.hit t.words t.next t.wait t.allowed l none

  pub least : (keys : List (QueueRow K)) (w : ℕ → ℕ) (next : Option ℕ) (late : ℕ) (wait : Option ℕ) (allowed : Bool) (S : ℕ → Type 0)
      → (try_keys word time peers out aims shares keys w next late wait allowed).sent ≡ None → LeastOf S wait
      → LeastOf (λ u. S u ⊎ Heard word time peers aims shares keys u) (try_keys word time peers out aims shares keys w next late wait allowed).wait
  least [] w next late wait allowed S none l = least_as wait (λ u a. inl a) (λ u. ⊎_elim (λ a. a) (λ h. let e = h.3 in let z : ◌≡◌ {A = ℕ} 0 1 = cc in absurd (omega arith))) l
  least (k ∷ ks) w next late wait allowed S none l =
      let xs = rows_for k.aimed (aims k.key) peers shares in
      ⊎_elim
      (λ e.
      let go = cond-true (leb k.turn.deadline time) (go_on word time peers out aims shares k.key late (try_key word time peers out aims shares k w next wait allowed) (λ w' next' wait' allowed'. try_keys word time peers out aims shares ks w' next' late wait' allowed'))
      (try_keys word time peers out aims shares ks w next (min late k.turn.deadline) wait allowed) e in
      subst (λ (f : Fetched P K). LeastOf (λ u. S u ⊎ Heard word time peers aims shares (k ∷ ks) u) f.wait) (sym go)
      (least_key k ks late S (λ w' next' wait' allowed'. try_keys word time peers out aims shares ks w' next' late wait' allowed') (λ w' next' wait' allowed' S'. least ks w' next' late wait' allowed' S') (leb-true k.turn.deadline time e)
      (try_key word time peers out aims shares k w next wait allowed)
      (λ missed. waited word time peers out (total Head xs) xs k.retries w next wait allowed S refl (length_rows (aims k.key) k.aimed peers shares ∙ sym same) missed l)
      (sym (ap (λ (f : Fetched P K). f.sent) go) ∙ none)))
      (λ e.
      let go = cond-false (leb k.turn.deadline time) (go_on word time peers out aims shares k.key late (try_key word time peers out aims shares k w next wait allowed) (λ w' next' wait' allowed'. try_keys word time peers out aims shares ks w' next' late wait' allowed'))
      (try_keys word time peers out aims shares ks w next (min late k.turn.deadline) wait allowed) e in
      subst (λ (f : Fetched P K). LeastOf (λ u. S u ⊎ Heard word time peers aims shares (k ∷ ks) u) f.wait) (sym go)
      (least_as (try_keys word time peers out aims shares ks w next (min late k.turn.deadline) wait allowed).wait
      (λ u. ⊎_elim (λ a. inl a) (λ h. inr (heard_later k ks u h)))
      (λ u. ⊎_elim (λ a. inl a) (λ h. ⊎_elim (λ b. absurd (omega (arith, leb-false k.turn.deadline time e, b.0))) (λ b. inr b) (heard_cases k ks u h.0 h.1 h.2 h.3 h.4 h.5 h.6)))
      (least ks w next (min late k.turn.deadline) wait allowed S (sym (ap (λ (f : Fetched P K). f.sent) go) ∙ none) l)))
      (cases_Bool (leb k.turn.deadline time))

  -- from the start of a walk
  pub least_heard : (keys : List (QueueRow K)) (w : ℕ → ℕ) (next : Option ℕ) (late : ℕ) (o : Option (Message P K)) → (try_keys word time peers out aims shares keys w next late None false).sent ≡ o
      → Quiet word time peers aims shares keys o (try_keys word time peers out aims shares keys w next late None false).wait
  least_heard keys w next late (Some s) e = tt
  least_heard keys w next late None e =
      least_as (try_keys word time peers out aims shares keys w next late None false).wait (λ u. ⊎_elim (λ b. absurd b) (λ h. h)) (λ u h. inr h) (least keys w next late None false (λ u. ⊥) e (λ u b. b))
