-- The waiter is the least of the times that count.
use Rattle.std.proofs.Common.{◌≡◌, ℕ, zero, suc, ◌+◌, ◌<◌, ◌≤◌, min, Bool, true, false, leb, ◌⊎◌, List, [], ◌∷◌, length, Some, None, Option, sym, refl, ap, ◌∙◌, subst, inl, inr, ⊎_elim, arith}
use Rattle.std.specs.List.{slice_get}
use Rattle.std.proofs.lemmas.List.{length-set}
use Rattle.std.proofs.lemmas.Bool.{cases_eq, cases_lt, cases_Bool, cond-true, cond-false, leb-true, leb-false, both_ways}
use Rattle.kinds.specs.declared.ordered.Ordered.{Ghosts as Order}
use Rattle.draw.specs.declared.rows.Share.{Share}
use Rattle.draw.specs.declared.rows.By.TheVariants.{Head}
use Rattle.draw.specs.Rows.{total, pick, words_after, without, all_back}
use Rattle.draw.proofs.Orders.{picked}
use Rattle.link.specs.declared.words.Word.{Word}
use Rattle.link.specs.declared.words.Word.TheVariants.{Take, Closed, Wait}
use Rattle.roster.specs.declared.row.PeerRow.{PeerRow}
use Rattle.live.specs.declared.row.KeyRow.{KeyRow}
use Rattle.live.specs.declared.queue.QueueRow.{QueueRow}
use Rattle.live.specs.Requests.{until}
use Rattle.model.specs.Fet.{Fet}
use Rattle.model.specs.Ids.{next_of, words_of}
use Rattle.model.specs.Tries.{sooner_of, rows_for, Named, Tried, Fetched, try_rows, try_key, go_on, try_keys, limit}
use Rattle.model.specs.Laws.{LeastOf, Allowed}
use Rattle.model.specs.Fetches.{aims, queue, fetched, again, waiter_of}
use Rattle.model.proofs.Steps.{rows_none, rows_some}
use Rattle.model.proofs.Firsts.{none_left, nth_some, length_rows, to_open, from_open}
use Rattle.model.proofs.Leasts.{least_heard}
use Rattle.laws.specs.Waiters.{LateIn, Told, Served, Wakes, WaiterStands}

-- ---- a due key had an allowed peer
module _ {P V K : Type 0} (word : P → ℕ → Word) (time : ℕ) (peers : List (PeerRow P V)) (out : List (KeyRow K P)) where
  rows_step : (xs : List Share) (r : ℕ) (w : ℕ → ℕ) (next wait : Option ℕ) (allowed : Bool) (q : ℕ) (x : PeerRow P V) → Some q ≡ pick xs r w → total Head (without xs q) + 1 ≡ total Head xs → slice_get peers q ≡ Some x
      → ((w' : ℕ → ℕ) (next' wait' : Option ℕ) → (try_rows word time peers out (without xs q) r w' next' wait' true).allowed ≡ true)
      → (v : Word) → word x.peer time ≡ v → (try_rows word time peers out xs r w next wait allowed).allowed ≡ true
  rows_step xs r w next wait allowed q x e n at ih Take ev = ap (λ (t : Tried P). t.allowed) (rows_some word time peers out xs r w next wait allowed q x e n at Take ev)
  rows_step xs r w next wait allowed q x e n at ih Closed ev =
      ap (λ (t : Tried P). t.allowed) (rows_some word time peers out xs r w next wait allowed q x e n at Closed ev)
      ∙ ih (words_of next (words_after xs r w)) (next_of out next (words_after xs r w)) wait
  rows_step xs r w next wait allowed q x e n at ih (Wait u) ev =
      ap (λ (t : Tried P). t.allowed) (rows_some word time peers out xs r w next wait allowed q x e n at (Wait u) ev)
      ∙ ih (words_after xs r w) next (sooner_of wait u)

  rows_true : (n : ℕ) (xs : List Share) (r : ℕ) (w : ℕ → ℕ) (next wait : Option ℕ) → total Head xs ≡ n → length xs ≡ length peers → (try_rows word time peers out xs r w next wait true).allowed ≡ true
  rows_true zero xs r w next wait e l = ap (λ (t : Tried P). t.allowed) (rows_none word time peers out xs r w next wait true e)
  rows_true (suc n) xs r w next wait e l =
      let h = picked xs r w (omega arith) in
      let x = nth_some peers h.0 (omega (arith, h.2)) in
      rows_step xs r w next wait true h.0 x.0 h.1 h.3 x.1
      (λ w' next' wait'. rows_true n (without xs h.0) r w' next' wait' (omega (arith, h.3)) (length-set xs h.0 _ ∙ l)) (word x.0.peer time) refl

  rows_open : (xs : List Share) (r : ℕ) (w : ℕ → ℕ) (next wait : Option ℕ) (allowed : Bool) → 0 < total Head xs → length xs ≡ length peers → (try_rows word time peers out xs r w next wait allowed).allowed ≡ true
  rows_open xs r w next wait allowed e l =
      let h = picked xs r w e in
      let x = nth_some peers h.0 (omega (arith, h.2)) in
      rows_step xs r w next wait allowed h.0 x.0 h.1 h.3 x.1
      (λ w' next' wait'. rows_true (total Head (without xs h.0)) (without xs h.0) r w' next' wait' refl (length-set xs h.0 _ ∙ l)) (word x.0.peer time) refl

  module _ (aim : K → P → Bool) (shares : List Share) (whole : all_back shares ≡ shares) (same : length peers ≡ length shares) where
    abbrev ServedBy : QueueRow K → Type 0
    ServedBy k = (peer : P) × Allowed word time peers aim shares k peer

    abbrev ServedIn : List (QueueRow K) → Type 0
    ServedIn keys = (j : ℕ) × (q : QueueRow K) × (peer : P) × (slice_get keys j ≡ Some q) × (q.turn.deadline ≤ time) × Allowed word time peers aim shares q peer

    key_served : (k : QueueRow K) (w : ℕ → ℕ) (next wait : Option ℕ) (allowed : Bool)
        → ((try_key word time peers out aim shares k w next wait allowed).allowed ≡ true → (allowed ≡ true) ⊎ ServedBy k)
        × ((allowed ≡ true) ⊎ ServedBy k → (try_key word time peers out aim shares k w next wait allowed).allowed ≡ true)
    key_served k w next wait allowed =
        let xs = rows_for k.aimed (aim k.key) peers shares in
        let l : length xs ≡ length peers = length_rows (aim k.key) k.aimed peers shares ∙ sym same in
        ⊎_elim
        (λ z. let e : (try_key word time peers out aim shares k w next wait allowed).allowed ≡ allowed = ap (λ (t : Tried P). t.allowed) (rows_none word time peers out xs k.retries w next wait allowed z) in
        (λ t. inl (sym e ∙ t), ⊎_elim (λ t. e ∙ t) (λ s. absurd (omega (arith, none_left xs s.1.0 z, (to_open word time peers out aim shares whole same k s.1.0 s.1.1 s.1.3).1)))))
        (λ n. let c : 0 < total Head xs = omega arith in
        let h = picked xs k.retries w c in
        let x = nth_some peers h.0 (omega (arith, h.2)) in
        let e = rows_open xs k.retries w next wait allowed c l in
        (λ t. inr (x.0.peer, (h.0, x.0, refl, from_open word time peers out aim shares whole same k h.0 x.0 (x.1, h.4))), λ t. e))
        (cases_eq (total Head xs) 0)

    abbrev Two : List (QueueRow K) → Bool → Bool → Type 0
    Two keys before after = (after ≡ true → (before ≡ true) ⊎ ServedIn keys) × ((before ≡ true) ⊎ ServedIn keys → after ≡ true)

    served_here : (k : QueueRow K) (ks : List (QueueRow K)) → k.turn.deadline ≤ time → (a b c : Bool)
        → ((b ≡ true → (a ≡ true) ⊎ ServedBy k) × ((a ≡ true) ⊎ ServedBy k → b ≡ true)) → Two ks b c → Two (k ∷ ks) a c
    served_here k ks due a b c x y = (
      λ t. ⊎_elim (λ s. ⊎_elim (λ r. inl r) (λ r. inr (0, k, r.0, refl, due, r.1)) (x.0 s)) (λ s. inr (suc s.0, s.1, s.2, s.3, s.4, s.5)) (y.0 t),
      ⊎_elim (λ t. y.1 (inl (x.1 (inl t)))) (λ s. at s.0 s.1 s.2 s.3 s.4 s.5),
    ) where
      at : (j : ℕ) (q : QueueRow K) (peer : P) → slice_get (k ∷ ks) j ≡ Some q → q.turn.deadline ≤ time → Allowed word time peers aim shares q peer → c ≡ true
      at zero q peer e l al = let d : q ≡ k = cc in y.1 (inl (x.1 (inr (peer, subst (λ (z : QueueRow K). Allowed word time peers aim shares z peer) d al))))
      at (suc j) q peer e l al = y.1 (inr (j, q, peer, e, l, al))

    served_later : (k : QueueRow K) (ks : List (QueueRow K)) → time < k.turn.deadline → (a c : Bool) → Two ks a c → Two (k ∷ ks) a c
    served_later k ks late a c y = (
      λ t. ⊎_elim (λ s. inl s) (λ s. inr (suc s.0, s.1, s.2, s.3, s.4, s.5)) (y.0 t),
      ⊎_elim (λ t. y.1 (inl t)) (λ s. at s.0 s.1 s.2 s.3 s.4 s.5),
    ) where
      at : (j : ℕ) (q : QueueRow K) (peer : P) → slice_get (k ∷ ks) j ≡ Some q → q.turn.deadline ≤ time → Allowed word time peers aim shares q peer → c ≡ true
      at zero q peer e l al = let d : q ≡ k = cc in let z : k.turn.deadline ≤ time = subst (λ (z : QueueRow K). z.turn.deadline ≤ time) d l in absurd (omega arith)
      at (suc j) q peer e l al = y.1 (inr (j, q, peer, e, l, al))

    -- ---- the least of the deadlines not due
    least_as : {S S' : ℕ → Type 0} (n : ℕ) → ((u : ℕ) → S u → S' u) → ((u : ℕ) → S' u → S u) → LeastOf S (Some n) → LeastOf S' (Some n)
    least_as n f b l = (f n l.0, λ u s. l.1 u (b u s))

    least_min : (S : ℕ → Type 0) (v d : ℕ) → LeastOf S (Some v) → LeastOf (λ u. S u ⊎ (u ≡ d)) (Some (min v d))
    least_min S v d l = (
      (⊎_elim (λ h. let e : v ≡ min v d = omega arith in inl (subst S e l.0)) (λ h. let e : min v d ≡ d = omega arith in inr e) (cases_lt v d)),
      λ u s. ⊎_elim (λ a. let h : v ≤ u = l.1 u a in omega arith) (λ e. omega arith) s,
    )

    late_cases : (k : QueueRow K) (ks : List (QueueRow K)) (u j : ℕ) (q : QueueRow K) → slice_get (k ∷ ks) j ≡ Some q → time < q.turn.deadline → u ≡ q.turn.deadline
        → ((time < k.turn.deadline) × (u ≡ k.turn.deadline)) ⊎ LateIn time ks u
    late_cases k ks u zero q e l d = let x : q ≡ k = cc in inl (subst (λ (z : QueueRow K). (time < z.turn.deadline) × (u ≡ z.turn.deadline)) x (l, d))
    late_cases k ks u (suc j) q e l d = inr (j, q, e, l, d)

    -- what a walk that sent nothing came to
    abbrev Came : List (QueueRow K) → (ℕ → Type 0) → Bool → Fetched P K → Type 0
    Came keys S allowed r = LeastOf (λ u. S u ⊎ LateIn time keys u) (Some r.late) × Two keys allowed r.allowed

    came_hit : (k : QueueRow K) (ks : List (QueueRow K)) (S : ℕ → Type 0) (late : ℕ) (allowed : Bool) → k.turn.deadline ≤ time → (h : Option (Named P)) (w : ℕ → ℕ) (next wait : Option ℕ) (b : Bool)
        → ((b ≡ true → (allowed ≡ true) ⊎ ServedBy k) × ((allowed ≡ true) ⊎ ServedBy k → b ≡ true))
        → (more : (ℕ → ℕ) → Option ℕ → Option ℕ → Bool → Fetched P K) → ((w' : ℕ → ℕ) (next' wait' : Option ℕ) (b' : Bool) → (more w' next' wait' b').sent ≡ None → Came ks S b' (more w' next' wait' b'))
        → (go_on word time peers out aim shares k.key late (record { hit = h; words = w; next = next; wait = wait; allowed = b }) more).sent ≡ None
        → Came (k ∷ ks) S allowed (go_on word time peers out aim shares k.key late (record { hit = h; words = w; next = next; wait = wait; allowed = b }) more)
    came_hit k ks S late allowed due (Some h) w next wait b x more ih none = let z : ◌≡◌ {A = ℕ} 0 1 = cc in absurd (omega arith)
    came_hit k ks S late allowed due None w next wait b x more ih none =
        let c = ih w next wait b none in (
          least_as (more w next wait b).late
              (λ u. ⊎_elim (λ a. inl a) (λ s. inr (suc s.0, s.1, s.2, s.3, s.4)))
              (λ u. ⊎_elim (λ a. inl a) (λ s. ⊎_elim (λ y. absurd (omega (arith, y.0))) (λ y. inr y) (late_cases k ks u s.0 s.1 s.2 s.3 s.4))) c.0,
          served_here k ks due allowed b (more w next wait b).allowed x c.1,
        )

    came : (keys : List (QueueRow K)) (w : ℕ → ℕ) (next : Option ℕ) (late : ℕ) (wait : Option ℕ) (allowed : Bool) (S : ℕ → Type 0)
        → (try_keys word time peers out aim shares keys w next late wait allowed).sent ≡ None → LeastOf S (Some late) → Came keys S allowed (try_keys word time peers out aim shares keys w next late wait allowed)
    came [] w next late wait allowed S none l = (
      least_as late (λ u a. inl a) (λ u. ⊎_elim (λ a. a) (λ s. let e = s.2 in let z : ◌≡◌ {A = ℕ} 0 1 = cc in absurd (omega arith))) l,
      (λ t. inl t, ⊎_elim (λ t. t) (λ s. let e = s.3 in let z : ◌≡◌ {A = ℕ} 0 1 = cc in absurd (omega arith))),
    )
    came (k ∷ ks) w next late wait allowed S none l =
        let yes = go_on word time peers out aim shares k.key late (try_key word time peers out aim shares k w next wait allowed) (λ w' next' wait' allowed'. try_keys word time peers out aim shares ks w' next' late wait' allowed') in
        let no = try_keys word time peers out aim shares ks w next (min late k.turn.deadline) wait allowed in
        ⊎_elim
        (λ e. let go = cond-true (leb k.turn.deadline time) yes no e in
        let t = try_key word time peers out aim shares k w next wait allowed in
        subst (Came (k ∷ ks) S allowed) (sym go)
        (came_hit k ks S late allowed (leb-true k.turn.deadline time e) t.hit t.words t.next t.wait t.allowed (key_served k w next wait allowed)
        (λ w' next' wait' allowed'. try_keys word time peers out aim shares ks w' next' late wait' allowed') (λ w' next' wait' b' n. came ks w' next' late wait' b' S n l)
        (sym (ap (λ (r : Fetched P K). r.sent) go) ∙ none)))
        (λ e. let go = cond-false (leb k.turn.deadline time) yes no e in
        let lt : time < k.turn.deadline = leb-false k.turn.deadline time e in
        let c = came ks w next (min late k.turn.deadline) wait allowed (λ u. S u ⊎ (u ≡ k.turn.deadline)) (sym (ap (λ (r : Fetched P K). r.sent) go) ∙ none) (least_min S late k.turn.deadline l) in
        subst (Came (k ∷ ks) S allowed) (sym go) (
          least_as no.late
              (λ u. ⊎_elim (⊎_elim (λ a. inl a) (λ d. inr (0, k, refl, lt, d))) (λ s. inr (suc s.0, s.1, s.2, s.3, s.4)))
              (λ u. ⊎_elim (λ a. inl (inl a)) (λ s. ⊎_elim (λ y. inl (inr y.1)) (λ y. inr y) (late_cases k ks u s.0 s.1 s.2 s.3 s.4))) c.0,
          served_later k ks lt allowed no.allowed c.1,
        ))
        (cases_Bool (leb k.turn.deadline time))

module _ {P V K : Type 0} (p : Order P) (k : Order K) (word : P → ℕ → Word) (time : ℕ) (f : Fet P V K) where
  -- the least of a deadline not due and another time
  joined : (late t : ℕ) → LeastOf (λ u. (u ≡ limit) ⊎ LateIn time (queue k f) u) (Some late) → Wakes p k word time f t → Wakes p k word time f (min late t)
  joined late t l w =
      ⊎_elim
      (λ h. let e : late ≡ min late t = omega arith in subst (Wakes p k word time f) e (⊎_elim (λ a. inl a) (λ a. inr (inl a)) l.0))
      (λ h. let e : t ≡ min late t = omega arith in subst (Wakes p k word time f) e w)
      (cases_lt late t)

  wakes : (wait : Option ℕ) (allowed : Bool) (late : ℕ) → LeastOf (Told p k word time f) wait → LeastOf (λ u. (u ≡ limit) ⊎ LateIn time (queue k f) u) (Some late)
      → (allowed ≡ true → (false ≡ true) ⊎ Served p k word time f (queue k f)) → ((false ≡ true) ⊎ Served p k word time f (queue k f) → allowed ≡ true)
      → Wakes p k word time f (min late (again wait allowed (until time f.delay))) × ((u : ℕ) → Wakes p k word time f u → min late (again wait allowed (until time f.delay)) ≤ u)
  wakes (Some t) allowed late h l to from = (
    joined late t l (inr (inr (inl h.0))),
    λ u. ⊎_elim (λ a. let x : late ≤ u = l.1 u (inl a) in omega arith)
        (⊎_elim (λ a. let x : late ≤ u = l.1 u (inr a) in omega arith) (⊎_elim (λ a. let x : t ≤ u = h.1 u a in omega arith) (λ a. absurd (a.0 t h.0)))),
  )
  wakes None true late h l to from = (
    joined late (until time f.delay) l (inr (inr (inr (h, ⊎_elim (λ a. absurd (both_ways false refl a)) (λ a. a) (to refl), refl)))),
    λ u. ⊎_elim (λ a. let x : late ≤ u = l.1 u (inl a) in omega arith)
        (⊎_elim (λ a. let x : late ≤ u = l.1 u (inr a) in omega arith) (⊎_elim (λ a. absurd (h u a)) (λ a. let x = a.2 in omega arith))),
  )
  wakes None false late h l to from = (
    joined late limit l (inl refl),
    λ u. ⊎_elim (λ a. let x : late ≤ u = l.1 u (inl a) in omega arith)
        (⊎_elim (λ a. let x : late ≤ u = l.1 u (inr a) in omega arith) (⊎_elim (λ a. absurd (h u a)) (λ a. absurd (both_ways false refl (from (inr a.1)))))),
  )

pub waits : {P V K : Type 0} (p : Order P) (k : Order K) (f : Fet P V K) → WaiterStands p k f
unfolding fetched
waits {P} {V} {K} p k f word time w whole same none =
    let aim = aims p k f.targets.rows in
    let r = try_keys word time f.roster.peers.rows f.keys.rows aim f.roster.shares (queue k f) w f.next limit None false in
    let c = came word time f.roster.peers.rows f.keys.rows aim f.roster.shares whole same (queue k f) w f.next limit None false (λ u. u ≡ limit) none (refl, λ u e. omega arith) in
    let h = least_heard word time f.roster.peers.rows f.keys.rows aim f.roster.shares whole same (queue k f) w f.next limit None none in
    let s = wakes p k word time f r.wait r.allowed r.late h c.0 c.1.0 c.1.1 in
    (min r.late (again r.wait r.allowed (until time f.delay)), ap (λ o. waiter_of o r.late r.wait r.allowed (until time f.delay)) none, s.0, s.1)
