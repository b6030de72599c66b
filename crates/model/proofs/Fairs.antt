-- A fetch sends the first key that can be sent, and moves no other.
use Rattle.std.proofs.Common.{◌≡◌, ℕ, zero, suc, ◌<◌, Bool, true, List, [], ◌∷◌, length, get_or, Some, None, Option, sym, refl, ap, ◌∙◌, subst, inl, inr, ⊎_elim, arith}
use Rattle.std.specs.List.{slice_get}
use Rattle.std.specs.Ordering.{is_lt}
use Rattle.std.proofs.lemmas.Bool.{cases_eq, cases_lt}
use Rattle.kinds.specs.declared.ordered.Ordered.{Ghosts as Order}
use Rattle.link.specs.declared.words.Word.{Word}
use Rattle.link.specs.declared.words.Message.{Message}
use Rattle.tables.specs.Rows.{Lawful, Ascending, In, lookup, put}
use Rattle.tables.specs.Tables.{Tab, with_rows, emptied, put_in}
use Rattle.tables.proofs.Laws.{ascending_none, lookup_none, lookup_key, lookup_put_same, lookup_put_other}
use Rattle.tables.proofs.WalkLaws.{ascending_less}
use Rattle.tables.proofs.Finds.{lookup_in, in_lookup}
use Rattle.tables.proofs.Room.{found_fits, put_in_is}
use Rattle.live.specs.declared.row.KeyRow.{KeyRow}
use Rattle.live.specs.declared.queue.QueueRow.{QueueRow}
use Rattle.live.specs.declared.stage.Stage.{Stage}
use Rattle.live.specs.declared.stage.Stage.TheVariants.{Queued, Out, Judged}
use Rattle.live.specs.declared.stage.Event.TheVariants.{Sent}
use Rattle.live.specs.Keys.{key_of, step_at, stepped, put_found}
use Rattle.live.specs.Queues.{by_queue, turn_of, queue_at, queue_row, earlier}
use Rattle.model.specs.Fet.{Fet}
use Rattle.model.specs.Laws.{First}
use Rattle.model.specs.Fetches.{aims, queue, sent_in}
use Rattle.model.specs.Calls.{row_of}
use Rattle.model.specs.Sends.{Orderly, out_row, Queues, SendsFirst, MovesOne}
use Rattle.live.proofs.Laws.{queue_lawful}
use Rattle.model.proofs.Queues.{listing_up, listed, origin}

-- ---- places in a list
in_nth : {X : Type 0} (x : X) (xs : List X) → In x xs → (j : ℕ) × (slice_get xs j ≡ Some x)
in_nth x [] i = absurd i
in_nth x (y ∷ ys) (inl e) = (0, ap Some e)
in_nth x (y ∷ ys) (inr i) = let r = in_nth x ys i in (suc r.0, r.1)

nth_in : {X : Type 0} (x : X) (xs : List X) (j : ℕ) → slice_get xs j ≡ Some x → In x xs
nth_in x [] j e = let z : ◌≡◌ {A = ℕ} 0 1 = cc in absurd (omega arith)
nth_in x (y ∷ ys) zero e = let d : y ≡ x = cc in inl d
nth_in x (y ∷ ys) (suc j) e = inr (nth_in x ys j e)

nth_at : {X : Type 0} (x d : X) (xs : List X) (j : ℕ) → slice_get xs j ≡ Some x → (j < length xs) × (get_or xs j d ≡ x)
nth_at x d [] j e = let z : ◌≡◌ {A = ℕ} 0 1 = cc in absurd (omega arith)
nth_at x d (y ∷ ys) zero e = let q : y ≡ x = cc in (omega arith, q)
nth_at x d (y ∷ ys) (suc j) e = let r = nth_at x d ys j e in (omega (arith, r.0), r.1)

-- a key's row in the queue has its key, and a queued row moves when it is sent
key_at : {K P : Type 0} (r : KeyRow K P) (x : Stage P) (q : QueueRow K) → queue_at r x ≡ Some q → q.key ≡ r.key
key_at r (Queued retried deadline) q e = sym (ap (λ (o : Option (QueueRow _)). elim o [ Some z ↦ z.key | None ↦ q.key ]) e)
key_at r (Out id peer start) q e = let z : ◌≡◌ {A = ℕ} 0 1 = cc in absurd (omega arith)
key_at r (Judged slip) q e = let z : ◌≡◌ {A = ℕ} 0 1 = cc in absurd (omega arith)

out_at : {K P : Type 0} (k : K) (aimed : Bool) (n : ℕ) (x : Stage P) (q : QueueRow K) (s : Message P K) (time : ℕ) → queue_at (record { key = k; aimed = aimed; retries = n; stage = x }) x ≡ Some q
    → step_at (Sent s.id s.peer time) (Some (record { key = k; aimed = aimed; retries = n; stage = x })) ≡ Some (record { key = k; aimed = aimed; retries = n; stage = Out s.id s.peer time })
out_at k aimed n (Queued retried deadline) q s time e = refl
out_at k aimed n (Out id peer start) q s time e = let z : ◌≡◌ {A = ℕ} 0 1 = cc in absurd (omega arith)
out_at k aimed n (Judged slip) q s time e = let z : ◌≡◌ {A = ℕ} 0 1 = cc in absurd (omega arith)

module _ {P V K : Type 0} (p : Order P) (k : Order K) (o : Lawful k.order) (word : P → ℕ → Word) (time : ℕ) (f : Fet P V K) (h : Orderly k f) where
  up : Ascending (by_queue k) turn_of (queue k f)
  up = listing_up k o f.keys.rows (emptied f.listing) (ascending_none (by_queue k) (queue_lawful k o) turn_of)

  -- what is listed is queued
  queues : (q : QueueRow K) → In q (queue k f) → Queues p k word time f q
  queues q i =
      ⊎_elim (λ c. let e = sym (lookup_none (by_queue k) (queue_lawful k o) turn_of (turn_of q)) ∙ c in let z : ◌≡◌ {A = ℕ} 0 1 = cc in absurd (omega arith))
      (λ c. let r = c.0 in
      (r, subst (λ key. row_of k key f ≡ Some r) (sym (key_at r r.stage q c.2)) (in_lookup k.order o key_of r f.keys.rows h.keys c.1), c.2))
      (origin k o f.keys.rows (emptied f.listing) (turn_of q) q (ascending_none (by_queue k) (queue_lawful k o) turn_of) (omega (arith, h.room))
      (in_lookup (by_queue k) (queue_lawful k o) turn_of q (queue k f) up i))

  -- what is queued is listed
  lists : (q : QueueRow K) → Queues p k word time f q → In q (queue k f)
  lists q w =
      let r = w.0 in
      let at : lookup k.order key_of r.key f.keys.rows ≡ Some r = subst (λ key. row_of k key f ≡ Some r) (key_at r r.stage q w.2) w.1 in
      lookup_in (by_queue k) (queue_lawful k o) turn_of (turn_of q) q (queue k f) up
      (listed k o f.keys.rows (emptied f.listing) r q (ascending_none (by_queue k) (queue_lawful k o) turn_of) (omega (arith, h.room))
      (λ r' q' i e t.
      let a : q'.key ≡ q.key = ap (λ x. x.second) t in
      let b : r'.key ≡ r.key = sym (key_at r' r'.stage q' e) ∙ a ∙ key_at r r.stage q w.2 in
      let c : Some r' ≡ Some r = sym (in_lookup k.order o key_of r' f.keys.rows h.keys i) ∙ ap (λ key. row_of k key f) b ∙ at in
      let d : r' ≡ r = cc in
      let g : Some q' ≡ Some q = sym e ∙ ap (λ (y : KeyRow K P). queue_row y) d ∙ w.2 in
      cc)
      (lookup_in k.order o key_of r.key r f.keys.rows h.keys at) w.2)

  -- of two listed rows the one at the smaller place comes first
  before : (q q' : QueueRow K) (i j : ℕ) → slice_get (queue k f) i ≡ Some q → slice_get (queue k f) j ≡ Some q' → i < j → earlier k q q' ≡ true
  before q q' i j a b l =
      let x = nth_at q q (queue k f) i a in
      let y = nth_at q' q (queue k f) j b in
      let e = ascending_less (by_queue k) (queue_lawful k o) turn_of (queue k f) i j q up l y.0 in
      ap is_lt (sym (ap (λ (z : QueueRow K). by_queue k (turn_of z) (turn_of q')) x.1) ∙ sym (ap (λ (z : QueueRow K). by_queue k (turn_of (get_or (queue k f) i q)) (turn_of z)) y.1) ∙ e)

  pub sends_first : (sent : Option (Message P K)) → First word time f.roster.peers.rows (aims p k f.targets.rows) f.roster.shares (queue k f) sent → SendsFirst p k word time f sent
  sends_first None s = λ q w. let at = in_nth q (queue k f) (lists q w.0) in s at.0 q at.1 w.1
  sends_first (Some m) s =
      let i = s.0 in
      let q = s.1 in (
        q,
        s.3,
        queues q (nth_in q (queue k f) i s.2),
        s.4,
        λ q' w.
            let at = in_nth q' (queue k f) (lists q' w.0) in
            ⊎_elim (λ l. absurd (s.5 at.0 q' l at.1 w.1))
            (λ l. ⊎_elim (λ e. let d : Some q' ≡ Some q = sym at.1 ∙ ap (slice_get (queue k f)) e ∙ s.2 in let c : q' ≡ q = cc in inl c)
            (λ n. inr (before q q' i at.0 s.2 at.1 (omega arith)))
            (cases_eq at.0 i))
            (cases_lt at.0 i),
      )

  pub moves_one : (sent : Option (Message P K)) (g : Fet P V K) → SendsFirst p k word time f sent → g.keys ≡ sent_in k sent time f.keys → MovesOne p k word time f sent g
  moves_one None g s e = e
  moves_one (Some m) g s e =
      let q = s.0 in
      let r = s.2.0 in
      let at : row_of k m.key f ≡ Some r = subst (λ key. row_of k key f ≡ Some r) s.1 s.2.1 in
      let same : r.key ≡ m.key = lookup_key k.order o key_of m.key r f.keys.rows h.keys at in
      let n = out_row r m time in
      let step : stepped k m.key (Sent m.id m.peer time) f.keys ≡ put_in k.order key_of n f.keys =
      ap (λ (y : Option (KeyRow K P)). put_found k (step_at (Sent m.id m.peer time) y) f.keys) at
      ∙ ap (λ (y : Option (KeyRow K P)). put_found k y f.keys) (out_at r.key r.aimed r.retries r.stage q m time s.2.2) in
      let room = found_fits k.order key_of r.key r f.keys (subst (λ key. row_of k key f ≡ Some r) (sym same) at) in
      let all : g.keys ≡ with_rows f.keys (put k.order key_of n f.keys.rows) = e ∙ step ∙ put_in_is k.order key_of n f.keys room in (
        (
          r,
          at,
          ap (λ (t : Tab (KeyRow K P)). lookup k.order key_of m.key t.rows) all
              ∙ subst (λ key. lookup k.order key_of key (put k.order key_of n f.keys.rows) ≡ Some n) same (lookup_put_same k.order o key_of n f.keys.rows h.keys),
        ),
        λ key other. ap (λ (t : Tab (KeyRow K P)). lookup k.order key_of key t.rows) all
            ∙ lookup_put_other k.order o key_of n key f.keys.rows h.keys (λ d. other (sym d ∙ same)),
      )
