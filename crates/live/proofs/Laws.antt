-- What a caller may know of the queue.
use Rattle.std.proofs.Common.{◌≡◌, ℕ, ◌+◌, ◌<◌, ◌≤◌, Bool, true, false, cond, ◌⊎◌, List, [], ◌∷◌, length, is_some, Some, None, Option, Less, Equal, sym, refl, ap, ◌∙◌, subst, inl, inr, ⊎_elim, arith}
use Rattle.std.specs.List.{AllByRecursion as All}
use Rattle.kinds.specs.declared.ordered.Ordered.{Ghosts as Order}
use Rattle.kinds.specs.Lex.{then_equal, number_same}
use Rattle.std.specs.Cmp.{nat_cmp_total, then_total, on_total}
use Rattle.tables.proofs.Lawfuls.{lawful, pair_lawful}
use Rattle.tables.specs.Rows.{Lawful, Ascending, In, lookup, put}
use Rattle.tables.specs.Tables.{Tab, with_rows, fits, emptied}
use Rattle.tables.proofs.WalkLaws as walk
use Rattle.tables.proofs.Laws.{ascending_none, ascending_put, length_put}
use Rattle.tables.proofs.Finds.{lookup_put, lookup_in, in_lookup}
use Rattle.tables.proofs.Room.{room_fits, put_in_is}
use Rattle.live.specs.declared.stage.Stage.{Stage}
use Rattle.live.specs.declared.stage.Stage.TheVariants.{Queued, Out, Judged}
use Rattle.live.specs.declared.row.KeyRow.{KeyRow}
use Rattle.live.specs.declared.queue.Turn.{Turn}
use Rattle.live.specs.declared.queue.QueueRow.{QueueRow}
use Rattle.live.specs.Queues.{by_turn, by_queue, turn_of, queue_at, queue_row, enqueued, queue_on}
use Rattle.live.specs.Keys.{key_of}

abbrev turn : ℕ → ℕ → Turn
turn r d = record { round = r; deadline = d }

pub turn_lawful : Lawful by_turn
turn_lawful = lawful (then_total (on_total (λ x. x.round) nat_cmp_total) (on_total (λ x. x.deadline) nat_cmp_total))
    (λ x y h. let t = then_equal _ _ h in let f = number_same _ _ t.0 in let g = number_same _ _ t.1 in λ i. turn (f i) (g i))

pub queue_lawful : {K : Type 0} (k : Order K) → Lawful k.order → Lawful (by_queue k)
queue_lawful k a = pair_lawful (record { order = by_turn }) k turn_lawful a

module _ {K : Type 0} (k : Order K) (o : Lawful k.order) where
  put_up : (b : Bool) (q : QueueRow K) (t : Tab (QueueRow K)) → Ascending (by_queue k) turn_of t.rows → Ascending (by_queue k) turn_of (cond b (record { engine = t.engine; most = t.most; rows = put (by_queue k) turn_of q t.rows }) t).rows
  put_up true q t up = ascending_put (by_queue k) (queue_lawful k o) turn_of q t.rows up
  put_up false q t up = up

  enqueued_up : (x : Option (QueueRow K)) (t : Tab (QueueRow K)) → Ascending (by_queue k) turn_of t.rows → Ascending (by_queue k) turn_of (enqueued k x t).rows
  enqueued_up None t up = up
  enqueued_up (Some q) t up = put_up (fits (by_queue k) turn_of (turn_of q) t) q t up

  queue_up : {P : Type 0} (t : Tab (QueueRow K)) (rows : List (KeyRow K P)) → Ascending (by_queue k) turn_of t.rows → Ascending (by_queue k) turn_of (queue_on k t rows).rows
  unfolding queue_on
  queue_up t [] up = up
  queue_up t (r ∷ rs) up = queue_up (enqueued k (queue_row r) t) rs (enqueued_up (queue_row r) t up)

  -- the queue as it is listed is in queue order, with no repeat
  pub queue_ascending : {P : Type 0} (t : Tab (QueueRow K)) (rows : List (KeyRow K P)) → Ascending (by_queue k) turn_of (queue_on k (emptied t) rows).rows
  queue_ascending t rows = queue_up (emptied t) rows (ascending_none (by_queue k) (queue_lawful k o) turn_of)

  -- ---- what the queue has: each queued key, and no other
  key_same : {P : Type 0} (r : KeyRow K P) (x : Stage P) (q : QueueRow K) → queue_at r x ≡ Some q → q.key ≡ r.key
  key_same r (Queued retried deadline) q e = cc
  key_same r (Out id peer start) q e = let z : ◌≡◌ {A = ℕ} 0 1 = cc in absurd (omega arith)
  key_same r (Judged slip) q e = let z : ◌≡◌ {A = ℕ} 0 1 = cc in absurd (omega arith)

  same_row : (a b : QueueRow K) → ◌≡◌ {A = Option (QueueRow K)} (Some a) (Some b) → a ≡ b
  same_row a b e = cc

  short : (b : Bool) (n : ℕ) → cond b n (n + 1) ≤ n + 1
  short true n = omega arith
  short false n = omega arith

  module _ (q : QueueRow K) where
    -- q stays where another key is put
    put_keeps : (next : QueueRow K) (rows : List (QueueRow K)) → Ascending (by_queue k) turn_of rows → (next.key ≡ q.key → ⊥) → lookup (by_queue k) turn_of (turn_of q) rows ≡ Some q
        → lookup (by_queue k) turn_of (turn_of q) (put (by_queue k) turn_of next rows) ≡ Some q
    put_keeps next rows up ne h =
        ⊎_elim (λ x. absurd (ne (ap (λ p. p.second) x.0))) (λ x. x.1 ∙ h) (lookup_put (by_queue k) (queue_lawful k o) turn_of next (turn_of q) rows up)

    put_has : (rows : List (QueueRow K)) → Ascending (by_queue k) turn_of rows → lookup (by_queue k) turn_of (turn_of q) (put (by_queue k) turn_of q rows) ≡ Some q
    put_has rows up = ⊎_elim (λ x. x.1) (λ x. absurd (x.0 refl)) (lookup_put (by_queue k) (queue_lawful k o) turn_of q (turn_of q) rows up)

  put_length : (q : QueueRow K) (rows : List (QueueRow K)) → Ascending (by_queue k) turn_of rows → length (put (by_queue k) turn_of q rows) ≤ length rows + 1
  put_length q rows up = subst (λ n. n ≤ length rows + 1) (sym (length_put (by_queue k) (queue_lawful k o) turn_of q rows up)) (short (is_some (lookup (by_queue k) turn_of (turn_of q) rows)) (length rows))

  -- with room, a queued key is put
  enqueued_is : (q : QueueRow K) (t : Tab (QueueRow K)) → length t.rows < t.most → enqueued k (Some q) t ≡ with_rows t (put (by_queue k) turn_of q t.rows)
  enqueued_is q t l = put_in_is (by_queue k) turn_of q t (room_fits (by_queue k) turn_of (turn_of q) t l)

  abbrev Room : {P : Type 0} → Tab (QueueRow K) → List (KeyRow K P) → Type 0
  Room t rows = length t.rows + length rows ≤ t.most

  one_kept : {P : Type 0} (q : QueueRow K) (r : KeyRow K P) (rs : List (KeyRow K P)) (t : Tab (QueueRow K)) (x : Option (QueueRow K)) → queue_row r ≡ x → Ascending (by_queue k) turn_of t.rows → Room t (r ∷ rs) → (r.key ≡ q.key → ⊥)
      → lookup (by_queue k) turn_of (turn_of q) t.rows ≡ Some q → Room (enqueued k x t) rs × (lookup (by_queue k) turn_of (turn_of q) (enqueued k x t).rows ≡ Some q)
  one_kept q r rs t None e up l ne h = (omega arith, h)
  one_kept q r rs t (Some next) e up l ne h =
      let is = enqueued_is next t (omega arith) in
      let m = put_length next t.rows up in
      subst (λ u. Room u rs × (lookup (by_queue k) turn_of (turn_of q) u.rows ≡ Some q)) (sym is)
      (omega arith, put_keeps q next t.rows up (λ f. ne (sym (key_same r r.stage next e) ∙ f)) h)

  all_kept : {P : Type 0} (q : QueueRow K) (rows : List (KeyRow K P)) (t : Tab (QueueRow K)) → Ascending (by_queue k) turn_of t.rows → Room t rows → All (λ r. r.key ≡ q.key → ⊥) rows
      → lookup (by_queue k) turn_of (turn_of q) t.rows ≡ Some q → lookup (by_queue k) turn_of (turn_of q) (queue_on k t rows).rows ≡ Some q
  unfolding queue_on
  all_kept q [] t up l a h = h
  all_kept q (r ∷ rs) t up l a h =
      let one = one_kept q r rs t (queue_row r) refl up l a.0 h in
      all_kept q rs (enqueued k (queue_row r) t) (enqueued_up (queue_row r) t up) one.0 a.1 one.1

  apart : {P : Type 0} (r : KeyRow K P) (q : QueueRow K) → q.key ≡ r.key → (rs : List (KeyRow K P)) → All (λ s. k.order r.key s.key ≡ Less) rs → All (λ s. s.key ≡ q.key → ⊥) rs
  apart r q e [] a = tt
  apart r q e (s ∷ rs) a = (
    (λ f. let g : k.order r.key s.key ≡ Equal = subst (λ x. k.order r.key x ≡ Equal) (sym (f ∙ e)) (o.reflexive r.key) in let h = a.0 in let z : ◌≡◌ {A = ℕ} 0 1 = cc in omega arith),
    apart r q e rs a.1,
  )

  room_on : {P : Type 0} (r : KeyRow K P) (rs : List (KeyRow K P)) (t : Tab (QueueRow K)) (x : Option (QueueRow K)) → Ascending (by_queue k) turn_of t.rows → Room t (r ∷ rs) → Room (enqueued k x t) rs
  room_on r rs t None up l = omega arith
  room_on r rs t (Some next) up l = let m = put_length next t.rows up in subst (λ u. Room u rs) (sym (enqueued_is next t (omega arith))) (omega arith)

  has : {P : Type 0} (r : KeyRow K P) (q : QueueRow K) → queue_row r ≡ Some q → (rows : List (KeyRow K P)) (t : Tab (QueueRow K)) → walk.Up k.order o key_of rows → Ascending (by_queue k) turn_of t.rows → Room t rows → In r rows
      → lookup (by_queue k) turn_of (turn_of q) (queue_on k t rows).rows ≡ Some q
  unfolding queue_on walk.Up
  has r q e [] t u up l i = absurd i
  has r q e (y ∷ ys) t u up l (inr i) = has r q e ys (enqueued k (queue_row y) t) u.1 (enqueued_up (queue_row y) t up) (room_on y ys t (queue_row y) up l) i
  has r q e (y ∷ ys) t u up l (inl i) =
      let f : queue_row y ≡ Some q = ap queue_row i ∙ e in
      let is : enqueued k (queue_row y) t ≡ with_rows t (put (by_queue k) turn_of q t.rows) = ap (λ x. enqueued k x t) f ∙ enqueued_is q t (omega arith) in
      all_kept q ys (enqueued k (queue_row y) t) (enqueued_up (queue_row y) t up) (room_on y ys t (queue_row y) up l) (apart y q (key_same y y.stage q f) ys u.0)
      (subst (λ w. lookup (by_queue k) turn_of (turn_of q) w.rows ≡ Some q) (sym is) (put_has q t.rows up))

  -- each queued key is in the queue as it is listed
  pub queue_has : {P : Type 0} (t : Tab (QueueRow K)) (rows : List (KeyRow K P)) (r : KeyRow K P) (q : QueueRow K) → Ascending k.order key_of rows → length rows ≤ t.most → In r rows → queue_row r ≡ Some q
      → lookup (by_queue k) turn_of (turn_of q) (queue_on k (emptied t) rows).rows ≡ Some q
  queue_has t rows r q up l i e =
      has r q e rows (emptied t) (walk.to_up k.order o key_of rows up) (ascending_none (by_queue k) (queue_lawful k o) turn_of) (omega arith) i

  from_one : {P : Type 0} (q : QueueRow K) (r : KeyRow K P) (t : Tab (QueueRow K)) (x : Option (QueueRow K)) → queue_row r ≡ x → Ascending (by_queue k) turn_of t.rows → In q (enqueued k x t).rows → In q t.rows ⊎ (queue_row r ≡ Some q)
  from_one q r t None e up i = inl i
  from_one q r t (Some next) e up i = put_from (fits (by_queue k) turn_of (turn_of next) t) i
    where
      put_from : (b : Bool) → In q (cond b (with_rows t (put (by_queue k) turn_of next t.rows)) t).rows → In q t.rows ⊎ (queue_row r ≡ Some q)
      put_from false j = inl j
      put_from true j =
          let h = in_lookup (by_queue k) (queue_lawful k o) turn_of q (put (by_queue k) turn_of next t.rows) (ascending_put (by_queue k) (queue_lawful k o) turn_of next t.rows up) j in
          ⊎_elim (λ x. inr (e ∙ ap (λ y. Some y) (same_row next q (sym x.1 ∙ h)))) (λ x. inl (lookup_in (by_queue k) (queue_lawful k o) turn_of (turn_of q) q t.rows up (sym x.1 ∙ h))) (lookup_put (by_queue k) (queue_lawful k o) turn_of next (turn_of q) t.rows up)

  from : {P : Type 0} (q : QueueRow K) (rows : List (KeyRow K P)) (t : Tab (QueueRow K)) → Ascending (by_queue k) turn_of t.rows → In q (queue_on k t rows).rows → In q t.rows ⊎ ((r : KeyRow K P) × In r rows × (queue_row r ≡ Some q))
  unfolding queue_on
  from q [] t up i = inl i
  from q (r ∷ rs) t up i =
      ⊎_elim
      (λ j. ⊎_elim (λ x. inl x) (λ x. inr (r, inl refl, x)) (from_one q r t (queue_row r) refl up j))
      (λ j. inr (j.0, inr j.1, j.2))
      (from q rs (enqueued k (queue_row r) t) (enqueued_up (queue_row r) t up) i)

  -- and nothing else is
  pub queue_from : {P : Type 0} (t : Tab (QueueRow K)) (rows : List (KeyRow K P)) (q : QueueRow K) → In q (queue_on k (emptied t) rows).rows → (r : KeyRow K P) × In r rows × (queue_row r ≡ Some q)
  queue_from t rows q i = ⊎_elim (λ j. absurd j) (λ j. j) (from q rows (emptied t) (ascending_none (by_queue k) (queue_lawful k o) turn_of) i)
