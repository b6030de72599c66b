-- The listing of the queue: each queued key once, in queue order.
use Rattle.std.proofs.Common.{◌≡◌, ℕ, suc, ◌+◌, ◌<◌, ◌≤◌, cond, ◌⊎◌, List, [], ◌∷◌, length, is_some, Some, None, Option, sym, refl, ap, ◌∙◌, subst, inl, inr, ⊎_elim, arith}
use Rattle.std.proofs.lemmas.Bool.{cond_both}
use Rattle.kinds.specs.declared.ordered.Ordered.{Ghosts as Order}
use Rattle.kinds.specs.declared.pair.Pair.{Pair}
use Rattle.tables.specs.Rows.{Lawful, Ascending, In, lookup, put}
use Rattle.tables.specs.Tables.{Tab, with_rows, fits, put_in}
use Rattle.tables.proofs.Laws.{ascending_put, lookup_put_same, length_put}
use Rattle.tables.proofs.Finds.{lookup_put}
use Rattle.tables.proofs.Room.{room_fits, put_in_is}
use Rattle.live.specs.declared.row.KeyRow.{KeyRow}
use Rattle.live.specs.declared.queue.Turn.{Turn}
use Rattle.live.specs.declared.queue.QueueRow.{QueueRow}
use Rattle.live.proofs.Laws.{queue_lawful}
use Rattle.live.specs.Queues.{by_queue, turn_of, queue_row, enqueued, queue_on}

module _ {K : Type 0} (k : Order K) (o : Lawful k.order) where
  abbrev Up : Tab (QueueRow K) → Type 0
  Up t = Ascending (by_queue k) turn_of t.rows

  abbrev find : Pair Turn K → Tab (QueueRow K) → Option (QueueRow K)
  find x t = lookup (by_queue k) turn_of x t.rows

  -- where there is room, a row is put
  put_room : (q : QueueRow K) (t : Tab (QueueRow K)) → length t.rows < t.most → put_in (by_queue k) turn_of q t ≡ with_rows t (put (by_queue k) turn_of q t.rows)
  put_room q t l = put_in_is (by_queue k) turn_of q t (room_fits (by_queue k) turn_of (turn_of q) t l)

  one_up : (q : Option (QueueRow K)) (t : Tab (QueueRow K)) → Up t → Up (enqueued k q t)
  one_up None t up = up
  one_up (Some q) t up =
      cond_both (fits (by_queue k) turn_of (turn_of q) t) (with_rows t (put (by_queue k) turn_of q t.rows)) t (λ x. Up x) (λ _. ascending_put (by_queue k) (queue_lawful k o) turn_of q t.rows up) (λ _. up)

  put_length : (q : QueueRow K) (t : Tab (QueueRow K)) → Up t → length (put (by_queue k) turn_of q t.rows) ≤ length t.rows + 1
  put_length q t up =
      let e = length_put (by_queue k) (queue_lawful k o) turn_of q t.rows up in
      let b : cond (is_some (find (turn_of q) t)) (length t.rows) (length t.rows + 1) ≤ length t.rows + 1 =
      cond_both (is_some (find (turn_of q) t)) (length t.rows) (length t.rows + 1) (λ n. n ≤ length t.rows + 1) (λ _. omega arith) (λ _. omega arith) in
      omega (arith, e, b)

  one_room : (q : Option (QueueRow K)) (t : Tab (QueueRow K)) (n : ℕ) → Up t → length t.rows + suc n ≤ t.most → length (enqueued k q t).rows + n ≤ (enqueued k q t).most
  one_room None t n up l = omega arith
  one_room (Some q) t n up l =
      let a : length t.rows < t.most = omega arith in
      subst (λ (x : Tab (QueueRow K)). length x.rows + n ≤ x.most) (sym (put_room q t a)) (omega (arith, put_length q t up))

  one_kept : (x : Pair Turn K) (q : QueueRow K) (y : Option (QueueRow K)) (t : Tab (QueueRow K)) → Up t → length t.rows < t.most
      → ((q' : QueueRow K) → y ≡ Some q' → turn_of q' ≡ x → q' ≡ q) → find x t ≡ Some q → find x (enqueued k y t) ≡ Some q
  one_kept x q None t up l h f = f
  one_kept x q (Some q') t up l h f =
      ap (find x) (put_room q' t l)
      ∙ ⊎_elim (λ c. c.1 ∙ ap (λ (z : QueueRow K). Some z) (h q' refl c.0)) (λ c. c.1 ∙ f) (lookup_put (by_queue k) (queue_lawful k o) turn_of q' x t.rows up)

  one_origin : (x : Pair Turn K) (q : QueueRow K) (y : Option (QueueRow K)) (t : Tab (QueueRow K)) → Up t → length t.rows < t.most
      → find x (enqueued k y t) ≡ Some q → (find x t ≡ Some q) ⊎ (y ≡ Some q)
  one_origin x q None t up l f = inl f
  one_origin x q (Some q') t up l f =
      let g : lookup (by_queue k) turn_of x (put (by_queue k) turn_of q' t.rows) ≡ Some q = sym (ap (find x) (put_room q' t l)) ∙ f in
      ⊎_elim (λ c. inr (sym c.1 ∙ g)) (λ c. inl (sym c.1 ∙ g)) (lookup_put (by_queue k) (queue_lawful k o) turn_of q' x t.rows up)

  module _ {P : Type 0} where
    pub listing_up : (rows : List (KeyRow K P)) (t : Tab (QueueRow K)) → Up t → Up (queue_on k t rows)
    unfolding queue_on
    listing_up [] t up = up
    listing_up (r ∷ rs) t up = listing_up rs (enqueued k (queue_row r) t) (one_up (queue_row r) t up)

    -- a row that is listed stays, where no other takes its place
    pub kept : (rows : List (KeyRow K P)) (t : Tab (QueueRow K)) (x : Pair Turn K) (q : QueueRow K) → Up t → length t.rows + length rows ≤ t.most
        → ((r : KeyRow K P) (q' : QueueRow K) → In r rows → queue_row r ≡ Some q' → turn_of q' ≡ x → q' ≡ q) → find x t ≡ Some q → find x (queue_on k t rows) ≡ Some q
    unfolding queue_on
    kept [] t x q up l h f = f
    kept (r ∷ rs) t x q up l h f =
        kept rs (enqueued k (queue_row r) t) x q (one_up (queue_row r) t up) (one_room (queue_row r) t (length rs) up l) (λ r' q' i. h r' q' (inr i))
        (one_kept x q (queue_row r) t up (omega arith) (λ q' e. h r q' (inl refl) e) f)

    -- each queued key is listed
    pub listed : (rows : List (KeyRow K P)) (t : Tab (QueueRow K)) (r : KeyRow K P) (q : QueueRow K) → Up t → length t.rows + length rows ≤ t.most
        → ((r' : KeyRow K P) (q' : QueueRow K) → In r' rows → queue_row r' ≡ Some q' → turn_of q' ≡ turn_of q → q' ≡ q) → In r rows → queue_row r ≡ Some q → find (turn_of q) (queue_on k t rows) ≡ Some q
    unfolding queue_on
    listed [] t r q up l h i e = absurd i
    listed (r₀ ∷ rs) t r q up l h (inl d) e =
        let a : length t.rows < t.most = omega arith in
        kept rs (enqueued k (queue_row r₀) t) (turn_of q) q (one_up (queue_row r₀) t up) (one_room (queue_row r₀) t (length rs) up l) (λ r' q' i. h r' q' (inr i))
        (ap (λ y. find (turn_of q) (enqueued k y t)) (ap (λ (y : KeyRow K P). queue_row y) d ∙ e) ∙ ap (find (turn_of q)) (put_room q t a) ∙ lookup_put_same (by_queue k) (queue_lawful k o) turn_of q t.rows up)
    listed (r₀ ∷ rs) t r q up l h (inr i) e =
        listed rs (enqueued k (queue_row r₀) t) r q (one_up (queue_row r₀) t up) (one_room (queue_row r₀) t (length rs) up l) (λ r' q' j. h r' q' (inr j)) i e

    -- what is listed is queued
    pub origin : (rows : List (KeyRow K P)) (t : Tab (QueueRow K)) (x : Pair Turn K) (q : QueueRow K) → Up t → length t.rows + length rows ≤ t.most
        → find x (queue_on k t rows) ≡ Some q → (find x t ≡ Some q) ⊎ ((r : KeyRow K P) × In r rows × (queue_row r ≡ Some q))
    unfolding queue_on
    origin [] t x q up l f = inl f
    origin (r ∷ rs) t x q up l f =
        ⊎_elim (λ g. ⊎_elim (λ c. inl c) (λ c. inr (r, inl refl, c)) (one_origin x q (queue_row r) t up (omega arith) g)) (λ g. inr (g.0, inr g.1, g.2))
        (origin rs (enqueued k (queue_row r) t) x q (one_up (queue_row r) t up) (one_room (queue_row r) t (length rs) up l) f)
