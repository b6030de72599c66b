-- What listing the queue leaves, and a fetcher after it.
use Rattle.std.proofs.Common.{◌≡◌, ℕ, List, [], ◌∷◌, Some, None, Option, refl, ◌∙◌}
use Rattle.std.proofs.lemmas.Bool.{cond_both}
use Rattle.kinds.specs.declared.ordered.Ordered.{Ghosts as Order}
use Rattle.tables.specs.Rows.{put}
use Rattle.tables.specs.Tables.{Tab, with_rows, emptied, fits}
use Rattle.roster.specs.Rosters.{Roster}
use Rattle.live.specs.declared.row.KeyRow.{KeyRow}
use Rattle.live.specs.declared.queue.QueueRow.{QueueRow}
use Rattle.live.specs.Queues.{by_queue, turn_of, queue_row, enqueued, queue_on}
use Rattle.model.specs.Fet.{Fet, with_next}

module _ {K : Type 0} (k : Order K) where
  emptied_one : (q : Option (QueueRow K)) (t : Tab (QueueRow K)) → emptied (enqueued k q t) ≡ emptied t
  emptied_one None t = refl
  emptied_one (Some q) t =
      cond_both (fits (by_queue k) turn_of (turn_of q) t) (with_rows t (put (by_queue k) turn_of q t.rows)) t (λ x. emptied x ≡ emptied t) (λ _. refl) (λ _. refl)

  -- the memory in which the queue is listed stays what it is
  pub emptied_all : {P : Type 0} (rows : List (KeyRow K P)) (t : Tab (QueueRow K)) → emptied (queue_on k t rows) ≡ emptied t
  unfolding queue_on
  emptied_all [] t = refl
  emptied_all (r ∷ rs) t = emptied_all rs (enqueued k (queue_row r) t) ∙ emptied_one (queue_row r) t

-- only the next id has changed
pub next_is : {P V K : Type 0} (f : Fet P V K) (roster : Roster P V) (keys : Tab (KeyRow K P)) (listing : Tab (QueueRow K)) (n m : Option ℕ)
    → roster ≡ f.roster → keys ≡ f.keys → listing ≡ f.listing → n ≡ m
    → record { engine = f.engine; timeout = f.timeout; delay = f.delay; own = f.own; roster = roster; blocked = f.blocked; keys = keys; listing = listing; targets = f.targets; next = n; waiter = f.waiter } ≡ with_next m f
next_is f roster keys listing n m a b c d = cc
