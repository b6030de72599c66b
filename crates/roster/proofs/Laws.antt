-- What a caller may know of a roster that was taken over from a list.
use Rattle.std.proofs.Common.{◌≡◌, suc, List, [], ◌∷◌, map, length, None, Option, Ordering, Less, Equal, unwrap_or, sym, refl, ap, ◌∙◌, subst}
use Rattle.std.specs.Ordering.{ordering_reverse}
use Rattle.std.specs.List.{AllByRecursion as All}
use Rattle.kinds.specs.declared.ordered.Ordered.{Ghosts as Order}
use Rattle.score.specs.declared.rating.Rating.{Ghosts as Rate}
use Rattle.tables.specs.Rows.{Lawful, Ascending, lookup}
use Rattle.tables.proofs.Walks as walks
use Rattle.tables.proofs.WalkLaws as walk
use Rattle.tables.proofs.Laws.{lookup_walk}
use Rattle.roster.specs.declared.row.PeerRow.{PeerRow}
use Rattle.roster.specs.Peers.{peer_of, fresh_row, from_peer, row_for, rows_past, joined}

abbrev self : {T : Type 0} → T → T
self x = x

module _ {P V : Type 0} (p : Order P) (v : Rate V) where
  -- as many rows as the list has peers
  pub length_joined : (list : List P) (old : List (PeerRow P V)) → length (joined p v list old) ≡ length list
  unfolding joined
  length_joined [] old = refl
  length_joined (q ∷ qs) old = ap suc (length_joined qs (rows_past p q (from_peer p q old)))

module _ {P V : Type 0} (p : Order P) (o : Lawful p.order) (v : Rate V) where
  row_peer : (q : P) (rows : List (PeerRow P V)) → (row_for p v q rows).peer ≡ q
  row_peer q [] = refl
  row_peer q (r ∷ rs) = walk.by_cases (p.order r.peer q) (λ e. rw e refl) (λ e. rw e (o.same _ _ e)) (λ e. rw e refl)

  -- its peers are those of the list, in the list's order
  pub joined_peers : (list : List P) (old : List (PeerRow P V)) → map peer_of (joined p v list old) ≡ list
  unfolding joined
  joined_peers [] old = refl
  joined_peers (q ∷ qs) old =
      ap (λ x. x ∷ map peer_of (joined p v qs (rows_past p q (from_peer p q old)))) (row_peer q (from_peer p q old))
      ∙ ap (λ l. q ∷ l) (joined_peers qs (rows_past p q (from_peer p q old)))

  -- ---- on rows and a list in order
  abbrev find : P → List (PeerRow P V) → Option (PeerRow P V)
  find q rows = walks.lookup p.order peer_of q rows

  unequal : (x : Ordering) → x ≡ Less → x ≡ Equal → ⊥
  unequal x a b = cc

  skip : (q : P) (r : PeerRow P V) (rs : List (PeerRow P V)) → p.order r.peer q ≡ Less → find q (r ∷ rs) ≡ find q rs
  skip q r rs e = walk.lookup_skip p.order o peer_of q r rs (unequal _ e)

  none_beyond : (q : P) (r : PeerRow P V) (rs : List (PeerRow P V)) → p.order q r.peer ≡ Less → All (λ s. p.order r.peer s.peer ≡ Less) rs → find q rs ≡ None
  none_beyond q r [] l a = walk.lookup_none p.order o peer_of q
  none_beyond q r (s ∷ rs) l a =
      let m : p.order q s.peer ≡ Less = o.joined _ _ _ l a.0 in
      walk.lookup_skip p.order o peer_of q s rs (λ e. unequal _ m (subst (λ x. p.order q x ≡ Equal) (sym (o.same _ _ e)) (o.reflexive q))) ∙ none_beyond q r rs l a.1

  row_is : (q : P) (old : List (PeerRow P V)) → walk.Up p.order o peer_of old → row_for p v q (from_peer p q old) ≡ unwrap_or (find q old) (fresh_row v q)
  unfolding from_peer walk.Up
  row_is q [] u = ap (λ x. unwrap_or x (fresh_row v q)) (sym (walk.lookup_none p.order o peer_of q))
  row_is q (r ∷ rs) u =
      walk.by_cases (p.order r.peer q)
      (λ e. rw e (row_is q rs u.1 ∙ ap (λ x. unwrap_or x (fresh_row v q)) (sym (skip q r rs e))))
      (λ e. rw (e, e) (ap (λ x. unwrap_or x (fresh_row v q)) (sym (walk.lookup_here p.order o peer_of q r rs e))))
      (λ e.
      let l : p.order q r.peer ≡ Less = o.turned r.peer q ∙ ap ordering_reverse e in
      let n : find q (r ∷ rs) ≡ None = walk.lookup_skip p.order o peer_of q r rs (λ f. cc) ∙ none_beyond q r rs l u.0 in
      rw (e, e) (ap (λ x. unwrap_or x (fresh_row v q)) (sym n)))

  -- rows passed over at q have no later peer
  find_from : (q j : P) (old : List (PeerRow P V)) → p.order q j ≡ Less → find j (from_peer p q old) ≡ find j old
  unfolding from_peer
  find_from q j [] l = refl
  find_from q j (r ∷ rs) l =
      walk.by_cases (p.order r.peer q)
      (λ e. rw e (find_from q j rs l ∙ sym (skip j r rs (o.joined _ _ _ e l))))
      (λ e. rw e refl)
      (λ e. rw e refl)

  find_past : (q j : P) (rows : List (PeerRow P V)) → p.order q j ≡ Less → find j (rows_past p q rows) ≡ find j rows
  find_past q j [] l = refl
  find_past q j (r ∷ rs) l =
      walk.by_cases (p.order r.peer q)
      (λ e. rw e refl)
      (λ e. rw e (sym (skip j r rs (subst (λ x. p.order x j ≡ Less) (sym (o.same _ _ e)) l))))
      (λ e. rw e refl)

  up_from : (q : P) (old : List (PeerRow P V)) → walk.Up p.order o peer_of old → walk.Up p.order o peer_of (from_peer p q old)
  unfolding from_peer walk.Up
  up_from q [] u = tt
  up_from q (r ∷ rs) u = walk.by_cases (p.order r.peer q) (λ e. rw e (up_from q rs u.1)) (λ e. rw e u) (λ e. rw e u)

  up_past : (q : P) (rows : List (PeerRow P V)) → walk.Up p.order o peer_of rows → walk.Up p.order o peer_of (rows_past p q rows)
  unfolding walk.Up
  up_past q [] u = tt
  up_past q (r ∷ rs) u = walk.by_cases (p.order r.peer q) (λ e. rw e u) (λ e. rw e u.1) (λ e. rw e u)

  abbrev kept : List (PeerRow P V) → P → PeerRow P V
  kept old q = unwrap_or (find q old) (fresh_row v q)

  same_kept : (q : P) (old : List (PeerRow P V)) (qs : List P) → All (λ j. p.order q j ≡ Less) qs → map (kept (rows_past p q (from_peer p q old))) qs ≡ map (kept old) qs
  same_kept q old [] a = refl
  same_kept q old (j ∷ js) a =
      ap (λ x. unwrap_or x (fresh_row v j) ∷ map (kept (rows_past p q (from_peer p q old))) js) (find_past q j (from_peer p q old) a.0 ∙ find_from q j old a.0)
      ∙ ap (λ l. kept old j ∷ l) (same_kept q old js a.1)

  all_kept : (list : List P) (old : List (PeerRow P V)) → walk.Up p.order o self list → walk.Up p.order o peer_of old → joined p v list old ≡ map (kept old) list
  unfolding joined walk.Up
  all_kept [] old a u = refl
  all_kept (q ∷ qs) old a u =
      ap (λ x. x ∷ joined p v qs (rows_past p q (from_peer p q old))) (row_is q old u)
      ∙ ap (λ l. kept old q ∷ l) (all_kept qs (rows_past p q (from_peer p q old)) a.1 (up_past q (from_peer p q old) (up_from q old u)) ∙ same_kept q old qs a.0)

  looked : (old : List (PeerRow P V)) → Ascending p.order peer_of old → (qs : List P) → map (kept old) qs ≡ map (λ q. unwrap_or (lookup p.order peer_of q old) (fresh_row v q)) qs
  looked old up [] = refl
  looked old up (q ∷ qs) =
      ap (λ x. unwrap_or x (fresh_row v q) ∷ map (kept old) qs) (sym (lookup_walk p.order o peer_of q old up))
      ∙ ap (λ l. unwrap_or (lookup p.order peer_of q old) (fresh_row v q) ∷ l) (looked old up qs)

  -- each peer of the list has its old row, or a fresh one where it had none
  pub joined_is : (list : List P) (old : List (PeerRow P V)) → Ascending p.order self list → Ascending p.order peer_of old
      → joined p v list old ≡ map (λ q. unwrap_or (lookup p.order peer_of q old) (fresh_row v q)) list
  joined_is list old a up = all_kept list old (walk.to_up p.order o self list a) (walk.to_up p.order o peer_of old up) ∙ looked old up list
