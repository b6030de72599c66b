-- Peers weigh what they should.
use Rattle.std.proofs.Common.{◌≡◌, ℕ, zero, suc, ◌<◌, Bool, true, false, ◌||◌, leb, List, [], ◌∷◌, length, get_or, is_some, Some, None, Ok, Err, Option, Result, Ordering, Less, Equal, Greater, sym, refl, ap, ◌∙◌, subst, inl, inr, ⊎_elim, arith}
use Rattle.std.specs.List.{slice_get}
use Rattle.std.specs.Ordering.{is_eq}
use Rattle.std.proofs.lemmas.Bool.{le-leb, cond-true, cond-false, cases_Bool, both_ways}
use Rattle.kinds.specs.declared.ordered.Ordered.{Ghosts as Order}
use Rattle.score.specs.declared.rating.Rating.{Ghosts as Rate}
use Rattle.draw.specs.declared.rows.Share.{Share}
use Rattle.tables.specs.declared.row.Only.{Only}
use Rattle.tables.specs.Only.{only, key_in, only_rows}
use Rattle.tables.specs.Lists.{ordered}
use Rattle.tables.specs.Rows.{Lawful, Ascending, In, Placed, by, place_of, row_at, lookup}
use Rattle.tables.specs.Tables.{Tab, with_rows, fill_with}
use Rattle.tables.proofs.Orders.{ordered_ascending}
use Rattle.tables.proofs.Finds.{lookup_in, in_lookup}
use Rattle.tables.proofs.Laws.{lookup_key}
use Rattle.tables.proofs.Halving.{place_placed}
use Rattle.roster.specs.declared.row.PeerRow.{PeerRow}
use Rattle.roster.specs.Weights.{changed_at, reweighed, reweighed_at}
use Rattle.roster.specs.Peers.{peer_of, is_own, is_blocked, is_out, fresh_row, share_for, shares_for, row_for, rows_past, from_peer, joined, rerated, rerated_at, rerated_in, weight_then, weight_at, new_weight}
use Rattle.roster.specs.Rosters.{Roster, with_peers, taken_over}
use Rattle.model.specs.Fet.{Fet, with_roster, with_blocked}
use Rattle.model.specs.Calls.{cleared, weighed, reconcile_step, block_step}
use Rattle.laws.specs.Weights.{Barred, Weighs, PeersAre, WeightsStand}

-- ---- lists
at_of : {X : Type 0} (x d : X) (xs : List X) (j : ℕ) → slice_get xs j ≡ Some x → (j < length xs) × (get_or xs j d ≡ x)
at_of x d [] j e = let z : ◌≡◌ {A = ℕ} 0 1 = cc in absurd (omega arith)
at_of x d (y ∷ ys) zero e = let q : y ≡ x = cc in (omega arith, q)
at_of x d (y ∷ ys) (suc j) e = let r = at_of x d ys j e in (omega (arith, r.0), r.1)

only_at : {X : Type 0} (xs : List X) (i : ℕ) (d : Only X) → (get_or (only_rows xs) i d).key ≡ get_or xs i d.key
unfolding only_rows
only_at [] i d = refl
only_at (x ∷ xs) zero d = refl
only_at (x ∷ xs) (suc i) d = only_at xs i d

only_length : {X : Type 0} (xs : List X) → length (only_rows xs) ≡ length xs
unfolding only_rows
only_length [] = refl
only_length (x ∷ xs) = ap suc (only_length xs)

other_at : {X : Type 0} (f : X → X) (xs : List X) (i j : ℕ) → (j ≡ i → ⊥) → slice_get (changed_at f xs i) j ≡ slice_get xs j
unfolding changed_at
other_at f [] i j h = refl
other_at f (x ∷ xs) zero zero h = absurd (h refl)
other_at f (x ∷ xs) zero (suc j) h = refl
other_at f (x ∷ xs) (suc i) zero h = refl
other_at f (x ∷ xs) (suc i) (suc j) h = other_at f xs i j (λ e. h (ap suc e))

module _ {P V : Type 0} (p : Order P) (o : Lawful p.order) (v : Rate V) where
  only_up : (xs : List P) → ordered p.order xs ≡ true → Ascending p.order key_in (only_rows xs)
  unfolding Ascending
  only_up xs h i j d l m =
      let up = ordered_ascending p.order o xs h in
      let n : j < length xs = omega (arith, only_length xs) in
      ap (λ a. p.order a (get_or (only_rows xs) j d).key) (only_at xs i d) ∙ ap (λ b. p.order (get_or xs i d.key) b) (only_at xs j d) ∙ up i j d.key l n

  -- ---- who is barred
  own_is : (own : Option P) (peer : P) → is_own p own peer ≡ true → own ≡ Some peer
  own_is None peer e = absurd (both_ways false refl e)
  own_is (Some q) peer e = go (p.order q peer) refl e where
    go : (x : Ordering) → p.order q peer ≡ x → is_eq x ≡ true → Some q ≡ Some peer
    go Less c d = absurd (both_ways false refl d)
    go Equal c d = ap Some (o.same q peer c)
    go Greater c d = absurd (both_ways false refl d)

  is_own_of : (own : Option P) (peer : P) → own ≡ Some peer → is_own p own peer ≡ true
  is_own_of own peer e = ap (λ (x : Option P). is_own p x peer) e ∙ ap is_eq (o.reflexive peer)

  module _ (blocked : List (Only P)) (up : Ascending p.order key_in blocked) where
    some_in : (peer : P) (x : Option (Only P)) → lookup p.order key_in peer blocked ≡ x → is_some x ≡ true → In (only peer) blocked
    some_in peer None e h = absurd (both_ways false refl h)
    some_in peer (Some r) e h =
        let a = lookup_key p.order o key_in peer r blocked up e in
        subst (λ (x : Only P). In x blocked) (ap only a) (lookup_in p.order o key_in peer r blocked up e)

    in_some : (peer : P) → In (only peer) blocked → is_blocked p blocked peer ≡ true
    in_some peer i = ap is_some (in_lookup p.order o key_in (only peer) blocked up i)

    barred_of : (own : Option P) (peer : P) → is_out p own blocked peer ≡ true → Barred {V = V} v own blocked peer
    barred_of own peer h = go (is_own p own peer) refl h where
      go : (b : Bool) → is_own p own peer ≡ b → (b || is_blocked p blocked peer) ≡ true → Barred {V = V} v own blocked peer
      go true e h = inl (own_is own peer e)
      go false e h = inr (some_in peer (lookup p.order key_in peer blocked) refl h)

    of_barred : (own : Option P) (peer : P) → Barred {V = V} v own blocked peer → is_out p own blocked peer ≡ true
    of_barred own peer (inl e) = ap (λ b. b || is_blocked p blocked peer) (is_own_of own peer e)
    of_barred own peer (inr i) = go (is_own p own peer) where
      go : (b : Bool) → (b || is_blocked p blocked peer) ≡ true
      go true = refl
      go false = in_some peer i

    weighs_each : (own : Option P) (rows : List (PeerRow P V)) (i : ℕ) (r : PeerRow P V) → slice_get rows i ≡ Some r
        → (s : Share) × (slice_get (shares_for p v own blocked rows) i ≡ Some s) × (s.aside ≡ false) × (Barred {V = V} v own blocked r.peer → s.weight ≡ 0) × ((Barred {V = V} v own blocked r.peer → ⊥) → s.weight ≡ v.weighs r.rating)
    unfolding shares_for
    weighs_each own [] i r e = let z : ◌≡◌ {A = ℕ} 0 1 = cc in absurd (omega arith)
    weighs_each own (q ∷ qs) zero r e =
        let d : q ≡ r = cc in (
          share_for p v own blocked r,
          ap (λ (x : PeerRow P V). Some (share_for p v own blocked x)) d,
          refl,
          (λ b. cond-true (is_out p own blocked r.peer) 0 (v.weighs r.rating) (of_barred own r.peer b)),
          λ n. ⊎_elim (λ t. absurd (n (barred_of own r.peer t))) (λ t. cond-false (is_out p own blocked r.peer) 0 (v.weighs r.rating) t) (cases_Bool (is_out p own blocked r.peer)),
        )
    weighs_each own (q ∷ qs) (suc i) r e = weighs_each own qs i r e

  -- ---- the roster has the peers of the list
  row_peer : (peer : P) (rows : List (PeerRow P V)) → (row_for p v peer rows).peer ≡ peer
  row_peer peer [] = refl
  row_peer peer (r ∷ rs) = go (p.order r.peer peer) refl where
    go : (x : Ordering) → p.order r.peer peer ≡ x → (by x (fresh_row v peer) r (fresh_row v peer)).peer ≡ peer
    go Less e = refl
    go Equal e = o.same r.peer peer e
    go Greater e = refl

  joined_length : (list : List P) (old : List (PeerRow P V)) → length (joined p v list old) ≡ length list
  unfolding joined
  joined_length [] old = refl
  joined_length (q ∷ qs) old = ap suc (joined_length qs (rows_past p q (from_peer p q old)))

  joined_peers : (list : List P) (old : List (PeerRow P V)) (i : ℕ) (r : PeerRow P V) → slice_get (joined p v list old) i ≡ Some r → slice_get list i ≡ Some r.peer
  unfolding joined
  joined_peers [] old i r e = let z : ◌≡◌ {A = ℕ} 0 1 = cc in absurd (omega arith)
  joined_peers (q ∷ qs) old zero r e =
      let d : row_for p v q (from_peer p q old) ≡ r = cc in
      ap Some (sym (row_peer q (from_peer p q old)) ∙ ap peer_of d)
  joined_peers (q ∷ qs) old (suc i) r e = joined_peers qs (rows_past p q (from_peer p q old)) i r e

  -- ---- a record changes one row
  others : (peer : P) (elapsed size : ℕ) (rows : List (PeerRow P V)) (shares : List Share) → Ascending p.order peer_of rows
      → (j : ℕ) (r : PeerRow P V) → slice_get rows j ≡ Some r → (r.peer ≡ peer → ⊥)
      → (slice_get (rerated_in p v peer elapsed size rows) j ≡ Some r) × (slice_get (reweighed_at (new_weight p v peer elapsed size rows) shares) j ≡ slice_get shares j)
  unfolding rerated_in new_weight
  others peer elapsed size rows shares up j r e n = go (place_of p.order peer_of peer rows) (place_placed p.order peer_of peer rows o up) where
    share : (i : ℕ) → (j ≡ i → ⊥) → (x : Option (PeerRow P V)) → slice_get (reweighed_at (weight_then v elapsed size i x) shares) j ≡ slice_get shares j
    share i ne None = refl
    share i ne (Some q) = other_at (reweighed (v.weighs (v.recorded q.rating elapsed size))) shares i j ne

    go : (x : Result ℕ ℕ) → Placed p.order peer_of peer rows x
        → (slice_get (rerated_at v elapsed size x rows) j ≡ Some r) × (slice_get (reweighed_at (weight_at v elapsed size x rows) shares) j ≡ slice_get shares j)
    go (Err i) h = (e, refl)
    go (Ok i) h =
        let ne : j ≡ i → ⊥ = λ d.
        n (ap peer_of (sym (at_of r r rows j e).1 ∙ ap (λ m. get_or rows m r) d) ∙ o.same (get_or rows i r).peer peer (h.2 r)) in
        (other_at (rerated v elapsed size) rows i j ne ∙ e, share i ne (row_at rows i))

  pub weights : (K : Type 0) → WeightsStand K p v
  weights K = record {
    reconciled = λ f list up fits.
        let b = le-leb (length list) f.roster.peers.most fits in
        let rows = joined p v list f.roster.peers.rows in
        let made = with_peers f.roster rows (shares_for p v f.own f.blocked.rows rows) in
        let e : (reconcile_step p v list f).roster ≡ made =
        ap (λ (x : Fet P V K). x.roster) (cond-true (leb (length list) f.roster.peers.most) (cleared (with_roster (taken_over p v f.own f.blocked.rows list f.roster) f)) f b)
        ∙ cond-true (leb (length list) f.roster.peers.most) made f.roster b in
        subst (λ (t : Roster P V). PeersAre list t × Weighs v f.own f.blocked.rows t) (sym e)
        ((joined_length list f.roster.peers.rows, joined_peers list f.roster.peers.rows), weighs_each f.blocked.rows up f.own rows);
    blocked = λ f list ord fits.
        let b = le-leb (length list) f.blocked.most fits in
        let full : fill_with (only_rows list) (length list) f.blocked ≡ with_rows f.blocked (only_rows list) =
        cond-true (leb (length list) f.blocked.most) (with_rows f.blocked (only_rows list)) f.blocked b in
        let e : block_step p v list f ≡ cleared (weighed p v (with_blocked (with_rows f.blocked (only_rows list)) f)) =
        cond-true (leb (length list) f.blocked.most) (cleared (weighed p v (with_blocked (fill_with (only_rows list) (length list) f.blocked) f))) f b
        ∙ ap (λ (x : Tab (Only P)). cleared (weighed p v (with_blocked x f))) full in (
          ap (λ (x : Fet P V K). x.blocked.rows) e,
          subst (λ (x : Fet P V K). Weighs v f.own (only_rows list) x.roster) (sym e) (weighs_each (only_rows list) (only_up list ord) f.own f.roster.peers.rows),
        );
    one_row = λ f peer elapsed size up j r e n. others peer elapsed size f.roster.peers.rows f.roster.shares up j r e n;
  }
