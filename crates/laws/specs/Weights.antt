-- What the peers of a roster weigh after a call.
use Rattle.std.specs.Prelude.{◌≡◌, ℕ, ◌≤◌, true, false, ◌⊎◌, List, length, Some, Option, ◌≢◌}
use Rattle.std.specs.List.{slice_get}
use Rattle.kinds.specs.declared.ordered.Ordered.{Ghosts as Order}
use Rattle.score.specs.declared.rating.Rating.{Ghosts as Rate}
use Rattle.draw.specs.declared.rows.Share.{Share}
use Rattle.tables.specs.declared.row.Only.{Only}
use Rattle.tables.specs.Only.{only, key_in, only_rows}
use Rattle.tables.specs.Lists.{ordered}
use Rattle.tables.specs.Rows.{Ascending, In}
use Rattle.roster.specs.declared.row.PeerRow.{PeerRow}
use Rattle.roster.specs.Peers.{peer_of}
use Rattle.roster.specs.Rosters.{Roster}
use Rattle.model.specs.Fet.{Fet}
use Rattle.model.specs.Calls.{reconcile_step, block_step, recorded}

module _ {P V : Type 0} (v : Rate V) where
  -- a peer is never asked: the engine's own, or blocked
  abbrev pub Barred : Option P → List (Only P) → P → Type 0
  Barred own blocked peer = (own ≡ Some peer) ⊎ In (only peer) blocked

  -- each row's share: 0 for a peer that is barred, else the weight of its rating, which is never 0
  abbrev pub Weighs : Option P → List (Only P) → Roster P V → Type 0
  Weighs own blocked t =
      (i : ℕ) (r : PeerRow P V) → slice_get t.peers.rows i ≡ Some r
      → (s : Share) × (slice_get t.shares i ≡ Some s) × (s.aside ≡ false) × (Barred own blocked r.peer → s.weight ≡ 0) × ((Barred own blocked r.peer → ⊥) → s.weight ≡ v.weighs r.rating)

-- a roster has just the peers of a list, in their order
abbrev pub PeersAre : {P V : Type 0} → List P → Roster P V → Type 0
PeersAre {P} {V} list t = (length t.peers.rows ≡ length list) × ((i : ℕ) (r : PeerRow P V) → slice_get t.peers.rows i ≡ Some r → slice_get list i ≡ Some r.peer)

-- every row but that of a peer is as it was
abbrev pub OthersStay : {P V : Type 0} → P → Roster P V → Roster P V → Type 0
OthersStay {P} {V} peer t u =
    (j : ℕ) (r : PeerRow P V) → slice_get t.peers.rows j ≡ Some r → (r.peer ≢ peer) → (slice_get u.peers.rows j ≡ Some r) × (slice_get u.shares j ≡ slice_get t.shares j)

pub record WeightsStand {P V : Type 0} (K : Type 0) (p : Order P) (v : Rate V) : Type 0 where
  -- a list that fits becomes the roster, and every peer weighs what it should
  pub reconciled : (f : Fet P V K) (list : List P) → Ascending p.order key_in f.blocked.rows → length list ≤ f.roster.peers.most
      → PeersAre list (reconcile_step p v list f).roster × Weighs v f.own f.blocked.rows (reconcile_step p v list f).roster
  -- a list in order that fits becomes the blocked list, and every peer weighs what it should
  pub blocked : (f : Fet P V K) (list : List P) → ordered p.order list ≡ true → length list ≤ f.blocked.most
      → ((block_step p v list f).blocked.rows ≡ only_rows list) × Weighs v f.own (only_rows list) (block_step p v list f).roster
  -- a record changes the row of its peer alone
  pub one_row : (f : Fet P V K) (peer : P) (elapsed size : ℕ) → Ascending p.order peer_of f.roster.peers.rows → OthersStay peer f.roster (recorded p v peer elapsed size f).roster
