-- What a roster holds, and what each call makes of it.
use Rattle.std.specs.Prelude.{◌≡◌, ℕ, ◌<◌, ◌≤◌, cond, List, [], length, Some, None, Ok, Err, vec_items, Option, Result, nat_le}
use Rattle.kinds.specs.declared.ordered.Ordered.{Ghosts as Order}
use Rattle.score.specs.declared.rating.Rating.{Ghosts as Rate}
use Rattle.draw.specs.declared.rows.Share.{Share}
use Rattle.tables.specs.declared.row.Only.{Only}
use Rattle.tables.specs.declared.table.error.TableError.{TableError}
use Rattle.tables.specs.declared.table.error.TableError.TheVariants.{Rows, Memory}
use Rattle.tables.specs.Rows.{place_of, at_place}
use Rattle.tables.specs.Tables.{Tab, tab_of, with_rows, Outside}
use Rattle.roster.specs.declared.row.PeerRow.{PeerRow}
use Rattle.roster.specs.declared.participants.Participants.{Participants}
use Rattle.roster.specs.Bounds.{most_peers}
use Rattle.roster.specs.Weights.{reweighed_at}
use Rattle.roster.specs.Peers.{peer_of, joined, shares_for, rerated_in, new_weight}

pub record Roster (P V : Type 0) : Type 0 where
  pub peers : Tab (PeerRow P V)
  pub shares : List Share

abbrev pub roster_of : {P V : Type 0} → Participants P V → Roster P V
roster_of t = record { peers = tab_of t.peers; shares = vec_items t.shares.rows }

-- the roster with other rows and shares
abbrev pub with_peers : {P V : Type 0} → Roster P V → List (PeerRow P V) → List Share → Roster P V
with_peers t rows shares = record { peers = with_rows t.peers rows; shares = shares }

-- the roster taken over from a list, where there is room for it
abbrev pub taken_over : {P V : Type 0} → Order P → Rate V → Option P → List (Only P) → List P → Roster P V → Roster P V
taken_over p v own blocked list t =
    cond (nat_le (length list) t.peers.most)
    (with_peers t (joined p v list t.peers.rows) (shares_for p v own blocked (joined p v list t.peers.rows)))
    t

-- every row weighed anew
abbrev pub weighed_in : {P V : Type 0} → Order P → Rate V → Option P → List (Only P) → Roster P V → Roster P V
weighed_in p v own blocked t = with_peers t t.peers.rows (shares_for p v own blocked t.peers.rows)

-- an exchange recorded in the row of a peer
abbrev pub recorded_in : {P V : Type 0} → Order P → Rate V → P → ℕ → ℕ → Roster P V → Roster P V
recorded_in p v peer elapsed size t =
    with_peers t (rerated_in p v peer elapsed size t.peers.rows) (reweighed_at (new_weight p v peer elapsed size t.peers.rows) t.shares)

abbrev pub weight_in : Option Share → Option ℕ
weight_in None = None
weight_in (Some s) = Some s.weight

-- the weight of a peer
abbrev pub weight_of : {P V : Type 0} → Order P → P → Roster P V → Option ℕ
weight_of p peer t = weight_in (at_place (place_of p.order peer_of peer t.peers.rows) t.shares)

abbrev pub empty_roster : {P V : Type 0} → ℕ → ℕ → Roster P V
empty_roster engine most = record { peers = record { engine = engine; most = most; rows = [] }; shares = [] }

abbrev pub Made : {P V : Type 0} → ℕ → ℕ → Result (Participants P V) TableError → Type 0
Made engine most (Ok t) =
    (0 < most) × (most ≤ most_peers) × (roster_of t ≡ empty_roster engine most)
Made engine most (Err Rows) = Outside most most_peers
Made engine most (Err Memory) = (0 < most) × (most ≤ most_peers)
