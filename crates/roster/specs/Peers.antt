-- The rows of the roster: what a list makes of them, what each weighs, and what a record changes.
use Rattle.std.specs.Prelude.{ℕ, Bool, false, cond, ◌||◌, List, [], ◌∷◌, is_some, Some, None, Ok, Err, Option, Result}
use Rattle.std.specs.Ordering.{is_eq}
use Rattle.kinds.specs.declared.ordered.Ordered.{Ghosts as Order}
use Rattle.score.specs.declared.rating.Rating.{Ghosts as Rate}
use Rattle.draw.specs.declared.rows.Share.{Share}
use Rattle.tables.specs.declared.row.Only.{Only}
use Rattle.tables.specs.Only.{key_in}
use Rattle.tables.specs.Rows.{by, place_of, row_at, lookup}
use Rattle.roster.specs.declared.row.PeerRow.{PeerRow}
use Rattle.roster.specs.Weights.{changed_at}

abbrev pub peer_of : {P V : Type 0} → PeerRow P V → P
peer_of r = r.peer

-- a peer is the engine's own
abbrev pub is_own : {P : Type 0} → Order P → Option P → P → Bool
is_own p None peer = false
is_own p (Some q) peer = is_eq (p.order q peer)

abbrev pub is_blocked : {P : Type 0} → Order P → List (Only P) → P → Bool
is_blocked p blocked peer = is_some (lookup p.order key_in peer blocked)

-- a peer is never asked
abbrev pub is_out : {P : Type 0} → Order P → Option P → List (Only P) → P → Bool
is_out p own blocked peer = is_own p own peer || is_blocked p blocked peer

abbrev pub fresh_row : {P V : Type 0} → Rate V → P → PeerRow P V
fresh_row v peer = record { peer = peer; rating = v.newcomer }

-- ---- a list joined to the rows before
-- the rows from the first that does not come before a peer
unfoldable pub from_peer : {P V : Type 0} → Order P → P → List (PeerRow P V) → List (PeerRow P V)
from_peer p peer [] = []
from_peer p peer (r ∷ rs) = by (p.order r.peer peer) (from_peer p peer rs) (r ∷ rs) (r ∷ rs)

-- the first row if it is that peer's, else a fresh one
abbrev pub row_for : {P V : Type 0} → Order P → Rate V → P → List (PeerRow P V) → PeerRow P V
row_for p v peer [] = fresh_row v peer
row_for p v peer (r ∷ rs) = by (p.order r.peer peer) (fresh_row v peer) r (fresh_row v peer)

-- the rows after it
abbrev pub rows_past : {P V : Type 0} → Order P → P → List (PeerRow P V) → List (PeerRow P V)
rows_past p peer [] = []
rows_past p peer (r ∷ rs) = by (p.order r.peer peer) (r ∷ rs) rs (r ∷ rs)

-- a row for each peer of the list, going once along both
unfoldable pub joined : {P V : Type 0} → Order P → Rate V → List P → List (PeerRow P V) → List (PeerRow P V)
joined p v [] old = []
joined p v (q ∷ qs) old = row_for p v q (from_peer p q old) ∷ joined p v qs (rows_past p q (from_peer p q old))

-- ---- shares
abbrev pub weight_for : {P V : Type 0} → Order P → Rate V → Option P → List (Only P) → PeerRow P V → ℕ
weight_for p v own blocked r = cond (is_out p own blocked r.peer) 0 (v.weighs r.rating)

abbrev pub share_for : {P V : Type 0} → Order P → Rate V → Option P → List (Only P) → PeerRow P V → Share
share_for p v own blocked r = record { weight = weight_for p v own blocked r; aside = false }

unfoldable pub shares_for : {P V : Type 0} → Order P → Rate V → Option P → List (Only P) → List (PeerRow P V) → List Share
shares_for p v own blocked [] = []
shares_for p v own blocked (r ∷ rs) = share_for p v own blocked r ∷ shares_for p v own blocked rs

-- ---- a record of an exchange
abbrev pub rerated : {P V : Type 0} → Rate V → ℕ → ℕ → PeerRow P V → PeerRow P V
rerated v elapsed size r = record { peer = r.peer; rating = v.recorded r.rating elapsed size }

abbrev pub rerated_at : {P V : Type 0} → Rate V → ℕ → ℕ → Result ℕ ℕ → List (PeerRow P V) → List (PeerRow P V)
rerated_at v elapsed size (Ok i) rows = changed_at (rerated v elapsed size) rows i
rerated_at v elapsed size (Err i) rows = rows

-- the rows with that of a peer changed, and no other
unfoldable pub rerated_in : {P V : Type 0} → Order P → Rate V → P → ℕ → ℕ → List (PeerRow P V) → List (PeerRow P V)
rerated_in p v peer elapsed size rows = rerated_at v elapsed size (place_of p.order peer_of peer rows) rows

abbrev pub weight_then : {P V : Type 0} → Rate V → ℕ → ℕ → ℕ → Option (PeerRow P V) → Option (ℕ × ℕ)
weight_then v elapsed size i None = None
weight_then v elapsed size i (Some r) = Some (i, v.weighs (v.recorded r.rating elapsed size))

abbrev pub weight_at : {P V : Type 0} → Rate V → ℕ → ℕ → Result ℕ ℕ → List (PeerRow P V) → Option (ℕ × ℕ)
weight_at v elapsed size (Ok i) rows = weight_then v elapsed size i (row_at rows i)
weight_at v elapsed size (Err i) rows = None

-- the place of a peer with the weight of its rating after a record
unfoldable pub new_weight : {P V : Type 0} → Order P → Rate V → P → ℕ → ℕ → List (PeerRow P V) → Option (ℕ × ℕ)
new_weight p v peer elapsed size rows = weight_at v elapsed size (place_of p.order peer_of peer rows) rows
