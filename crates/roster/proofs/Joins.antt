-- The steps of a join along a list and the rows before.
use Rattle.std.proofs.Common.{◌≡◌, ℕ, ◌+◌, ◌<◌, ◌≤◌, List, [], ◌∷◌, ◌++◌, length, get_or, drop, cond, sym, ap, ◌∙◌, append_assoc, append-nil, lt-ltb}
use Rattle.kinds.specs.declared.ordered.Ordered.{Ghosts as Order}
use Rattle.score.specs.declared.rating.Rating.{Ghosts as Rate}
use Rattle.tables.specs.Tables.{Tab, with_rows}
use Rattle.tables.specs.Appends.{push_in}
use Rattle.tables.proofs.Steps.{peel, spent}
use Rattle.roster.specs.declared.row.PeerRow.{PeerRow}
use Rattle.roster.specs.Peers.{from_peer, row_for, rows_past, joined}

-- where there is room, a row is appended
pub pushed : {R : Type 0} (row : R) (t u : Tab R) → u ≡ push_in row t → length t.rows < t.most → u ≡ with_rows t (t.rows ++ row ∷ [])
pushed row t u e l = e ∙ ap (λ b. cond b (with_rows t (t.rows ++ row ∷ [])) t) (lt-ltb (length t.rows) t.most l)

module _ {P V : Type 0} (p : Order P) (v : Rate V) (list : List P) (made all : List (PeerRow P V)) (i : ℕ) where
  -- the row of the next peer, put at the end of what is made
  pub join_step : (q : P) (r : PeerRow P V) (next rest past : List (PeerRow P V)) → i < length list → q ≡ get_or list i q
      → r ≡ row_for p v q (from_peer p q rest) → past ≡ rows_past p q (from_peer p q rest) → next ≡ made ++ r ∷ []
      → made ++ joined p v (drop i list) rest ≡ all → next ++ joined p v (drop (i + 1) list) past ≡ all
  unfolding joined
  join_step q r next rest past l is e f g h = rw (g, e, f) (append_assoc made _ _ ∙ ap (λ qs. made ++ joined p v qs rest) (sym (peel list i q l is)) ∙ h)

  pub join_done : (rest : List (PeerRow P V)) → length list ≤ i → made ++ joined p v (drop i list) rest ≡ all → made ≡ all
  unfolding joined
  join_done rest l h = sym (append-nil made) ∙ ap (λ qs. made ++ joined p v qs rest) (sym (spent list i l)) ∙ h
