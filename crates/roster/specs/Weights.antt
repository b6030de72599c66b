-- Shares of a draw.
use Rattle.std.specs.Prelude.{ℕ, zero, suc, max, cond, List, [], ◌∷◌, Some, None, Option, ◌==◌}
use Rattle.draw.specs.declared.rows.Share.{Share}

-- the greatest weight
unfoldable pub heaviest : List Share → ℕ
heaviest [] = 0
heaviest (s ∷ ss) = max s.weight (heaviest ss)

-- the rows with one changed
unfoldable pub changed_at : {R : Type 0} → (R → R) → List R → ℕ → List R
changed_at f [] i = []
changed_at f (r ∷ rs) zero = f r ∷ rs
changed_at f (r ∷ rs) (suc i) = r ∷ changed_at f rs i

-- a share of 0 stays
abbrev pub reweighed : ℕ → Share → Share
reweighed w s = record { weight = cond (s.weight == 0) s.weight w; aside = s.aside }

-- the share at a place, with the weight that it gets
abbrev pub reweighed_at : Option (ℕ × ℕ) → List Share → List Share
reweighed_at None shares = shares
reweighed_at (Some x) shares = changed_at (reweighed x.1) shares x.0
