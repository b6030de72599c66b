-- The order in which rows are drawn.
use Rattle.std.specs.Prelude.{◌≡◌, ℕ, zero, suc, ◌+◌, cond, List, [], ◌∷◌, Some, None, ◌==◌, slice_index_or}
use Rattle.draw.specs.declared.rows.Share.{Share}
use Rattle.draw.specs.declared.rows.By.TheVariants.{Head}
use Rattle.draw.specs.Rows.{part, total, pick, words_after, without, nobody}

-- the picks until none is left, at most `n` of them
abbrev pub picks : ℕ → List Share → ℕ → (ℕ → ℕ) → List ℕ
picks zero xs retries w = []
picks (suc n) xs retries w =
    elim (pick xs retries w) [ None ↦ [] | Some p ↦ p ∷ picks n (without xs p) retries (words_after xs retries w) ]

-- the words ahead after these picks
abbrev pub picks_words : ℕ → List Share → ℕ → (ℕ → ℕ) → ℕ → ℕ
picks_words zero xs retries w = w
picks_words (suc n) xs retries w =
    elim (pick xs retries w) [ None ↦ w | Some p ↦ picks_words n (without xs p) retries (words_after xs retries w) ]

abbrev pub order : List Share → ℕ → (ℕ → ℕ) → List ℕ
order xs retries w = picks (total Head xs) xs retries w

-- the words ahead after the whole order was drawn
abbrev pub order_words : List Share → ℕ → (ℕ → ℕ) → ℕ → ℕ
order_words xs retries w = picks_words (total Head xs) xs retries w

-- how often a place stands in a list
abbrev pub times : ℕ → List ℕ → ℕ
times p [] = 0
times p (q ∷ qs) = cond (p == q) 1 0 + times p qs

-- each row that is left to draw from stands there once, and no other place
abbrev pub Once : List Share → List ℕ → Type 0
Once xs places = (p : ℕ) → times p places ≡ part Head (slice_index_or xs p nobody)
