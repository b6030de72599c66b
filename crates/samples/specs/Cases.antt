-- Worked cases of the written rules, computed on the definitions.
use Rattle.std.specs.Prelude.{◌≡◌, ℕ, false, List, [], ◌∷◌, Some, None, Option}
use Rattle.score.specs.declared.means.Means.{Means}
use Rattle.score.specs.Scores.{means_after, weight_of}
use Rattle.draw.specs.declared.rows.Share.{Share}
use Rattle.draw.specs.Words.{listed}
use Rattle.draw.specs.Rows.{pick}

-- a reply: the nanoseconds that it took, and its bytes
pub record Reply : Type 0 where
  pub elapsed : ℕ
  pub size : ℕ

abbrev pub reply : ℕ → ℕ → Reply
reply elapsed size = record { elapsed = elapsed; size = size }

-- the means of a score after some replies, the first of the list first
abbrev pub means_of : Option Means → List Reply → Option Means
means_of m [] = m
means_of m (r ∷ rs) = means_of (Some (means_after m r.elapsed r.size)) rs

-- what a fresh score weighs after some replies
abbrev pub weight_after : List Reply → ℕ
weight_after replies = weight_of (means_of None replies)

abbrev pub share : ℕ → Share
share n = record { weight = n; aside = false }

-- three peers of weights 1001, 0 and 3
abbrev pub three : List Share
three = share 1001 ∷ share 0 ∷ share 3 ∷ []

abbrev pub Cases : Type 0
Cases =
    (weight_after (reply 1000000000 1000 ∷ []) ≡ 1001)
    × (weight_after (reply 1000000000 1000 ∷ reply 3000000000 0 ∷ []) ≡ 251)
    × (weight_after (reply 500000000 1 ∷ reply 500000000 0 ∷ []) ≡ 2)
    × (weight_after (reply 0 1 ∷ []) ≡ 1000000001)
    × (pick three 0 (listed (5 ∷ 1001 ∷ []) 0) ≡ Some 2)
    × (pick three 0 (listed (5 ∷ 1000 ∷ []) 0) ≡ Some 0)
    × (pick three 4 (listed (6 ∷ 1 ∷ []) 0) ≡ Some 2)
