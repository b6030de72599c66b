-- The draw without replacement over rows of weights.
use Rattle.std.specs.Prelude.{◌≡◌, ℕ, suc, ◌+◌, ◌<◌, ◌≤◌, true, false, cond, List, [], ◌∷◌, map, length, take, Some, None, Option, ◌==◌, nat_lt, slice_index_or, slice_set}
use Rattle.draw.specs.Words.{drawn, rest}
use Rattle.draw.specs.declared.rows.Share.{Share}
use Rattle.draw.specs.declared.rows.By.{By}
use Rattle.draw.specs.declared.rows.Left.{Left}
use Rattle.draw.specs.declared.rows.By.TheVariants.{Weight, Head}

-- what a row counts for: nothing once it is aside, else its weight, or one if it weighs anything
abbrev pub part : By → Share → ℕ
part Weight s = cond s.aside 0 s.weight
part Head s = cond s.aside 0 (cond (s.weight == 0) 0 1)

abbrev pub total : By → List Share → ℕ
total by [] = 0
total by (s ∷ ss) = part by s + total by ss

-- the count in one of the manners
abbrev pub left_by : By → Left → ℕ
left_by Weight l = l.weight
left_by Head l = l.heads

-- the first row whose running sum, from `sum` on, exceeds x
abbrev pub reach : By → ℕ → List Share → ℕ → ℕ
reach by sum [] x = 0
reach by sum (s ∷ ss) x = cond (nat_lt x (sum + part by s)) 0 (suc (reach by (sum + part by s) ss x))

-- a pick goes by weight where the first number drawn is under 4
abbrev pub manner : ℕ → By
manner n = cond (nat_lt n 4) Weight Head

abbrev pub manner_of : ℕ → (ℕ → ℕ) → By
manner_of retries w = manner (drawn (retries + 4) w)

abbrev pub choice : By → List Share → (ℕ → ℕ) → ℕ
choice by xs w = reach by 0 xs (drawn (total by xs) w)

-- the place that is picked
abbrev pub pick : List Share → ℕ → (ℕ → ℕ) → Option ℕ
pick xs retries w =
    cond (total Head xs == 0) None (Some (choice (manner_of retries w) xs (rest (retries + 4) w)))

-- the words ahead after the pick
abbrev pub words_after : List Share → ℕ → (ℕ → ℕ) → ℕ → ℕ
words_after xs retries w =
    cond (total Head xs == 0) w (rest (total (manner_of retries w) xs) (rest (retries + 4) w))

abbrev pub nobody : Share
nobody = record { weight = 0; aside = false }

-- the rows after the one at a place is set aside
abbrev pub without : List Share → ℕ → List Share
without xs p = slice_set xs p (record { weight = (slice_index_or xs p nobody).weight; aside = true })

abbrev pub rows_after : List Share → Option ℕ → List Share
rows_after xs None = xs
rows_after xs (Some p) = without xs p

-- with each pick there is one row fewer left, and none is left where nothing is picked
abbrev pub Fewer : List Share → List Share → Option ℕ → Type 0
Fewer xs ys None = total Head xs ≡ 0
Fewer xs ys (Some p) = (p < length xs) × (total Head ys + 1 ≡ total Head xs)

-- a row put back, and all of them
abbrev pub back : Share → Share
back s = record { weight = s.weight; aside = false }

abbrev pub all_back : List Share → List Share
all_back xs = map back xs

-- what all rows weigh together, aside or not
abbrev pub heft : List Share → ℕ
heft [] = 0
heft (s ∷ ss) = s.weight + heft ss

-- the row reached is the first whose running sum exceeds x
abbrev pub Spans : By → List Share → ℕ → ℕ → Type 0
Spans by xs x p = (p < length xs) × (total by (take p xs) ≤ x) × (x < total by (take (suc p) xs))

-- what was picked lies where its running sum first exceeds the number drawn; nothing is picked where no row is left
abbrev pub Around : List Share → ℕ → (ℕ → ℕ) → Option ℕ → Type 0
Around xs retries w None = total Head xs ≡ 0
Around xs retries w (Some p) =
    Spans (manner_of retries w) xs (drawn (total (manner_of retries w) xs) (rest (retries + 4) w)) p
