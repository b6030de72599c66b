-- The lanes to the stations from 0 to 255, and their words.
use Rattle.std.specs.Prelude.{ℕ, ◌+◌, ◌-◌, ◌^◌, ◌<◌, min, cond, List, Some, None, Option, nat_le, slice_index_or}
use Rattle.link.specs.declared.words.Word.{Word}
use Rattle.link.specs.declared.words.Word.TheVariants.{Take, Closed, Wait}

-- a lane: the time from which it is free, and none while it is closed
abbrev pub Lane : Type 0
Lane = Option ℕ

-- the longest spacing
abbrev pub most_spacing : ℕ
most_spacing = 3600000000000

-- the time from which a lane is free
abbrev pub free_from : Lane → ℕ
free_from None = 0
free_from (Some t) = t

-- the lane of a station: past the lanes it is closed
abbrev pub lane_of : List Lane → ℕ → Lane
lane_of lanes s = slice_index_or lanes s None

-- each lane is free from a time below 2^63 on
abbrev pub InTime : List Lane → Type 0
InTime lanes = (s : ℕ) → free_from (lane_of lanes s) < 2 ^ 63

-- a lane that is not closed has a station below 256
abbrev pub Within : ℕ → Lane → Type 0
Within s None = Unit {0}
Within s (Some t) = s < 256

-- the word of a lane at a time
abbrev pub lane_word : Lane → ℕ → Word
lane_word None time = Closed
lane_word (Some t) time = cond (nat_le t time) Take (Wait t)

-- when a lane is free again after a send: the spacing later, and by the last time that a lane can have
abbrev pub free_after : ℕ → ℕ → ℕ
free_after time spacing = min (time + spacing) (2 ^ 63 - 1)
