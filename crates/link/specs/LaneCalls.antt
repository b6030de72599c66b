-- What the calls of a lane link leave.
use Rattle.std.specs.Prelude.{◌≡◌, ℕ, ◌<◌, ◌≤◌, Bool, true, false, replicate, Some, None, Ok, Err, Result, slice_set}
use Rattle.kinds.specs.declared.station.Station.{Station}
use Rattle.link.specs.declared.words.Word.{Word}
use Rattle.link.specs.declared.lane.Refusal.{Refusal}
use Rattle.link.specs.declared.lane.Refusal.TheVariants.{Spacing}
use Rattle.link.specs.declared.lanes.Lanes.{Lanes}
use Rattle.link.specs.Lanes.{Lane, most_spacing, lane_of, lane_word, free_after}

-- the number of each refusal
abbrev pub number_of : Refusal → ℕ
number_of Spacing = 1

-- new lanes: all free from 0 on, nothing taken; refused with 1 where the spacing is too long
abbrev pub Opened : {K : Type 0} → ℕ → Result (Lanes K) Refusal → Type 0
Opened spacing (Ok l) =
    (spacing ≤ most_spacing) × (l.lanes ≡ replicate 256 (Some 0)) × (l.spacing ≡ spacing) × (l.tally.count ≡ 0) × (l.tally.latest ≡ None)
Opened spacing (Err e) = (most_spacing < spacing) × (number_of e ≡ 1)

module _ {K : Type 0} where
  -- the word for a station at a time
  abbrev pub station_word : Lanes K → Station → ℕ → Word
  station_word l p time = lane_word (lane_of l.lanes p.0) time

  -- the lane of a station becomes another, and nothing else changes
  pub record Changed (s : ℕ) (x : Lane) (l m : Lanes K) : Type 0 where
    pub lanes : m.lanes ≡ slice_set l.lanes s x
    pub spacing : m.spacing ≡ l.spacing
    pub tally : m.tally ≡ l.tally

  -- a change by the owner that is done where it may be, else refused with nothing changed
  abbrev pub ChangedIf : Bool → ℕ → Lane → Lanes K → Lanes K → Type 0
  ChangedIf true s x l m = Changed s x l m
  ChangedIf false s x l m = m ≡ l

  -- the lanes after a send, and their spacing
  abbrev pub Passed : Bool → ℕ → ℕ → Lanes K → Lanes K → Type 0
  Passed true s time l m = (m.lanes ≡ slice_set l.lanes s (Some (free_after time l.spacing))) × (m.spacing ≡ l.spacing)
  Passed false s time l m = m ≡ l
