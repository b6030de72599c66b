-- What two sends to a peer come to.
use Rattle.std.specs.Prelude.{◌≡◌, ℕ, ◌+◌, ◌%◌, ◌^◌, Some, None, Option}
use Rattle.link.specs.declared.words.Word.{Word}
use Rattle.link.specs.declared.words.Word.TheVariants.{Take, Closed, Wait}
use Rattle.link.specs.declared.words.Message.{Message}
use Rattle.twice.specs.declared.outcome.Outcome.{Outcome}
use Rattle.twice.specs.declared.outcome.Outcome.TheVariants.{Neither, First, Both}

-- the word of a peer that a message was not sent to: closed, or a wait until a time
abbrev pub word_of : Option ℕ → Word
word_of None = Closed
word_of (Some until) = Wait until

module _ {L P K : Type 0} (word : L → P → ℕ → Word) (count : L → ℕ) (latest : L → Option (Message P K)) where
  -- from the link l to the link m: which messages were taken, and the word that ended it
  abbrev pub Twice : L → P → ℕ → ℕ → K → Outcome → L → Type 0
  Twice l p time id k (Neither until) m = (word l p time ≡ word_of until) × (m ≡ l)
  Twice l p time id k (First until) m =
      (word l p time ≡ Take) × (word m p time ≡ word_of until) × (count m ≡ (count l + 1) % 2 ^ 64) × (latest m ≡ Some (record { id = id; peer = p; key = k }))
  Twice l p time id k Both m =
      (word l p time ≡ Take) × (count m ≡ (count l + 2) % 2 ^ 64) × (latest m ≡ Some (record { id = (id + 1) % 2 ^ 64; peer = p; key = k }))
