-- What check and send of a link answer.
use Rattle.std.specs.Prelude.{◌≡◌, ℕ, ◌+◌, ◌%◌, ◌^◌, Bool, true, false, Some, Ok, Err, Option, Result, ◌≢◌}
use Rattle.link.specs.declared.words.Word.{Word}
use Rattle.link.specs.declared.words.Word.TheVariants.{Take, Closed, Wait}
use Rattle.link.specs.declared.words.Message.{Message}
use Rattle.link.specs.declared.pass.Pass.{Pass}

-- the word is no wait
abbrev pub NoWait : Word → Type 0
NoWait Take = Unit {0}
NoWait Closed = Unit {0}
NoWait (Wait t) = ⊥

-- what check answers at a word: a pass for this peer and this time, or the time of the wait
abbrev pub Checks : {P : Type 0} → Word → P → ℕ → Result (Pass P) ℕ → Type 0
Checks w p n (Ok s) = (s.peer ≡ p) × (s.time ≡ n) × NoWait w
Checks w p n (Err t) = w ≡ Wait t

-- the message that a pass is for
abbrev pub message_of : {P K : Type 0} → Pass P → ℕ → K → Message P K
message_of s id k = record { id = id; peer = s.peer; key = k }

-- what send answers, from the link l to the link m: accepted at take, else refused with nothing changed
abbrev pub Sends : {L P K : Type 0} → (L → P → ℕ → Word) → (L → ℕ) → (L → Option (Message P K)) → L → Pass P → ℕ → K → Bool → L → Type 0
Sends word count latest l s id k true m =
    (word l s.peer s.time ≡ Take) × (count m ≡ (count l + 1) % 2 ^ 64) × (latest m ≡ Some (message_of s id k))
Sends word count latest l s id k false m = (word l s.peer s.time ≢ Take) × (m ≡ l)
