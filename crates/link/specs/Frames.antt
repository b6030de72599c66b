-- The bytes of a message.
use Rattle.std.specs.Prelude.{ℕ, ◌+◌, List, [], ◌∷◌, ◌++◌}
use Rattle.kinds.specs.Bytes.{be2, be8}
use Rattle.kinds.specs.declared.storable.Storable.{Ghosts as Form}
use Rattle.link.specs.declared.words.Message.{Message}

-- a field: its tag, its length in two bytes, and its bytes
abbrev pub field : ℕ → ℕ → List ℕ → List ℕ
field tag size bytes = (tag ∷ be2 size) ++ bytes

module _ {P K : Type 0} (p : Form P) (k : Form K) where
  -- a message: its id, its peer and its key
  abbrev pub frame : Message P K → List ℕ
  frame m = field 1 8 (be8 m.id) ++ (field 2 p.width (p.form m.peer) ++ field 3 k.width (k.form m.key))

  -- how long each message is: three heads, the id, the peer and the key
  abbrev pub frame_len : ℕ
  frame_len = (3 + 8) + ((3 + p.width) + (3 + k.width))

  -- messages one after the other
  unfoldable pub frames : List (Message P K) → List ℕ
  frames [] = []
  frames (m ∷ ms) = frame m ++ frames ms
