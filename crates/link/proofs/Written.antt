-- How long a frame is, and what an outbox holds after sends in a row.
use Rattle.std.proofs.Common.{◌≡◌, ℕ, ◌+◌, ◌%◌, ◌^◌, Bool, true, false, cond, List, [], ◌∷◌, ◌++◌, length, sym, ap, ◌∙◌, append_assoc, append-nil, arith, length-append}
use Rattle.kinds.specs.declared.storable.Storable.{Ghosts as Form}
use Rattle.link.specs.declared.words.Message.{Message}
use Rattle.link.specs.declared.outbox.Outbox.{Outbox}
use Rattle.link.specs.Frames.{frame, frame_len, frames}
use Rattle.link.specs.Boxes.{bytes_of, Try, taken, last_of, Empty, Step, Run, HoldsTaken}

module _ {P K : Type 0} (p : Form P) (k : Form K) where
  -- a frame is as long as the widths of its kinds say
  pub frame_length : (m : Message P K) → length (p.form m.peer) ≡ p.width → length (k.form m.key) ≡ k.width → length (frame p k m) ≡ frame_len p k
  frame_length m e f = simp length-append (omega arith)

  -- what sends in a row add to an outbox that has taken c messages so far
  pub record Added (o : Outbox P K) (c : ℕ) (ms : List (Message P K)) (n : Outbox P K) : Type 0 where
    pub bytes : bytes_of n ≡ bytes_of o ++ frames p k ms
    pub count : n.tally.count ≡ (c + length ms) % 2 ^ 64
    pub latest : n.tally.latest ≡ last_of o.tally.latest ms

  counted : (a b c : ℕ) → a ≡ c % 2 ^ 64 → b ≡ (a + 1) % 2 ^ 64 → b ≡ (c + 1) % 2 ^ 64
  counted a b c e f = omega arith

  -- one send more in front
  added_more : (accepted : Bool) (o m n : Outbox P K) (c : ℕ) (x : Message P K) (ms : List (Message P K))
      → Step p k o x accepted m → Added m (c + cond accepted 1 0) ms n → Added o c (cond accepted (x ∷ ms) ms) n
  unfolding frames last_of
  added_more true o m n c x ms s a = record {
    bytes = a.bytes ∙ ap (λ ys. ys ++ frames p k ms) s.bytes ∙ append_assoc (bytes_of o) (frame p k x) (frames p k ms);
    count = a.count ∙ ap (λ y. y % 2 ^ 64) (omega arith);
    latest = a.latest ∙ ap (λ y. last_of y ms) s.latest;
  }
  added_more false o m n c x ms s a = record {
    bytes = a.bytes ∙ ap (λ ys. ys ++ frames p k ms) s.bytes;
    count = a.count ∙ ap (λ y. y % 2 ^ 64) (omega arith);
    latest = a.latest ∙ ap (λ y. last_of y ms) s.latest;
  }

  -- how many were taken after it
  count_more : (accepted : Bool) (o m : Outbox P K) (c : ℕ) (x : Message P K) → o.tally.count ≡ c % 2 ^ 64
      → Step p k o x accepted m → m.tally.count ≡ (c + cond accepted 1 0) % 2 ^ 64
  count_more true o m c x e s = counted o.tally.count m.tally.count c e s.count
  count_more false o m c x e s = s.count ∙ e ∙ ap (λ y. y % 2 ^ 64) (omega arith)

  -- all of them
  pub added : (ts : List (Try P K)) (o n : Outbox P K) (c : ℕ) → o.tally.count ≡ c % 2 ^ 64 → Run p k o ts n → Added o c (taken ts) n
  unfolding Run taken frames last_of
  added [] o n c e r = record {
    bytes = ap bytes_of r ∙ sym (append-nil (bytes_of o));
    count = ap (λ y. y.tally.count) r ∙ e ∙ ap (λ y. y % 2 ^ 64) (omega arith);
    latest = ap (λ y. y.tally.latest) r;
  }
  added (t ∷ ts) o n c e r =
      added_more t.accepted o r.0 n c t.message (taken ts) r.1
      (added ts r.0 n (c + cond t.accepted 1 0) (count_more t.accepted o r.0 c t.message e r.1) r.2)

  -- an outbox that was empty holds what it took since
  pub holds_taken : (most : ℕ) (o : Outbox P K) → Empty most o → HoldsTaken p k o
  holds_taken most o e ts n r =
      let a = added ts o n 0 e.count r in record {
        bytes = a.bytes ∙ ap (λ ys. ys ++ frames p k (taken ts)) e.bytes;
        count = a.count ∙ ap (λ y. y % 2 ^ 64) (omega arith);
        latest = a.latest ∙ ap (λ y. last_of y (taken ts)) e.latest;
      }
