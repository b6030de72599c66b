-- One step of the search for a free number.
use Rattle.std.proofs.Common.{◌≡◌, ℕ, zero, suc, ◌+◌, ◌<◌, true, false, List, is_some, Some, None, refl, ap, arith}
use Rattle.trackers.specs.declared.slips.SlipRow.{SlipRow}
use Rattle.trackers.specs.Slips.{slip_row, number_after, free_from}

module _ {K P : Type 0} (most : ℕ) (rows : List (SlipRow K P)) where
  pub free_here : (steps n : ℕ) → 0 < steps → is_some (slip_row n rows) ≡ false → free_from most rows steps n ≡ Some n
  unfolding free_from
  free_here zero n l e = absurd (omega arith)
  free_here (suc steps) n l e = rw e refl

  pub free_next : (steps rest n : ℕ) → steps ≡ rest + 1 → is_some (slip_row n rows) ≡ true → free_from most rows steps n ≡ free_from most rows rest (number_after most n)
  unfolding free_from
  free_next zero rest n l e = absurd (omega arith)
  free_next (suc steps) rest n l e = rw e (ap (λ s. free_from most rows s (number_after most n)) (omega arith))

  pub free_end : (steps n : ℕ) → steps ≡ 0 → free_from most rows steps n ≡ None
  unfolding free_from
  free_end zero n e = refl
  free_end (suc steps) n e = absurd (omega arith)
