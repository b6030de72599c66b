-- A search by halves for the first row that does not come before a bound, where those that do stand first.
use Rattle.std.proofs.Common.{◌≡◌, ℕ, zero, suc, ◌+◌, ◌-◌, ◌<◌, ◌≤◌, Bool, false, List, length, get_or, Some, Ok, Ordering, refl, sym, ap, ◌∙◌, ⊎_elim, arith, le-ltb, lt-ltb}
use Rattle.std.specs.List.{prefix_len}
use Rattle.std.proofs.lemmas.Bool.{cases_Bool, cases_lt, true≢false}
use Rattle.std.proofs.lemmas.List.Sums.{prefix_len-le-length, prefix_len_passes}
use Rattle.tables.specs.Rows.{by, row_at, halfway, halved, place_by}
use Rattle.tables.proofs.Halving.{row_found}
use Rattle.waiting.specs.Groups.{turn, index, bound_of}

module _ {R : Type 0} (before : R → Bool) (rows : List R) where
  abbrev test : R → Ordering
  test r = turn (before r)

  -- no row behind the first ones comes before the bound
  abbrev pub Parted : Type 0
  Parted = (n : ℕ) (d : R) → prefix_len before rows ≤ n → n < length rows → before (get_or rows n d) ≡ false

  once : (n low high : ℕ) (row : R) → low < high → row_at rows (halfway low high) ≡ Some row
      → halved test rows (suc n) low high ≡ by (test row) (halved test rows n (halfway low high + 1) high) (Ok (halfway low high)) (halved test rows n low (halfway low high))
  unfolding halved
  once n low high row lt is = rw (lt-ltb low high lt, is) refl

  halved_parted : Parted → (n low high : ℕ) → high - low ≤ n → low ≤ prefix_len before rows → prefix_len before rows ≤ high → high ≤ length rows
      → index (halved test rows n low high) ≡ prefix_len before rows
  unfolding halved
  halved_parted b zero low high q l h r = omega arith
  halved_parted b (suc n) low high q l h r =
      ⊎_elim
      (λ lt.
      let f : (x : R) × (row_at rows (halfway low high) ≡ Some x) × ((d : R) → get_or rows (halfway low high) d ≡ x) = row_found rows (halfway low high) (omega arith) in
      ⊎_elim
      (λ e.
      ⊎_elim
      (λ below. ap index (once n low high f.0 lt f.1) ∙ rw e (halved_parted b n (halfway low high + 1) high (omega arith) (omega arith) h r))
      (λ behind. absurd (true≢false (sym e ∙ (ap before (sym (f.2 f.0)) ∙ b (halfway low high) f.0 behind (omega arith)))))
      (cases_lt (halfway low high) (prefix_len before rows)))
      (λ e.
      ⊎_elim
      (λ below. absurd (true≢false (sym (prefix_len_passes before rows (halfway low high) f.0 below) ∙ (ap before (f.2 f.0) ∙ e))))
      (λ behind. ap index (once n low high f.0 lt f.1) ∙ rw e (halved_parted b n low (halfway low high) (omega arith) l behind (omega arith)))
      (cases_lt (halfway low high) (prefix_len before rows)))
      (cases_Bool (before f.0)))
      (λ ge. rw (le-ltb low high ge) (omega arith))
      (cases_lt low high)

  pub bound_is : Parted → bound_of before rows ≡ prefix_len before rows
  unfolding bound_of place_by
  bound_is b = halved_parted b (length rows - 0) 0 (length rows) (omega arith) (omega arith) (prefix_len-le-length before rows) (omega arith)
