-- Words are below 2 ^ 64, and what the rows ahead are after a word.
use Rattle.std.specs.Prelude.{◌≡◌, ℕ, zero, suc, ◌+◌, ◌*◌, ◌/◌, ◌%◌, ◌^◌, ◌<◌, ◌≤◌, List, length, slice_index}
use Rattle.std.proofs.Common.{sym, ap, ◌∙◌, arith, mod-lt, lit<}
use Rattle.std.proofs.Math.Path.{fun_ext}
use Rattle.std.proofs.lemmas.Nat.{xor_lt, shr_le}
use Rattle.std.proofs.lemmas.List.{get_or_past}
use Rattle.draw.specs.Words.{later, drawn, listed, left, right, stepped, states}

left_fits : (by s : ℕ) → s < 2 ^ 64 → left by s < 2 ^ 64
left_fits by s h = xor_lt 64 s (s * 2 ^ by % 2 ^ 64) h (mod-lt (s * 2 ^ by) (lit< tt))

right_fits : (by s : ℕ) → s < 2 ^ 64 → right by s < 2 ^ 64
right_fits by s h = xor_lt 64 s (s / 2 ^ by) h (omega (arith, shr_le s by))

pub stepped_fits : (s : ℕ) → s < 2 ^ 64 → stepped s < 2 ^ 64
stepped_fits s h = left_fits 17 (right 7 (left 13 s)) (right_fits 7 (left 13 s) (left_fits 13 s h))

pub states_fit : (k s : ℕ) → s < 2 ^ 64 → states s k < 2 ^ 64
states_fit zero s h = stepped_fits s h
states_fit (suc k) s h = states_fit k (stepped s) (stepped_fits s h)

pub listed_later : (ws : List ℕ) (at : ℕ) → listed ws (at + 1) ≡ later (listed ws at)
listed_later ws at =
    fun_ext (λ k. ap (λ n. slice_index ws n % 2 ^ 64) (let e : at + 1 + k ≡ at + suc k = omega arith in e))

pub listed_over : (ws : List ℕ) (at : ℕ) → length ws ≤ at → listed ws at ≡ later (listed ws at)
listed_over ws at h =
    fun_ext
    (λ k. let a : length ws ≤ at + k = omega arith in
    let b : length ws ≤ at + suc k = omega arith in
    ap (λ n. n % 2 ^ 64) (get_or_past ws (at + k) 0 a ∙ sym (get_or_past ws (at + suc k) 0 b)))

pub listed_none : (ws : List ℕ) (at : ℕ) → length ws ≤ at → 0 ≡ listed ws at 0
listed_none ws at h = let a : length ws ≤ at + 0 = omega arith in sym (ap (λ n. n % 2 ^ 64) (get_or_past ws (at + 0) 0 a))

pub drawn_below : (n : ℕ) (w : ℕ → ℕ) → 0 < n → drawn n w < n
drawn_below n w h = mod-lt (w 0) h
