-- One step of setting the shares aside that a key may not draw from.
use Rattle.std.proofs.Common.{◌≡◌, ℕ, suc, ◌+◌, ◌<◌, ◌≤◌, Bool, true, false, cond, List, [], ◌∷◌, length, get_or, drop, sym, refl, ap, ◌∙◌}
use Rattle.std.proofs.lemmas.List.{at_drop_more, at_drop_all}
use Rattle.std.proofs.lemmas.Bool.{cond-true, cond-false}
use Rattle.draw.specs.declared.rows.Share.{Share}
use Rattle.draw.specs.Rows.{all_back, without, nobody}
use Rattle.roster.specs.declared.row.PeerRow.{PeerRow}
use Rattle.model.specs.Tries.{stays, left_out}

pub back_length : (xs ys : List Share) → all_back xs ≡ all_back ys → length xs ≡ length ys
back_length xs ys e = sym (same xs) ∙ ap length e ∙ same ys where
  same : (zs : List Share) → length (all_back zs) ≡ length zs
  same [] = refl
  same (z ∷ zs) = ap suc (same zs)

module _ {P V : Type 0} (ok : P → Bool) (ps : List (PeerRow P V)) (i : ℕ) (xs : List Share) where
  out_at : (p : PeerRow P V) → i < length ps → p ≡ get_or ps i p → left_out ok (drop i ps) i xs ≡ left_out ok (drop (i + 1) ps) (i + 1) (cond (stays ok p (get_or xs i nobody)) xs (without xs i))
  out_at p h e =
      at_drop_more (λ qs. left_out ok qs i xs) ps i p h
      ∙ ap (λ (q : PeerRow P V). left_out ok (drop (i + 1) ps) (i + 1) (cond (stays ok q (get_or xs i nobody)) xs (without xs i))) (sym e)

  pub kept_in : (p : PeerRow P V) → i < length ps → p ≡ get_or ps i p → stays ok p (get_or xs i nobody) ≡ true → left_out ok (drop i ps) i xs ≡ left_out ok (drop (i + 1) ps) (i + 1) xs
  kept_in p h e b = out_at p h e ∙ ap (λ z. left_out ok (drop (i + 1) ps) (i + 1) z) (cond-true (stays ok p (get_or xs i nobody)) xs (without xs i) b)

  pub left_out_lem : (p : PeerRow P V) → i < length ps → p ≡ get_or ps i p → stays ok p (get_or xs i nobody) ≡ false → left_out ok (drop i ps) i xs ≡ left_out ok (drop (i + 1) ps) (i + 1) (without xs i)
  left_out_lem p h e b = out_at p h e ∙ ap (λ z. left_out ok (drop (i + 1) ps) (i + 1) z) (cond-false (stays ok p (get_or xs i nobody)) xs (without xs i) b)

  pub out_all : length ps ≤ i → left_out ok (drop i ps) i xs ≡ xs
  out_all h = at_drop_all (λ qs. left_out ok qs i xs) ps i h
