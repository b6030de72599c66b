-- The first row in which a closure finds something.
use Rattle.std.proofs.Common.{◌≡◌, ℕ, List, [], ◌∷◌, Some, None, Option, Bor, refl, sym, ap, ◌∙◌, subst, arith}
use Rattle.std.specs.Fn.{Mut, Called, ComputesKey}
use Rattle.std.specs.Iterator.{Yields, AlwaysYields}
use Rattle.std.specs.Iterator.Adapters.{filter_map_source, filter_map_callee, filter_map_steps}
use Rattle.std.specs.List.{FoldsTo}
use Rattle.std.specs.Option.{MatchOption, IsSome}
use Rattle.tables.specs.Scans.{first_of}
use Rattle.tables.proofs.Computed.{computes}

-- the rows come from an iterator; a closure that computes h passes over some and stops at one, or at the end
module _ {F S R A : Type 0} (steps : S → Option (Bor R) → S → Type 0) (g : Mut F (Bor R × Unit {0}) (Option A)) (h : R → Option A) where
  stops : (r : Option A) (z : R) (zs : List R) → r ≡ h z → IsSome r → r ≡ first_of h (z ∷ zs)
  unfolding first_of
  stops None z zs e i = let n : ◌≡◌ {A = ℕ} 0 1 = cc in absurd (omega arith)
  stops (Some y) z zs e i = rw (sym e) refl

  passes : (z : R) (zs : List R) → None ≡ h z → first_of h zs ≡ first_of h (z ∷ zs)
  unfolding first_of
  passes z zs e = rw (sym e) refl

  found : (xs : List (Bor R)) (all : List R) (s t u : S) (o : Option (Bor R)) (r : Option A) (f f' e : F) → AlwaysYields steps (λ y. y.now) s all → Yields steps s xs t → steps t o u
      → FoldsTo (λ p x q. Called g p (x, tt) None q) f xs f' → MatchOption o ((r ≡ None) × (e ≡ f')) (λ x. Called g f' (x, tt) r e × IsSome r) → ComputesKey g h f → r ≡ first_of h all
  unfolding first_of
  found [] [] s t u None r f f' e a y w k m c = m.0
  found [] (z ∷ zs) s t u None r f f' e a y w k m c = absurd (a.0 u (subst (λ i. steps i None u) (sym y) w))
  found [] [] s t u (Some x) r f f' e a y w k m c = absurd (a x u (subst (λ i. steps i (Some x) u) (sym y) w))
  found [] (z ∷ zs) s t u (Some x) r f f' e a y w k m c =
      let v = a.1 x u (subst (λ i. steps i (Some x) u) (sym y) w) in
      stops r z zs ((computes h (subst (ComputesKey g h) k c) m.0).0 ∙ ap h v.0) m.1
  found (x ∷ xs) [] s t u o r f f' e a y w k m c = absurd (a x y.0 y.1)
  found (x ∷ xs) (z ∷ zs) s t u o r f f' e a y w k m c =
      let v = a.1 x y.0 y.1 in
      let d = computes h c k.1 in
      found xs zs y.0 t u o r k.0 f' e v.1 y.2 w k.2 m d.1 ∙ passes z zs (d.0 ∙ ap h v.0)

  -- the first item of `filter_map`
  pub found_next : (s j : _) {r : Option A} (all : List R) → AlwaysYields steps (λ y. y.now) (filter_map_source s) all → ComputesKey g h (filter_map_callee s) → filter_map_steps steps g s r j → r ≡ first_of h all
  found_next s j {r} all a c n = found n.0 all (filter_map_source s) n.3.0 (filter_map_source j) n.1 r (filter_map_callee s) n.2 (filter_map_callee j) a n.3.1 n.3.2 n.4 n.5 c
