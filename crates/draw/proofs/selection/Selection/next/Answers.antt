use Rattle.std.proofs.Common.{◌≡◌, ◌+◌, ◌<◌, sym, ap, ◌∙◌, subst, arith, rules}
use Rattle.draw.specs.declared.rows.By.TheVariants.{Head}
use Rattle.draw.specs.Words.{drawn, rest}
use Rattle.draw.specs.Rows.{total, without, all_back, Spans}
use Rattle.draw.specs.Fits.{drawn_below}
use Rattle.draw.proofs.Picks.{left_total, some_left, pick_some, words_some, fewer_left, back_without, heft_same, running}
use Rattle.draw.proofs.selection.Selection.next.Goals as goal

pub below-x-requires : goal.below-x-requires
below-x-requires g c =
    let by = c.drawn_manner-by.result in
    let l = c.left_of-left in
    omega (
      arith,
      some_left by c.args.self.now.shares.now (omega (arith, l.ensures.heads)),
      c.by-sum.ensures,
      left_total by l.result c.args.self.now.shares.now l.ensures.weight l.ensures.heads,
    )

pub place_of-place-requires : goal.place_of-place-requires
place_of-place-requires g c =
    let by = c.drawn_manner-by.result in
    let l = c.left_of-left in
    let sum : c.by-sum.result ≡ total by c.args.self.now.shares.now =
    c.by-sum.ensures ∙ left_total by l.result c.args.self.now.shares.now l.ensures.weight l.ensures.heads in
    let some = some_left by c.args.self.now.shares.now (omega (arith, l.ensures.heads)) in
    omega (arith, sum, drawn_below c.by-sum.result (g.D.DrawSource.ahead c.drawn_manner-by.new.source) (omega (arith, sum, some)))

pub returns : goal.returns
returns g c =
    let xs = c.args.self.now.shares.now in
    let w = g.D.DrawSource.ahead c.args.source.now in
    let v = rest (c.args.retries + 4) w in
    let by = c.drawn_manner-by.result in
    let l = c.left_of-left in
    let x = c.below-x.result in
    let p = c.place_of-place.result in
    let heads : 0 < total Head xs = omega (arith, l.ensures.heads) in
    let some = some_left by xs heads in
    let first = c.drawn_manner-by.ensures.value in
    let ahead = c.drawn_manner-by.ensures.after in
    let sum : c.by-sum.result ≡ total by xs =
    c.by-sum.ensures ∙ left_total by l.result xs l.ensures.weight l.ensures.heads in
    let second : x ≡ drawn (total by xs) v =
    c.below-x.ensures.value ∙ ap (λ f. drawn c.by-sum.result f) ahead ∙ ap (λ n. drawn n v) sum in
    let within : x < total by xs = omega (arith, second, drawn_below (total by xs) v some) in
    let gone : c.set_aside.new.shares ≡ without xs p = c.set_aside.ensures in
    let same = ap all_back gone ∙ back_without xs p in
    let here : Spans by xs x p = subst (λ q. Spans by xs x q) (sym c.place_of-place.ensures.value) (running by xs x within) in
    record {
      place = pick_some xs c.args.retries w by x p heads first second c.place_of-place.ensures.value;
      rows = gone;
      words = c.below-x.ensures.after
          ∙ ap (λ f. rest c.by-sum.result f) ahead
          ∙ ap (λ n. rest n v) sum
          ∙ words_some xs c.args.retries w by heads first;
      back = same;
      weight = heft_same c.set_aside.new.shares xs same;
      fewer = (
        c.place_of-place.ensures.within,
        ap (λ ys. total Head ys + 1) gone
            ∙ fewer_left by xs x p within c.place_of-place.ensures.value c.place_of-place.ensures.within,
      );
      around = subst (λ b. Spans b xs (drawn (total b xs) v) p) first (subst (λ n. Spans by xs n p) second here);
      lender = search rules;
    }
