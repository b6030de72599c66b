use Rattle.std.proofs.Common.{◌≡◌, ◌+◌, [], ◌∷◌, ◌++◌, length, vec_items, sym, refl, ap, ◌∙◌, subst, append_assoc, append-nil, arith, rules}
use Rattle.draw.specs.declared.rows.By.TheVariants.{Head}
use Rattle.draw.specs.Rows.{heft, total, without, words_after}
use Rattle.draw.specs.Order.{order, order_words, Once}
use Rattle.draw.proofs.Picks.{heft_same, heads_length, words_none}
use Rattle.draw.proofs.Orders.{order_step, order_words_step, order_none, order_words_none, once}
use Rattle.draw.proofs.selection.draw_all.Goals as goal

pub next-requires : goal.next-requires
next-requires g c =
    omega (
      arith,
      heft_same c.loop-place.selection.shares.now c.new-selection.result.shares.now c.loop-place.invariant.1,
      ap heft c.new-selection.ensures.rows,
      c.requires.fits,
    )

pub loop-place-preserved : goal.loop-place-preserved
loop-place-preserved g c =
    let e = c.in-Some.ensures in
    let xs = c.loop-place.selection.shares.now in
    let r = c.args.retries in
    let w = g.D.DrawSource.ahead c.loop-place.source in
    let p = c.in-Some.place in
    let ys = c.next.new.self.shares.now in
    let v = g.D.DrawSource.ahead c.next.new.source in
    let fewer : total Head (without xs p) + 1 ≡ total Head xs = ap (λ l. total Head l + 1) (sym e.rows) ∙ e.fewer.1 in
    let next : order ys r v ≡ order (without xs p) r (words_after xs r w) =
    ap (λ l. order l r v) e.rows ∙ ap (λ f. order (without xs p) r f) e.words in
    let drawn : order_words ys r v ≡ order_words (without xs p) r (words_after xs r w) =
    ap (λ l. order_words l r v) e.rows ∙ ap (λ f. order_words (without xs p) r f) e.words in
    let rest = order (without xs p) r (words_after xs r w) in
    let before = vec_items c.loop-place.places in (
      e.lender ∙ c.loop-place.invariant.0,
      e.back ∙ c.loop-place.invariant.1,
      ap (λ l. l ++ order ys r v) c.push_reserved.ensures.items
          ∙ ap (λ l. (before ++ p ∷ []) ++ l) next
          ∙ append_assoc before (p ∷ []) rest
          ∙ ap (λ l. before ++ l) (sym (order_step xs r w p e.place fewer))
          ∙ c.loop-place.invariant.2,
      drawn ∙ sym (order_words_step xs r w p e.place fewer) ∙ c.loop-place.invariant.3,
      omega (arith, e.fewer.1, c.push_reserved.ensures.len, c.push_reserved.ensures.capacity, c.loop-place.invariant.4),
    )

pub loop-place-init : goal.loop-place-init
loop-place-init g c =
    (refl, refl, refl, refl, omega (arith, c.requires.room, ap length c.new-selection.ensures.rows, heads_length c.new-selection.result.shares.now))

pub returns : goal.returns
returns g c =
    let e = c.in_default.ensures in
    let xs = c.loop-place.selection.shares.now in
    let r = c.args.retries in
    let w = g.D.DrawSource.ahead c.loop-place.source in
    let v = g.D.DrawSource.ahead c.args.source.now in
    let from = c.new-selection.ensures.rows in
    let items : vec_items c.loop-place.places ≡ order c.args.shares.now r v =
    sym (append-nil (vec_items c.loop-place.places))
    ∙ ap (λ l. vec_items c.loop-place.places ++ l) (sym (order_none xs r w e.fewer))
    ∙ c.loop-place.invariant.2
    ∙ ap (λ l. l ++ order c.new-selection.result.shares.now r v) c.requires.empty
    ∙ ap (λ l. order l r v) from in
    record {
      items = items;
      once = subst (Once c.args.shares.now) (sym items) (once c.args.shares.now r v);
      words = e.words
          ∙ words_none xs r w e.fewer
          ∙ sym (order_words_none xs r w e.fewer)
          ∙ c.loop-place.invariant.3
          ∙ ap (λ l. order_words l r v) from;
      back = search rules;
    }
