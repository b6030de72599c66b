-- Orders that are total: of a kind, of numbers and of pairs.
use Rattle.std.proofs.Common.{◌≡◌, Ordering, Equal, refl, ap, ◌∙◌, subst}
use Rattle.std.specs.Cmp.{IsTotalOrder, tied_itself}
use Rattle.kinds.specs.Order.{by_number}
use Rattle.kinds.specs.declared.ordered.Ordered.{Ghosts as Order}
use Rattle.kinds.specs.Lex.{then_joined, then_equal, then_reversed, number_same, number_reflexive, number_turned, number_joined}
use Rattle.tables.specs.Rows.{Lawful, by_pair, pair}

-- a total order that tells different values apart
pub lawful : {K : Type 0} {order : K → K → Ordering} → IsTotalOrder order → ((x y : K) → order x y ≡ Equal → x ≡ y) → Lawful order
lawful t same = record { same = same; reflexive = tied_itself t; turned = λ x y. t.antisymm y x; joined = t.trans }

-- the order of a kind, by what the kind's comparisons are and what they follow
pub kind_lawful : {K : Type 0} {compare order : K → K → Ordering} → IsTotalOrder compare → ((x y : K) → compare x y ≡ order x y) → ((x y : K) → compare x y ≡ Equal → x ≡ y)
    → Lawful order
kind_lawful t compares same = subst Lawful (λ i x y. compares x y i) (lawful t same)

pub number_lawful : Lawful by_number
number_lawful = record { same = number_same; reflexive = number_reflexive; turned = number_turned; joined = number_joined }

pub pair_lawful : {K S : Type 0} (k : Order K) (s : Order S) → Lawful k.order → Lawful s.order → Lawful (by_pair k s)
pair_lawful k s a b = record {
  same = λ x y h. let t = then_equal _ _ h in let f : x.first ≡ y.first = a.same _ _ t.0 in let g : x.second ≡ y.second = b.same _ _ t.1 in ap (λ i. pair i x.second) f ∙ ap (λ j. pair y.first j) g;
  reflexive = λ x. rw (a.reflexive x.first, b.reflexive x.second) refl;
  turned = λ x y. rw (a.turned x.first y.first, b.turned x.second y.second) (then_reversed (k.order x.first y.first) (s.order x.second y.second));
  joined = λ x y z h l. then_joined k.order a.same a.joined x.first y.first z.first _ _ _ _ _ refl refl (b.joined x.second y.second z.second) h l;
}
