use Rattle.std.proofs.Common.{rules, tests, sym, ◌∙◌}
use Rattle.std.proofs.lemmas.Iterator.{YieldsList-from_slice, YieldsList-from_map}
use Rattle.std.proofs.lemmas.Iterator.Adapters.{option_map_id}
use Rattle.std.proofs.lemmas.Iterator.Consumers.{nth_from_yields_List, YieldsList-from_filter, YieldsList-at}
use Rattle.waiting.proofs.rows.nth_delivered.Goals as goal

pub returns : goal.returns
returns g c =
    sym (option_map_id c.nth.result)
    ∙ nth_from_yields_List c.nth.result c.nth.new.self c.args.n c.nth.ensures.ran
    (YieldsList-from_map _ (λ r. r.pair.second)
    (YieldsList-at c.map.ensures.source
    (YieldsList-from_filter _ (λ r. r.delivered) (YieldsList-at c.filter.ensures.source (YieldsList-from_slice c.args.rows.now c.iter.ensures.rest)) c.filter.ensures.closure (λ x r q k. search (rules, tests))))
    c.map.ensures.closure (λ x r q k. search rules))
