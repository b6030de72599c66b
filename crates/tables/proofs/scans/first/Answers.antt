use Rattle.std.proofs.Common.{sym, ◌∙◌, subst, ap}
use Rattle.std.specs.Fn.{ComputesKey}
use Rattle.std.specs.Slice.Iter.{iter_rest}
use Rattle.std.proofs.lemmas.Iterator.{YieldsList-from_slice}
use Rattle.std.proofs.lemmas.Fn.{fronts}
use Rattle.tables.proofs.Found.{found_next}
use Rattle.tables.proofs.scans.first.Goals as goal

pub returns : goal.returns
returns g c h k =
    found_next fronts g.F.FnMut h c.filter_map.result c.next.new.self c.args.rows.now (YieldsList-from_slice {s = c.filter_map.result.iter} c.args.rows.now (ap iter_rest c.filter_map.ensures.source ∙ c.iter.ensures.rest)).runs (subst (ComputesKey g.F.FnMut h) (sym c.filter_map.ensures.closure) k) c.next.ensures.steps
