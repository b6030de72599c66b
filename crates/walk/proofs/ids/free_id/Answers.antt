use Rattle.std.proofs.Common.{◌^◌, ◌<◌, length, sym, ◌∙◌, arith}
use Rattle.tables.specs.Tables.{tab_of}
use Rattle.live.specs.Requests.{id_out}
use Rattle.model.proofs.Frees.{free_stop, falls, goes_on}
use Rattle.walk.proofs.ids.free_id.Goals as goal

pub loop-free-preserved : goal.loop-free-preserved
loop-free-preserved g c =
    let rows = (tab_of c.args.keys.now.table).rows in
    let l : length rows < 2 ^ 64 = omega (arith, c.args.keys.now.table.within, c.args.keys.now.table.rows.ok.0) in
    (omega arith, goes_on rows c.loop-free.free c.loop-free.invariant.0 l (sym c.loop-free-test.ensures) ∙ c.loop-free.invariant.1)

pub loop-free-smaller : goal.loop-free-smaller
loop-free-smaller g c =
    let rows = (tab_of c.args.keys.now.table).rows in
    let l : length rows < 2 ^ 64 = omega (arith, c.args.keys.now.table.within, c.args.keys.now.table.rows.ok.0) in
    falls rows c.loop-free.free c.loop-free.invariant.0 l (sym c.loop-free-test.ensures)

pub returns : goal.returns
returns g c =
    let rows = (tab_of c.args.keys.now.table).rows in
    record {
      value = sym (free_stop (length rows) (λ i. id_out i rows) c.loop-free.free (sym c.loop-free-test.ensures)) ∙ c.loop-free.invariant.1;
      unused = sym c.loop-free-test.ensures;
    }
