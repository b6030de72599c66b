use Rattle.std.proofs.Common.{◌≡◌, ◌+◌, ◌%◌, ◌^◌, ◌<◌, true, length, get_or, Some, None, sym, refl, ap, ◌∙◌, subst, arith, rules}
use Rattle.std.specs.List.{slice_get}
use Rattle.std.proofs.lemmas.Option.{slice_get_read}
use Rattle.draw.specs.declared.rows.By.TheVariants.{Head}
use Rattle.draw.specs.Rows.{all_back, total, without}
use Rattle.draw.proofs.Picks.{heft_same}
use Rattle.link.specs.declared.words.Word.TheVariants.{Take, Closed, Wait}
use Rattle.link.specs.declared.words.Message.{Message}
use Rattle.tables.specs.Tables.{tab_of}
use Rattle.model.specs.Fetches.{aims}
use Rattle.model.specs.Tries.{rows_for, missed, try_rows}
use Rattle.model.proofs.Outs.{back_length}
use Rattle.model.proofs.Firsts.{back_rows}
use Rattle.model.proofs.Steps.{closed_is, words_none, rows_none, rows_wait, rows_refuse, rows_take, keys_end, keys_late, keys_miss, keys_sent, fetched_is, carried_none, carried_some, unused_none, unused_some, same_word}
use Rattle.walk.proofs.tries.walk.Goals as goal
use Rattle.walk.proofs.tries.walk.Goals.{else-keys-test, then-keys-test+else-row-time+in-Some+in-Ok+then-send}

pub keys-preserved-then-row-time : goal.keys-preserved-then-row-time
keys-preserved-then-row-time g c = (
  c.keys.invariant.0,
  c.keys.invariant.1,
  c.keys.invariant.2,
  keys_late (g.L.Link.word c.args.link.now) c.args.time c.args.peers.now (tab_of c.args.out.now.table).rows (aims g.P.Ordered g.K.Ordered (tab_of c.args.targets.now.table).rows) c.args.shares.now
      c.args.queue.now c.keys.row-index (g.D.DrawSource.ahead c.keys.source) c.keys.next c.keys.late c.keys.wait c.keys.allowed
      c.row-item.result c.keys-test.true c.row-item.is c.min-late.result c.if-row-time.true c.min-late.ensures
      ∙ c.keys.invariant.3,
)

pub allow-requires : goal.allow-requires
allow-requires g c = c.requires.same ∙ ap length (sym c.keys.invariant.0)

pub peers-init : goal.peers-init
peers-init g c =
    let xs = c.new-selection.result.shares.now in
    let aim = aims g.P.Ordered g.K.Ordered (tab_of c.args.targets.now.table).rows in
    let back : all_back xs ≡ all_back c.args.shares.now =
    ap all_back (c.new-selection.ensures.rows ∙ c.allow.ensures) ∙ back_rows (aim c.row-item.result.key) c.row-item.result.aimed c.args.peers.now c.keys.shares ∙ ap all_back c.keys.invariant.0 in
    (refl, refl, refl, refl, omega (arith, heft_same xs c.args.shares.now back, c.requires.fits), back_length xs c.args.shares.now back ∙ sym c.requires.same, refl)

pub next-requires : goal.next-requires
next-requires g c = c.peers.invariant.4

pub offset_bounds-peers-place : goal.offset_bounds-peers-place
offset_bounds-peers-place g c = omega (arith, c.in-Some.ensures.fewer.0, c.peers.invariant.5)

pub bounds-peers-place : goal.bounds-peers-place
bounds-peers-place g c = omega (arith, c.in-Some.ensures.fewer.0, c.peers.invariant.5)

pub peers-preserved-in-Err : goal.peers-preserved-in-Err
peers-preserved-in-Err g c =
    let e = c.in-Some.ensures in
    let xs = c.peers.selection.shares.now in
    let p = c.in-Some.place in
    let row = get_or c.args.peers.now p c.index-peers-place.result in
    let peer = row.peer in
    let fewer : total Head (without xs p) + 1 ≡ total Head xs = ap (λ l. total Head l + 1) (sym e.rows) ∙ e.fewer.1 in
    let lt : p < length c.args.peers.now = omega (arith, e.fewer.0, c.peers.invariant.5) in
    let at : slice_get c.args.peers.now p ≡ Some row = slice_get_read c.args.peers.now (length c.args.peers.now) p c.index-peers-place.result refl lt c.index-peers-place.is ∙ ap Some c.index-peers-place.is in
    let v : g.L.Link.word c.keys.link peer c.args.time ≡ Wait c.in-Err.until =
    ap (λ l. g.L.Link.word l peer c.args.time) (sym c.peers.invariant.2) ∙ c.in-Err.ensures in (
      e.lender ∙ c.peers.invariant.0,
      e.back ∙ c.peers.invariant.1,
      c.peers.invariant.2,
      c.peers.invariant.3,
      omega (arith, e.weight, c.peers.invariant.4),
      back_length c.next.new.self.shares.now xs e.back ∙ c.peers.invariant.5,
      rows_wait (g.L.Link.word c.keys.link) c.args.time c.args.peers.now (tab_of c.args.out.now.table).rows xs c.row-item.result.retries (g.D.DrawSource.ahead c.peers.source) c.peers.next c.peers.wait c.peers.allowed
          p row e.place fewer at c.next.new.self.shares.now (g.D.DrawSource.ahead c.next.new.source) c.sooner-wait.result c.in-Err.until v e.rows e.words c.sooner-wait.ensures
          ∙ c.peers.invariant.6,
    )

pub peers-preserved : goal.peers-preserved
peers-preserved g c =
    let e = c.in-Some.ensures in
    let xs = c.peers.selection.shares.now in
    let p = c.in-Some.place in
    let row = get_or c.args.peers.now p c.index-peers-place.result in
    let peer = row.peer in
    let fewer : total Head (without xs p) + 1 ≡ total Head xs = ap (λ l. total Head l + 1) (sym e.rows) ∙ e.fewer.1 in
    let lt : p < length c.args.peers.now = omega (arith, e.fewer.0, c.peers.invariant.5) in
    let at : slice_get c.args.peers.now p ≡ Some row = slice_get_read c.args.peers.now (length c.args.peers.now) p c.index-peers-place.result refl lt c.index-peers-place.is ∙ ap Some c.index-peers-place.is in
    let t = c.in-Ok.ensures in
    let f = c.if-send.ensures in
    let s : g.L.Link.word c.peers.link c.in-Ok.pass.peer c.in-Ok.pass.time ≡ g.L.Link.word c.peers.link peer c.args.time =
    same_word g.L.Link.word c.peers.link c.peers.link c.in-Ok.pass.peer peer c.in-Ok.pass.time c.args.time refl t.0 t.1 in
    let v : g.L.Link.word c.keys.link peer c.args.time ≡ Closed =
    ap (λ l. g.L.Link.word l peer c.args.time) (sym c.peers.invariant.2) ∙ closed_is (g.L.Link.word c.peers.link peer c.args.time) t.2 (λ q. f.0 (s ∙ q)) in (
      e.lender ∙ c.peers.invariant.0,
      e.back ∙ c.peers.invariant.1,
      f.1 ∙ c.peers.invariant.2,
      c.peers.invariant.3,
      omega (arith, e.weight, c.peers.invariant.4),
      back_length c.next.new.self.shares.now xs e.back ∙ c.peers.invariant.5,
      rows_refuse (g.L.Link.word c.keys.link) c.args.time c.args.peers.now (tab_of c.args.out.now.table).rows xs c.row-item.result.retries (g.D.DrawSource.ahead c.peers.source) c.peers.next c.peers.wait c.peers.allowed
          p row e.place fewer at c.next.new.self.shares.now (g.D.DrawSource.ahead c.next.new.source) (g.D.DrawSource.ahead c.take_id-id.new.source) c.take_id-id.new.next v e.rows e.words
          c.take_id-id.ensures.words c.take_id-id.ensures.next
          ∙ c.peers.invariant.6,
    )

pub keys-preserved : goal.keys-preserved
keys-preserved g c =
    let e = c.in_default.ensures in
    let xs = c.peers.selection.shares.now in
    let aim = aims g.P.Ordered g.K.Ordered (tab_of c.args.targets.now.table).rows in
    let allowed : c.new-selection.result.shares.now ≡ rows_for c.row-item.result.aimed (aim c.row-item.result.key) c.args.peers.now c.args.shares.now =
    c.new-selection.ensures.rows ∙ c.allow.ensures ∙ ap (rows_for c.row-item.result.aimed (aim c.row-item.result.key) c.args.peers.now) c.keys.invariant.0 in
    let back : all_back c.next.new.self.shares.now ≡ c.args.shares.now =
    e.back ∙ c.peers.invariant.1 ∙ ap all_back allowed ∙ back_rows (aim c.row-item.result.key) c.row-item.result.aimed c.args.peers.now c.args.shares.now ∙ c.requires.whole in
    let tried : try_rows (g.L.Link.word c.args.link.now) c.args.time c.args.peers.now (tab_of c.args.out.now.table).rows xs c.row-item.result.retries (g.D.DrawSource.ahead c.peers.source) c.peers.next c.peers.wait c.peers.allowed
    ≡ try_rows (g.L.Link.word c.args.link.now) c.args.time c.args.peers.now (tab_of c.args.out.now.table).rows c.new-selection.result.shares.now c.row-item.result.retries (g.D.DrawSource.ahead c.keys.source) c.keys.next c.keys.wait c.keys.allowed =
    subst (λ l. try_rows (g.L.Link.word l) c.args.time c.args.peers.now (tab_of c.args.out.now.table).rows xs c.row-item.result.retries (g.D.DrawSource.ahead c.peers.source) c.peers.next c.peers.wait c.peers.allowed
    ≡ try_rows (g.L.Link.word l) c.args.time c.args.peers.now (tab_of c.args.out.now.table).rows c.new-selection.result.shares.now c.row-item.result.retries (g.D.DrawSource.ahead c.keys.source) c.keys.next c.keys.wait c.keys.allowed) c.keys.invariant.1 c.peers.invariant.6 in
    let lend = e.lender ∙ c.peers.invariant.0 ∙ c.new-selection.ensures.lender in
    let last = c.drop-selection-in-keys.ensures ∙ back in (
      search rules,
      c.peers.invariant.2 ∙ c.keys.invariant.1,
      c.peers.invariant.3 ∙ c.keys.invariant.2,
      keys_miss (g.L.Link.word c.args.link.now) c.args.time c.args.peers.now (tab_of c.args.out.now.table).rows (aims g.P.Ordered g.K.Ordered (tab_of c.args.targets.now.table).rows) c.args.shares.now
          c.args.queue.now c.keys.row-index (g.D.DrawSource.ahead c.keys.source) c.keys.next c.keys.late c.keys.wait c.keys.allowed
          c.row-item.result c.keys-test.true c.row-item.is c.if-row-time.false c.new-selection.result.shares.now allowed
          (g.D.DrawSource.ahead c.next.new.source) c.peers.next c.peers.wait c.peers.allowed
          (sym tried ∙ rows_none (g.L.Link.word c.args.link.now) c.args.time c.args.peers.now (tab_of c.args.out.now.table).rows xs c.row-item.result.retries (g.D.DrawSource.ahead c.peers.source) c.peers.next c.peers.wait c.peers.allowed e.fewer
          ∙ ap (λ z. missed (g.L.Link.word c.args.link.now) c.args.time c.args.peers.now (tab_of c.args.out.now.table).rows z c.peers.next c.peers.wait c.peers.allowed)
          (sym (e.words ∙ words_none xs c.row-item.result.retries (g.D.DrawSource.ahead c.peers.source) e.fewer)))
          ∙ c.keys.invariant.3,
    )

pub returns : goal.returns
returns g c =
    let word = g.L.Link.word c.args.link.now in
    let aim = aims g.P.Ordered g.K.Ordered (tab_of c.args.targets.now.table).rows in
    elim c.keys-test.branch [
      | else-keys-test w ↦ record {
        shares = w.shares-is ∙ c.keys.invariant.0;
        told = fetched_is c.keys-test.sent None (g.D.DrawSource.ahead c.keys-test.source) (g.D.DrawSource.ahead c.keys.source) c.keys-test.next c.keys.next c.keys.late c.keys-test.wait c.keys.wait c.keys-test.allowed c.keys.allowed
            (w.sent-is ∙ c.keys.invariant.2) (ap g.D.DrawSource.ahead w.source-is) w.next-is w.wait-is w.allowed-is
            ∙ sym (keys_end word c.args.time c.args.peers.now (tab_of c.args.out.now.table).rows aim c.args.shares.now
            c.args.queue.now c.keys.row-index (g.D.DrawSource.ahead c.keys.source) c.keys.next c.keys.late c.keys.wait c.keys.allowed w.keys-test.false)
            ∙ c.keys.invariant.3;
        unused = unused_none (tab_of c.args.out.now.table).rows c.keys-test.sent (w.sent-is ∙ c.keys.invariant.2);
        link = carried_none g.L.Link.count g.L.Link.latest c.args.link.now c.keys-test.link c.keys-test.sent (w.sent-is ∙ c.keys.invariant.2) (w.link-is ∙ c.keys.invariant.1);
      }
      | then-keys-test+else-row-time+in-Some+in-Ok+then-send w ↦
          let e = w.in-Some.ensures in
          let xs = w.peers.selection.shares.now in
          let p = w.in-Some.place in
          let row = get_or c.args.peers.now p w.index-peers-place.result in
          let peer = row.peer in
          let fewer : total Head (without xs p) + 1 ≡ total Head xs = ap (λ l. total Head l + 1) (sym e.rows) ∙ e.fewer.1 in
          let lt : p < length c.args.peers.now = omega (arith, e.fewer.0, w.peers.invariant.5) in
          let at : slice_get c.args.peers.now p ≡ Some row = slice_get_read c.args.peers.now (length c.args.peers.now) p w.index-peers-place.result refl lt w.index-peers-place.is ∙ ap Some w.index-peers-place.is in
          let t = w.in-Ok.ensures in
          let f = w.if-send.ensures in
          let l : w.peers.link ≡ c.args.link.now = w.peers.invariant.2 ∙ c.keys.invariant.1 in
          let v : word peer c.args.time ≡ Take =
          sym (same_word g.L.Link.word w.peers.link c.args.link.now w.in-Ok.pass.peer peer w.in-Ok.pass.time c.args.time l t.0 t.1) ∙ f.0 in
          let allowed : w.new-selection.result.shares.now ≡ rows_for w.row-item.result.aimed (aim w.row-item.result.key) c.args.peers.now c.args.shares.now =
          w.new-selection.ensures.rows ∙ w.allow.ensures ∙ ap (rows_for w.row-item.result.aimed (aim w.row-item.result.key) c.args.peers.now) c.keys.invariant.0 in
          let back : all_back w.next.new.self.shares.now ≡ c.args.shares.now =
          e.back ∙ w.peers.invariant.1 ∙ ap all_back allowed ∙ back_rows (aim w.row-item.result.key) w.row-item.result.aimed c.args.peers.now c.args.shares.now ∙ c.requires.whole in
          let tried : try_rows word c.args.time c.args.peers.now (tab_of c.args.out.now.table).rows xs w.row-item.result.retries (g.D.DrawSource.ahead w.peers.source) w.peers.next w.peers.wait w.peers.allowed
          ≡ try_rows word c.args.time c.args.peers.now (tab_of c.args.out.now.table).rows w.new-selection.result.shares.now w.row-item.result.retries (g.D.DrawSource.ahead c.keys.source) c.keys.next c.keys.wait c.keys.allowed =
          subst (λ l. try_rows (g.L.Link.word l) c.args.time c.args.peers.now (tab_of c.args.out.now.table).rows xs w.row-item.result.retries (g.D.DrawSource.ahead w.peers.source) w.peers.next w.peers.wait w.peers.allowed
          ≡ try_rows (g.L.Link.word l) c.args.time c.args.peers.now (tab_of c.args.out.now.table).rows w.new-selection.result.shares.now w.row-item.result.retries (g.D.DrawSource.ahead c.keys.source) c.keys.next c.keys.wait c.keys.allowed) c.keys.invariant.1 w.peers.invariant.6 in
          let took = rows_take word c.args.time c.args.peers.now (tab_of c.args.out.now.table).rows xs w.row-item.result.retries (g.D.DrawSource.ahead w.peers.source) w.peers.next w.peers.wait w.peers.allowed
          p row e.place fewer at (g.D.DrawSource.ahead w.next.new.source) (g.D.DrawSource.ahead w.take_id-id.new.source) w.take_id-id.new.next w.take_id-id.result v e.words
          w.take_id-id.ensures.words w.take_id-id.ensures.next w.take_id-id.ensures.value in
          let lend = e.lender ∙ w.peers.invariant.0 ∙ w.new-selection.ensures.lender in
          let last = w.drop-selection.ensures ∙ back in
          let message : Message g.row.P.Denot g.row.K.Denot = record { id = w.take_id-id.result; peer = peer; key = w.row-item.result.key } in
          record {
            shares = search rules;
            told = fetched_is c.keys-test.sent (Some message) (g.D.DrawSource.ahead c.keys-test.source) (g.D.DrawSource.ahead w.take_id-id.new.source) c.keys-test.next w.take_id-id.new.next c.keys.late c.keys-test.wait w.peers.wait c.keys-test.allowed true
                w.sent-is (ap g.D.DrawSource.ahead w.source-is) w.next-is w.wait-is w.allowed-is
                ∙ sym (keys_sent word c.args.time c.args.peers.now (tab_of c.args.out.now.table).rows aim c.args.shares.now
                c.args.queue.now c.keys.row-index (g.D.DrawSource.ahead c.keys.source) c.keys.next c.keys.late c.keys.wait c.keys.allowed
                w.row-item.result w.keys-test.true w.row-item.is w.if-row-time.false w.new-selection.result.shares.now allowed
                (g.D.DrawSource.ahead w.take_id-id.new.source) w.take_id-id.new.next w.peers.wait true w.take_id-id.result peer (sym tried ∙ took))
                ∙ c.keys.invariant.3;
            unused = unused_some (tab_of c.args.out.now.table).rows c.keys-test.sent message w.sent-is w.take_id-id.ensures.unused;
            link = carried_some g.L.Link.count g.L.Link.latest c.args.link.now c.keys-test.link c.keys-test.sent message w.sent-is
                (ap g.L.Link.count w.link-is ∙ f.1 ∙ ap (λ m. (g.L.Link.count m + 1) % 2 ^ 64) l)
                (ap g.L.Link.latest w.link-is ∙ f.2 ∙ ap (λ q. Some (record { id = w.take_id-id.result; peer = q; key = w.row-item.result.key })) t.0);
          }
    ]
