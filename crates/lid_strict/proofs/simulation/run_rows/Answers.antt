use Rattle.std.proofs.Common.{◌≡◌, [], ◌<◌, ◌++◌, ◌∷◌, Bool, List, length, map, get_or, refl, sym, ◌∙◌, ap, arith}
use Rattle.std.proofs.lemmas.List.{length-map}
use Rattle.lid_strict_engine.specs.Rows.{bit_at}
use Rattle.lid_strict.specs.Networks.{rows_at}
use Rattle.lid_strict.proofs.Running.{runs_next}
use Rattle.lid_strict.proofs.simulation.run_rows.Goals as goal

pub loop-t-init : goal.loop-t-init
loop-t-init g c = (
  ap (λ (bs : List Bool). length bs) c.requires.state ∙ c.requires.runnable.begun,
  c.requires.inputs,
  c.requires.bits,
  c.requires.out,
  refl,
  record { given = []; run = λ b fits. (c.requires.state, refl); held = c.requires.none },
)

pub loop-t-preserved : goal.loop-t-preserved
loop-t-preserved g c =
    let p = c.args.run.now.layout.now in
    let outs = c.args.run.now.outs.now in
    let rows = g.R.RowSource.rows c.args.run.now.rows.now in
    let t = c.loop-t.t in
    let row = get_or rows t [] in
    let h : t < length rows = omega (arith, c.loop-t-test.true, c.count-t-end.ensures) in
    let new = c.run_row.new in
    let is = c.run_row.ensures in
    let before = c.loop-t.invariant.5 in
    let read = c.read_row.ensures ∙ ap (map (bit_at row)) c.as_slice.ensures.value in (
      is.state_size,
      ap (λ (bs : List Bool). length bs) read ∙ length-map p.places.items (bit_at row),
      is.bits_size,
      ap (λ (bs : List Bool). length bs) c.pick.ensures ∙ length-map outs (bit_at new.bits),
      c.in_ok-push.ensures.form ∙ c.loop-t.invariant.4,
      record {
        given = before.given ++ c.pick.new.into ∷ [];
        run = runs_next p outs rows t c.loop-t.state new.state new.bits row c.pick.new.into before.given c.requires.runnable.settled c.requires.outs h refl before.run is.state (λ f fits. is.bits row f read fits) c.pick.ensures;
        held = c.in_ok-push.ensures.has before.given before.held;
      },
    )

pub push-requires : goal.push-requires
push-requires g c =
    ap (λ (bs : List Bool). length bs) c.pick.ensures ∙ length-map c.args.run.now.outs.now (bit_at c.run_row.new.bits) ∙ sym (ap g.W.RowStore.width c.loop-t.invariant.4 ∙ c.requires.width)

pub returns-clause-form : goal.returns-clause-form
returns-clause-form g c = c.loop-t.invariant.4

pub returns-clause-rows : goal.returns-clause-rows
returns-clause-rows g c =
    let rows = g.R.RowSource.rows c.args.run.now.rows.now in
    let all : c.loop-t.t ≡ length rows = omega (arith, c.loop-t-test.false, c.loop-t.auto.t-end, c.count-t-end.ensures) in
    let done = c.loop-t.invariant.5 in
    record {
      given = done.given;
      each = λ b fits. (done.run b fits).1 ∙ ap (rows_at c.args.run.now.outs.now b) all;
      held = done.held;
    }
