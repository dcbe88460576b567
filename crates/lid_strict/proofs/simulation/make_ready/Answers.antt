use Rattle.std.proofs.Common.{ℕ, List, length, map, sym, ◌∙◌, ap, subst}
use Rattle.std.specs.List.{AllByRecursion}
use Rattle.std.proofs.lemmas.List.{length-map}
use Rattle.lid_strict.specs.Networks.{rows_at}
use Rattle.lid_strict.specs.Stems.{stem_at, unbuffered_driver, AreStems}
use Rattle.lid_strict.specs.Layouts.{IsSettled}
use Rattle.lid_strict.proofs.Layouts.{numbers_within, runnable, strict_fits, all_settled, stem_rows}
use Rattle.lid_strict.proofs.Buffers.{order_past, taken_past, strict_past}
use Rattle.lid_strict.proofs.simulation.make_ready.Goals as goal

pub stems_of-requires-clause-ordered : goal.stems_of-requires-clause-ordered
stems_of-requires-clause-ordered c = order_past c.args.design.now c.args.drivers.now c.requires.covers c.args.order.now c.requires.ordered

pub lay_out-requires-clause-ordered : goal.lay_out-requires-clause-ordered
lay_out-requires-clause-ordered c = order_past c.args.design.now c.args.drivers.now c.requires.covers c.args.order.now c.requires.ordered

pub lay_out-requires-clause-stems : goal.lay_out-requires-clause-stems
lay_out-requires-clause-stems c =
    subst (AreStems (map (unbuffered_driver c.args.design.now) c.args.drivers.now) c.args.order.now) (sym c.as_slice-stems.ensures.value)
    c.in_ok-found.ensures

pub returns-clause-runnable : goal.returns-clause-runnable
returns-clause-runnable c =
    let d = c.args.design.now in
    let drivers = c.args.drivers.now in
    let order = c.args.order.now in
    let network = map (unbuffered_driver d) drivers in
    let are = subst (AreStems network order) (sym c.as_slice-stems.ensures.value) c.in_ok-found.ensures in
    runnable network order (order_past d drivers c.requires.covers order c.requires.ordered) c.as_slice-stems.result.now are c.in_ok-layout.layout c.in_ok-layout.ensures (taken_past d drivers c.requires.covers c.requires.taken)

pub returns-clause-outs : goal.returns-clause-outs
returns-clause-outs c =
    let d = c.args.design.now in
    let drivers = c.args.drivers.now in
    let order = c.args.order.now in
    let network = map (unbuffered_driver d) drivers in
    let are = subst (AreStems network order) (sym c.as_slice-stems.ensures.value) c.in_ok-found.ensures in
    subst (AllByRecursion (IsSettled c.in_ok-layout.layout)) (sym c.in_ok-write_stems.ensures)
    (all_settled network order (order_past d drivers c.requires.covers order c.requires.ordered) c.as_slice-stems.result.now are c.in_ok-layout.layout c.in_ok-layout.ensures c.args.outs.now
    (numbers_within d drivers c.args.outs.now c.requires.outs))

pub returns-clause-many : goal.returns-clause-many
returns-clause-many c = ap (λ (ks : List ℕ). length ks) c.in_ok-write_stems.ensures ∙ length-map c.args.outs.now (stem_at c.as_slice-stems.result.now)

pub returns-clause-runs : goal.returns-clause-runs
returns-clause-runs c rows b strict =
    let d = c.args.design.now in
    let drivers = c.args.drivers.now in
    let order = c.args.order.now in
    let network = map (unbuffered_driver d) drivers in
    let ordered = order_past d drivers c.requires.covers order c.requires.ordered in
    let stems = c.as_slice-stems.result.now in
    let are = subst (AreStems network order) (sym c.as_slice-stems.ensures.value) c.in_ok-found.ensures in
    let past = strict_past d drivers c.requires.covers rows b strict in
    record {
      fits = strict_fits network order ordered stems are c.in_ok-layout.layout c.in_ok-layout.ensures (taken_past d drivers c.requires.covers c.requires.taken) rows b past;
      same =
          ap (λ (ks : List ℕ). rows_at ks b (length rows)) c.in_ok-write_stems.ensures
          ∙ stem_rows network order ordered stems are rows b past c.args.outs.now (numbers_within d drivers c.args.outs.now c.requires.outs);
    }
