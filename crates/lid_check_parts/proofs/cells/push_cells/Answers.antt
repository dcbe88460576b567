use Rattle.std.proofs.Common.{◌≡◌, ℕ, [], List, length, slice_index_or, sym, ◌∙◌, ap, arith}
use Rattle.std.proofs.lemmas.List.{length-map}
use Rattle.lid_base.proofs.Lists.{among_at}
use Rattle.lid_check_elab.specs.declared.driver.ColumnDriver.{ColumnDriver}
use Rattle.lid_check_elab.specs.Elaborations.{driver_reads, shown_driver}
use Rattle.lid_check_parts.specs.Parts.{driver_at}
use Rattle.lid_check_parts.specs.Inner.{inner_driver, inner_drivers, latches_of, driver_covers}
use Rattle.lid_check_parts.proofs.Lists.{pushed_more}
use Rattle.lid_check_parts.proofs.Looping.{long, at}
use Rattle.lid_check_parts.proofs.Rules.{reads_here}
use Rattle.lid_check_parts.proofs.cells.push_cells.Goals as goal

pub list-requires : goal.list-requires
list-requires c =
    let within = c.requires.order.within _ (among_at c.args.order.now c.loop-net.net-index 0 c.loop-net-test.true) in
    let given = ap length c.requires.reads in
    omega arith

pub push_cell-requires-clause-there : goal.push_cell-requires-clause-there
push_cell-requires-clause-there c =
    let source = c.args.source.now in
    let inner = inner_drivers source.drivers.now source.part in
    let within = c.requires.order.within _ (among_at c.args.order.now c.loop-net.net-index 0 c.loop-net-test.true) in
    let graph = length-map inner driver_reads in
    let nets = long source.drivers.now source.part c.requires.part in
    omega arith

pub push_cell-requires-clause-ins : goal.push_cell-requires-clause-ins
push_cell-requires-clause-ins c =
    let source = c.args.source.now in
    let order = c.args.order.now in
    let inner = inner_drivers source.drivers.now source.part in
    let i = c.loop-net.net-index in
    let h = c.loop-net-test.true in
    let net = slice_index_or order i 0 in
    let within = c.requires.order.within net (among_at order i 0 h) in
    let graph = length-map inner driver_reads in
    let nets = long source.drivers.now source.part c.requires.part in
    c.from_vec.ensures ∙ c.in_ok-ins.ensures.items_if_clones_equal (λ x y same. same) ∙ c.list.ensures
    ∙ ap (λ (rows : List (List ℕ)). slice_index_or rows net []) c.requires.reads
    ∙ reads_here inner net
    ∙ ap driver_reads (at source.drivers.now source.part c.requires.part net (omega arith))

pub loop-net-preserved : goal.loop-net-preserved
loop-net-preserved c =
    let source = c.args.source.now in
    let d = source.design.now in
    let order = c.args.order.now in
    let inner = inner_drivers source.drivers.now source.part in
    let i = c.loop-net.net-index in
    let h = c.loop-net-test.true in
    let net = slice_index_or order i 0 in
    let within = c.requires.order.within net (among_at order i 0 h) in
    let graph = length-map inner driver_reads in
    let nets = long source.drivers.now source.part c.requires.part in
    let same : inner_driver source.drivers.now source.part net ≡ driver_at inner net = sym (at source.drivers.now source.part c.requires.part net (omega arith)) in
    let new = c.in_ok-push_cell.ensures in
    record {
      latches = pushed_more (λ k. latches_of k (shown_driver d (driver_at inner k))) order i h _ _ _ _ (ap (λ (s : ColumnDriver). latches_of net (shown_driver d s)) same) c.loop-net.invariant.latches new.latches;
      covers = pushed_more (λ k. driver_covers k (shown_driver d (driver_at inner k))) order i h _ _ _ _ (ap (λ (s : ColumnDriver). driver_covers net (shown_driver d s)) same) c.loop-net.invariant.covers new.covers;
    }
