-- What is shown is what the sink reads.
use Rattle.std.proofs.Common.{◌≡◌, ◌<◌, ℕ, List, length, map, sym, subst, ap, ◌∙◌, arith}
use Rattle.std.specs.List.{AllByRecursion}
use Rattle.std.proofs.lemmas.List.{length-map}
use Rattle.lid_system.specs.declared.InBit.{InBit}
use Rattle.lid_stations.specs.Placed.{Placing}
use Rattle.lid_emit_system.specs.Nets.{read_wire}
use Rattle.lid_emit_system.specs.Wrapping.{sink_reads}
use Rattle.lid_emit_cells.specs.Shown.{wire_of}
use Rattle.lid_emit_shells.specs.Reading.{lasts_from, wire_by, ReadsBelow}
use Rattle.lid_emit_shells.proofs.Lasting.{length_lasts, told_wires}
use Rattle.lid_emit_layout.proofs.Reading.{sink_below}
use Rattle.lid_emit_layout.proofs.outer.make_shows.Goals as goal

pub input_wires-requires : goal.input_wires-requires
input_wires-requires c =
    let long = ap length (c.as_slice-2.ensures.value ∙ c.in_ok-lasts.ensures ∙ ap (lasts_from 0) c.as_slice.ensures) ∙ length_lasts 0 c.placed.inside.placement.now.relays ∙ c.placed.invariant.fits.counts in
    subst (λ (xs : List InBit). AllByRecursion (ReadsBelow (length c.as_slice-2.result.now)) xs) (sym c.sink_reads-reads.ensures) (sink_below c.placed.inside.system.now c.placed.invariant.formed _ (sym long))

pub returns-clause-is : goal.returns-clause-is
returns-clause-is c =
    let s = c.placed.inside.system.now in
    let p = c.placed.inside.placement.now in
    let lasts = c.as_slice-2.ensures.value ∙ c.in_ok-lasts.ensures ∙ ap (lasts_from 0) c.as_slice.ensures in
    subst (λ (v : Placing). map wire_of c.from_vec.result ≡ map (read_wire v.placement) (sink_reads v.system)) c.placed.view_is
    (ap (map wire_of) (c.from_vec.ensures ∙ c.in_ok-shows.ensures ∙ ap (λ (xs : List ℕ). map (wire_by xs) c.sink_reads-reads.result.now) lasts ∙ ap (map (wire_by (lasts_from 0 p.relays))) c.sink_reads-reads.ensures)
    ∙ told_wires p (sink_reads s) (sink_below s c.placed.invariant.formed _ (sym c.placed.invariant.fits.counts)))

pub returns-clause-few : goal.returns-clause-few
returns-clause-few c =
    let long = ap length (c.from_vec.ensures ∙ c.in_ok-shows.ensures) in
    let few : length c.sink_reads-reads.result.now < 32768 = subst (λ (reads : List InBit). length reads < 32768) (sym c.sink_reads-reads.ensures) (subst (λ (v : Placing). length (sink_reads v.system) < 32768) (sym c.placed.view_is) c.requires) in
    omega (arith, long, length-map c.sink_reads-reads.result.now (wire_by c.as_slice-2.result.now), few)
