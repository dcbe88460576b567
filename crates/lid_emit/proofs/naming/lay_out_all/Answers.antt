use Rattle.std.proofs.Common.{◌≡◌, length, sym, ◌∙◌, subst, arith}
use Rattle.std.proofs.lemmas.List.{length-map}
use Rattle.lid_base.proofs.Results.{if_both_ok}
use Rattle.lid_design.specs.Columns.{root_inputs, root_outputs}
use Rattle.lid_stations.specs.Placed.{Placing, IsPlaced}
use Rattle.lid_emit_shells.specs.Shells.{nets_of}
use Rattle.lid_emit_system.specs.Nets.{read_wire}
use Rattle.lid_emit_system.specs.Wrapping.{input_count, sink_reads}
use Rattle.lid_emit_laws.proofs.Ports.{as_many_inputs, as_many_outputs}
use Rattle.lid_emit.proofs.naming.lay_out_all.Goals as goal

pub lay_out-requires-clause-count : goal.lay_out-requires-clause-count
lay_out-requires-clause-count c = c.in_ok-shells.ensures.count

pub lay_out-requires-clause-nets : goal.lay_out-requires-clause-nets
lay_out-requires-clause-nets c = c.in_ok-shells.ensures.nets

pub lay_out-requires-clause-inputs : goal.lay_out-requires-clause-inputs
lay_out-requires-clause-inputs c =
    let s = c.args.placed.now.system in
    let p = c.args.placed.now.placement in
    let placed : IsPlaced s p = subst (λ (v : Placing). IsPlaced v.system v.placement) c.placed.view_is c.placed.invariant in
    let same : input_count s ≡ length (root_inputs c.args.checked.now) = as_many_inputs c.args.checked.now s p (nets_of c.in_ok-shells.shells) c.requires.of placed.formed in
    omega (arith, same, c.requires.few)

pub lay_out-requires-clause-outputs : goal.lay_out-requires-clause-outputs
lay_out-requires-clause-outputs c =
    let s = c.args.placed.now.system in
    let p = c.args.placed.now.placement in
    let placed : IsPlaced s p = subst (λ (v : Placing). IsPlaced v.system v.placement) c.placed.view_is c.placed.invariant in
    let same : length (sink_reads s) ≡ length (root_outputs c.args.checked.now) =
    sym (length-map (sink_reads s) (read_wire p)) ∙ as_many_outputs c.args.checked.now s p (nets_of c.in_ok-shells.shells) c.requires.of placed.formed in
    omega (arith, same, c.requires.few)

pub returns : goal.returns
returns c =
    let shells = c.in_ok-shells.ensures in
    if_both_ok c.lay_out.result (λ all plan sound. record { nets = nets_of c.in_ok-shells.shells; are = shells.nets; flats = shells.flats; skipped = shells.skipped; sound = sound; plan = plan }) c.lay_out.ensures.all c.lay_out.ensures.sound
