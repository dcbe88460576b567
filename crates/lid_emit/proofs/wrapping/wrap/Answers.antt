use Rattle.std.proofs.Common.{arith, sym, ◌∙◌, ap, subst}
use Rattle.lid_base.proofs.Results.{if_ok}
use Rattle.lid_emit_meaning.specs.Emitted.{IsEmitted}
use Rattle.lid_stations.specs.Placed.{links_in}
use Rattle.lid_emit.specs.Steps.{design_with}
use Rattle.lid_emit.proofs.Emitting.{few_ports, emitted_so}
use Rattle.lid_emit.proofs.wrapping.wrap.Goals as goal

pub lay_out_all-requires-clause-few : goal.lay_out_all-requires-clause-few
lay_out_all-requires-clause-few c = let few = few_ports c.args.checked.now (links_in c.args.placed.now) c.args.placed.now.placement c.requires.small in omega (arith, few)

pub name_cells-requires-clause-few : goal.name_cells-requires-clause-few
name_cells-requires-clause-few c = let few = few_ports c.args.checked.now (links_in c.args.placed.now) c.args.placed.now.placement c.requires.small in omega (arith, few)

pub returns : goal.returns
returns c =
    let d = c.args.checked.now in
    let s = c.args.placed.now.system in
    let p = c.args.placed.now.placement in
    let laws = c.named_designs_are_accepted.ensures in
    let model = c.in_ok-model.ensures in
    if_ok c.design_of.result (λ e is.
    subst (IsEmitted d (links_in c.args.placed.now) p) (sym (is ∙ ap design_with model))
    (emitted_so d s p c.requires.can c.design.ensures.formed c.design.ensures.accepted c.requires.free c.requires.small c.in_ok-all.all c.in_ok-all.ensures c.in_ok-cells.cells.items c.in_ok-cells.ensures c.wrapped_designs_are_small.ensures c.wrapped_designs_have_short_texts.ensures laws.formed laws.accepted c.emitted_designs_run.ensures.runs)) c.design_of.ensures
