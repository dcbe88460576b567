use Rattle.std.proofs.Common.{◌<◌, ℕ, List, [], ◌∷◌, ◌++◌, map, length, sym, subst, ◌∙◌, ap}
use Rattle.lid_base.proofs.Results.{if_ok}
use Rattle.lid_design.specs.Columns.{root_outputs}
use Rattle.lid_net_channels.specs.declared.reads.Read.{Read}
use Rattle.lid_net_channels.specs.Bits.{CarryAll}
use Rattle.lid_net.specs.declared.ports.ShellPorts.{ShellPorts}
use Rattle.lid_net.specs.declared.nodes.Wiring.{Wiring}
use Rattle.lid_net.specs.Marks.{ins_of}
use Rattle.lid_net.specs.Nodes.{CanReadAll, AreNodes}
use Rattle.lid_net.proofs.Facts.{carry_long, outputs_are, count_is}
use Rattle.lid_net.proofs.Led.{inputs_led}
use Rattle.lid_net.proofs.Reading.{inputs_read}
use Rattle.lid_net.proofs.assembly.nodes_of.Goals as goal

pub make_nodes-requires-clause-wired : goal.make_nodes-requires-clause-wired
make_nodes-requires-clause-wired c = record { ascending = c.requires.leads.ascending; all = carry_long c.args.channels.now _ _ c.in_ok-bits.ensures ∙ ap length c.as_slice.ensures.value }

pub make_nodes-requires-clause-led : goal.make_nodes-requires-clause-led
make_nodes-requires-clause-led c =
    let d = c.args.checked.now in
    let n = c.network.result.now in
    let w : Wiring = record { origins = c.args.leads.origins; reads = c.args.leads.reads; bits = c.in_ok-bits.bits } in
    subst (λ (ps : List ShellPorts). CanReadAll w 1 (map ins_of ps ++ c.as_slice-2.result.now ∷ [])) (sym c.as_slice-3.ensures.value)
    (subst (λ (xs : List ℕ). CanReadAll w 1 (map ins_of c.args.leads.ports.items ++ xs ∷ [])) (sym c.as_slice-2.ensures)
    (inputs_read d c.args.leads.ports.items n.outputs c.requires.ports (outputs_are d n c.network.ensures) w c.requires.leads (λ i k less among. inputs_led d n c.design.ensures.formed c.design.ensures.accepted c.network.ensures i k (subst (λ (m : ℕ). k < m) (sym (count_is d n c.network.ensures)) less) among)))

pub returns : goal.returns
returns c =
    let d = c.args.checked.now in
    let n = c.network.result.now in
    let channels = c.args.channels.now in
    let origins = c.args.leads.origins.items in
    let ports = c.args.leads.ports.items in
    let carry = subst (λ (rs : List Read). CarryAll channels rs c.in_ok-bits.bits.items) c.as_slice.ensures.value c.in_ok-bits.ensures in
    if_ok c.make_nodes.result (λ nodes made. record {
      numbers = n.outputs;
      outputs = outputs_are d n c.network.ensures;
      are =
          subst (λ (xs : List (List ℕ)). AreNodes d channels origins ports xs (root_outputs d) n.outputs nodes) c.inputs.ensures.names
          (subst (λ (xs : List (List ℕ)). AreNodes d channels origins ports c.inputs.result.now xs n.outputs nodes) c.outputs.ensures.names
          (subst (λ (xs : List ℕ). AreNodes d channels origins ports c.inputs.result.now c.outputs.result.now xs nodes) c.as_slice-2.ensures
          (subst (λ (ps : List ShellPorts). AreNodes d channels origins ps c.inputs.result.now c.outputs.result.now c.as_slice-2.result.now nodes) c.as_slice-3.ensures.value (made channels carry))));
    }) c.make_nodes.ensures
