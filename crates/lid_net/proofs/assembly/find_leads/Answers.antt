use Rattle.std.proofs.Common.{List, [], ◌∷◌, ◌++◌, map, ℕ, ◌∙◌, ap}
use Rattle.lid_net.specs.declared.ports.ShellPorts.{ShellPorts}
use Rattle.lid_net.specs.Marks.{ins_of}
use Rattle.lid_net.specs.Reads.{all_reads}
use Rattle.lid_net.proofs.Facts.{outputs_are}
use Rattle.lid_net.proofs.Reading.{leads_are}
use Rattle.lid_net.proofs.assembly.find_leads.Goals as goal

pub returns-clause-leads : goal.returns-clause-leads
returns-clause-leads c =
    let d = c.args.checked.now in
    let n = c.network.result.now in
    let origins = c.in_ok-origins.origins.items in
    leads_are d c.in_ok-ports.ports.items n.outputs c.in_ok-ports.ensures (outputs_are d n c.network.ensures) origins c.in_ok-reads.reads.items c.put_in_order.new.reads.items c.in_ok-origins.ensures
    (c.in_ok-reads.ensures
    ∙ ap (λ os. all_reads os 1 (map ins_of c.as_slice-3.result.now ++ c.as_slice-outputs.result.now ∷ [])) c.as_slice-2.ensures.value
    ∙ ap (λ (ps : List ShellPorts). all_reads origins 1 (map ins_of ps ++ c.as_slice-outputs.result.now ∷ [])) c.as_slice-3.ensures.value
    ∙ ap (λ (xs : List ℕ). all_reads origins 1 (map ins_of c.in_ok-ports.ports.items ++ xs ∷ [])) c.as_slice-outputs.ensures)
    c.put_in_order.ensures.ascending c.put_in_order.ensures.among
