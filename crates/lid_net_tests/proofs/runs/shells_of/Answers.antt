use Rattle.std.proofs.Common.{◌≡◌, List, Some, slice_get, refl, sym, ◌∙◌, ap}
use Rattle.std.proofs.lemmas.Option.{slice_get_read}
use Rattle.lid_system.specs.declared.Node.{Node}
use Rattle.lid_system.specs.declared.Node.TheVariants.{Shell}
use Rattle.lid_net_tests.proofs.runs.shells_of.Goals as goal

pub shell_of-requires : goal.shell_of-requires
shell_of-requires c =
    let i = c.loop-node.node-index in
    let read = slice_get_read c.as_slice-node-items.result.now _ i c.node-item.result refl c.loop-node-test.true c.node-item.is in
    let there : slice_get c.args.system.now.nodes i ≡ Some (Shell c.in-Shell.pearl c.in-Shell.ins) = ap (λ (nodes : List Node). slice_get nodes i) (sym c.as_slice-node-items.ensures) ∙ read ∙ ap Some c.in-Shell.is in
    c.len.ensures ∙ (c.requires.each_node i (Shell c.in-Shell.pearl c.in-Shell.ins) there).width
