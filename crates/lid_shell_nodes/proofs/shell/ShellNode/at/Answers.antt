use Rattle.std.proofs.Common.{List, get_or, ◌∙◌, ap}
use Rattle.std.proofs.lemmas.Option.{get_or_from_slice_get}
use Rattle.lid_system.specs.declared.Node.{Node}
use Rattle.lid_system.specs.declared.Node.TheVariants.{Shell}
use Rattle.lid_shell_nodes.proofs.shell.ShellNode.at.Goals as goal

pub unreachable-requires : goal.unreachable-requires
unreachable-requires c =
    let s = c.args.system.now in
    let found = c.shells_stand_between_source_and_sink.ensures.between s c.args.node c.requires.system c.requires.shell.0 c.requires.shell.1 in
    let node = c.index-as_slice-node.result in
    c.in_default.not-Shell found.0 found.1
    (c.index-as_slice-node.is ∙ ap (λ (nodes : List Node). get_or nodes c.args.node node) c.as_slice.ensures ∙ get_or_from_slice_get s.nodes c.args.node (Shell found.0 found.1) node found.2)
