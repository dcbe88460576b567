use Rattle.std.proofs.Common.{◌∙◌, ℕ, List, map, sym, ap, subst, arith}
use Rattle.std.specs.List.{AllByRecursion}
use Rattle.lid_system.specs.declared.Channel.{Channel}
use Rattle.lid_shell_nodes.specs.Inside.{ReadsBelow, StandByOrigin}
use Rattle.lid_shell_nodes.specs.Nodes.{channels_from}
use Rattle.lid_shell_nodes.proofs.Tokens.{reads_placed}
use Rattle.lid_shell_nodes.proofs.Origins.{stand_by_origin}
use Rattle.lid_shell_nodes.proofs.Places.{reads_are}
use Rattle.lid_shell_nodes.proofs.shell.wires_of.Goals as goal

pub inputs_of-requires-clause-node : goal.inputs_of-requires-clause-node
inputs_of-requires-clause-node c = let many = c.requires.places.nodes in let below = c.requires.node in omega arith

pub inputs_of-requires-clause-placed : goal.inputs_of-requires-clause-placed
inputs_of-requires-clause-placed c =
    subst (λ (n : ℕ). AllByRecursion (ReadsBelow n) c.args.ins.now) (sym c.requires.places.placed.many)
    (reads_placed c.args.system.now c.requires.system c.args.node c.args.ins.now c.requires.read)

pub ports_of-requires : goal.ports_of-requires
ports_of-requires c = subst StandByOrigin (sym c.as_slice.ensures) (stand_by_origin c.args.system.now c.requires.system)

pub returns-clause-taken : goal.returns-clause-taken
returns-clause-taken c =
    let many = c.requires.places.nodes in
    let below = c.requires.node in
    c.in_ok-inputs.ensures.taken ∙ c.requires.places.placed.counts c.args.node (omega arith)

pub returns-clause-reads : goal.returns-clause-reads
returns-clause-reads c =
    c.in_ok-inputs.ensures.reads ∙ reads_are c.args.system.now c.args.node c.args.places.now.places.items c.args.places.now.taken.items c.requires.places.placed c.args.ins.now c.requires.read

pub returns-clause-ports : goal.returns-clause-ports
returns-clause-ports c = c.in_ok-ports.ensures ∙ ap (λ (cs : List Channel). map (λ c. c.ports) (channels_from cs c.args.node)) c.as_slice.ensures
