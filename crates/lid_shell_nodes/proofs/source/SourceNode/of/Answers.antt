use Rattle.std.proofs.Common.{◌≡◌, ◌<◌, List, length, map, Some, slice_get, sym, ◌∙◌, ap, subst, arith}
use Rattle.std.specs.List.{AllByRecursion}
use Rattle.lid_system.specs.declared.Channel.{Channel}
use Rattle.lid_system.specs.declared.Node.TheVariants.{Source}
use Rattle.lid_shell_nodes.specs.Nodes.{channels_from}
use Rattle.lid_shell_nodes.specs.Wiring.{IsPackOf}
use Rattle.lid_shell_nodes.specs.Inside.{StandByOrigin}
use Rattle.lid_shell_nodes.proofs.Origins.{stand_by_origin}
use Rattle.lid_shell_nodes.proofs.Tokens.{packs_are, source_ports, node_here}
use Rattle.lid_shell_nodes.proofs.source.SourceNode.of.Goals as goal

pub ports_of-requires : goal.ports_of-requires
ports_of-requires c = subst StandByOrigin (sym c.as_slice-2.ensures) (stand_by_origin c.args.system.now c.requires)

pub invariant_of-result : goal.invariant_of-result
invariant_of-result c =
    let s = c.args.system.now in
    let columns = c.in-Source.columns in
    let some : 0 < length s.nodes = (let least = c.requires.least in omega arith) in
    let here : slice_get s.nodes 0 ≡ Some (Source columns) = node_here s.nodes c.as_slice.result.now 0 c.index-as_slice-0.result (Source columns) c.as_slice.ensures some c.index-as_slice-0.is c.in-Source.is in
    let from = c.in_ok-ports.ensures ∙ ap (λ (cs : List Channel). map (λ c. c.ports) (channels_from cs 0)) c.as_slice-2.ensures in
    subst (AllByRecursion (IsPackOf c.len-width.result)) (sym from)
    (packs_are s c.requires 0 c.len-width.result (source_ports s columns here ∙ sym c.len-width.ensures))
