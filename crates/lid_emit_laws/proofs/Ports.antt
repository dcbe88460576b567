-- Ports of a wrapped system: they are those of the root, and its size counts each of them.
use Rattle.std.proofs.Common.{◌≡◌, ℕ, ◌+◌, ◌-◌, ◌≤◌, List, [], ◌∷◌, ◌++◌, length, Option, ◌∙◌, ap, length-append, arith}
use Rattle.std.specs.List.{sum_by}
use Rattle.std.specs.Option.{option_map_or}
use Rattle.std.proofs.lemmas.List.{length-map}
use Rattle.std.proofs.lemmas.List.Sums.{sum_by-cons}
use Rattle.lid_design.specs.declared.Design.{Design}
use Rattle.lid_design.specs.Columns.{root_inputs, root_outputs}
use Rattle.lid_system.specs.declared.System.{System}
use Rattle.lid_system.specs.declared.Node.{Node}
use Rattle.lid_system.specs.declared.Node.TheVariants.{Sink}
use Rattle.lid_system.specs.Systems.{IsWellFormed, IsSink}
use Rattle.lid_system.specs.Tables.{source_width, input_reads}
use Rattle.lid_system.proofs.Points.{first_node, last_node}
use Rattle.lid_net_law.specs.Agreement.{IsSystemOf}
use Rattle.lid_stations.specs.declared.placement.Placement.{Placement}
use Rattle.lid_emit_system.specs.Nets.{NetWires, read_wire}
use Rattle.lid_emit_system.specs.Wrapping.{circuit_plan, sink_reads}
use Rattle.lid_emit_meaning.specs.Sizes.{name_size, ports_size}

-- the sizes of names count each of them
names_counted : (names : List (List ℕ)) → length names ≤ sum_by name_size names
names_counted [] = omega arith
names_counted (name ∷ names) =
    let rest = names_counted names in
    let whole = sum_by-cons name_size name names in
    omega arith

pub ports_counted : (d : Design) → length (root_inputs d) + length (root_outputs d) ≤ ports_size d
ports_counted d =
    let all = names_counted (root_inputs d ++ root_outputs d) in
    let both = length-append (root_inputs d) (root_outputs d) in
    omega arith

module _ (d : Design) (s : System) (p : Placement) (n : NetWires) (of : IsSystemOf d s) (well : IsWellFormed s) where
  pub as_many_inputs : (circuit_plan s p n).inputs ≡ length (root_inputs d)
  as_many_inputs =
      let columns = first_node s well in
      ap (λ (o : Option Node). option_map_or source_width o 0) columns.1 ∙ ap length (of.source 0 columns.0 columns.1)

  pub as_many_outputs : length (circuit_plan s p n).shows ≡ length (root_outputs d)
  as_many_outputs =
      let node = last_node s well in
      let is_sink : IsSink s (length s.nodes - 1) node.0 node.1 = well.each_node (length s.nodes - 1) (Sink node.0 node.1) node.2 in
      length-map (sink_reads s) (read_wire p)
      ∙ ap (λ (o : Option Node). length (option_map_or input_reads o [])) node.2 ∙ is_sink.width ∙ ap length (of.sink (length s.nodes - 1) node.0 node.1 node.2).0
