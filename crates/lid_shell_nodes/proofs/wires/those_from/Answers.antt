-- The channels before the first place come from earlier nodes, and those from the last place on from later ones.
use Rattle.std.proofs.Common.{ltb, leb, arith, rules}
use Rattle.std.proofs.lemmas.List.Sorted.{IsPartitionPoint-from_clause, IsPartitionedBy-leb, IsPartitionedBy-ltb}
use Rattle.lid_system.specs.declared.Channel.{Channel}
use Rattle.lid_shell_nodes.proofs.Origins.{in_order, found_between}
use Rattle.lid_shell_nodes.proofs.wires.those_from.Goals as goal

pub slice_bounds-result-count : goal.slice_bounds-result-count
slice_bounds-result-count c =
    let firsts = IsPartitionPoint-from_clause (λ (d : Channel). ltb d.from c.args.node) _ _ c.partition_point-first.ensures.partitioned (IsPartitionedBy-ltb (λ (d : Channel). d.from) _ c.args.node c.requires) (λ a r q k. search rules) in
    let ends = IsPartitionPoint-from_clause (λ (d : Channel). leb d.from c.args.node) _ _ c.partition_point-end.ensures.partitioned (IsPartitionedBy-leb (λ (d : Channel). d.from) _ c.args.node c.requires) (λ a r q k. search rules) in
    in_order c.args.channels.now c.args.node c.partition_point-first.result c.partition_point-end.result c.partition_point-first.ensures.bound firsts ends

pub slice_bounds-result-start : goal.slice_bounds-result-start
slice_bounds-result-start c =
    let firsts = IsPartitionPoint-from_clause (λ (d : Channel). ltb d.from c.args.node) _ _ c.partition_point-first.ensures.partitioned (IsPartitionedBy-ltb (λ (d : Channel). d.from) _ c.args.node c.requires) (λ a r q k. search rules) in
    let ends = IsPartitionPoint-from_clause (λ (d : Channel). leb d.from c.args.node) _ _ c.partition_point-end.ensures.partitioned (IsPartitionedBy-leb (λ (d : Channel). d.from) _ c.args.node c.requires) (λ a r q k. search rules) in
    let order = in_order c.args.channels.now c.args.node c.partition_point-first.result c.partition_point-end.result c.partition_point-first.ensures.bound firsts ends in
    let bound = c.partition_point-end.ensures.bound in
    omega arith

pub returns : goal.returns
returns c =
    let firsts = IsPartitionPoint-from_clause (λ (d : Channel). ltb d.from c.args.node) _ _ c.partition_point-first.ensures.partitioned (IsPartitionedBy-ltb (λ (d : Channel). d.from) _ c.args.node c.requires) (λ a r q k. search rules) in
    let ends = IsPartitionPoint-from_clause (λ (d : Channel). leb d.from c.args.node) _ _ c.partition_point-end.ensures.partitioned (IsPartitionedBy-leb (λ (d : Channel). d.from) _ c.args.node c.requires) (λ a r q k. search rules) in
    found_between c.args.channels.now c.args.node c.partition_point-first.result c.partition_point-end.result c.partition_point-first.ensures.bound firsts ends
