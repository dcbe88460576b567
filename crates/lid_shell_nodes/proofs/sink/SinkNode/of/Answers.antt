use Rattle.std.proofs.Common.{◌≡◌, ◌<◌, ◌-◌, ◌+◌, ℕ, List, length, get_or, map, Some, slice_get, sym, ◌∙◌, ap, subst, arith}
use Rattle.std.specs.List.{AllByRecursion}
use Rattle.std.proofs.lemmas.Option.{get_or_from_slice_get}
use Rattle.lid_system.specs.declared.System.{System}
use Rattle.lid_system.specs.declared.InBit.{InBit}
use Rattle.lid_system.specs.declared.Node.{Node}
use Rattle.lid_system.specs.declared.Node.TheVariants.{Sink}
use Rattle.lid_system.specs.Systems.{IsRead, IsWellFormed}
use Rattle.lid_shell_nodes.specs.declared.wires.InputRead.{InputRead}
use Rattle.lid_shell_nodes.specs.Nodes.{channels_to}
use Rattle.lid_shell_nodes.specs.Placing.{ArePlacedIn}
use Rattle.lid_shell_nodes.specs.Wiring.{SinkView, IsSinkOf, read_of}
use Rattle.lid_shell_nodes.specs.Inside.{read_in, ReadsBelow}
use Rattle.lid_shell_nodes.proofs.Places.{reads_are}
use Rattle.lid_shell_nodes.proofs.Tokens.{reads_placed, node_here, sink_within}
use Rattle.lid_shell_nodes.proofs.sink.SinkNode.of.Goals as goal

last_here : (s : System) → IsWellFormed s → (n : ℕ) → n ≡ length s.nodes → (seen : List Node) → seen ≡ s.nodes → (node x : Node) → node ≡ get_or seen (n - 1) node → node ≡ x → slice_get s.nodes (n - 1) ≡ Some x
last_here s well n long seen same node x read is =
    let least = well.least in
    let below : n - 1 < length s.nodes = omega arith in
    node_here s.nodes seen (n - 1) node x same below read is

-- what the sink takes and reads, by the places of tokens
takes_and_reads : (s : System) (v : ℕ) → v < length s.nodes → (ins seen : List InBit) → AllByRecursion (IsRead s v) ins → seen ≡ ins → (places taken : List ℕ) → length taken ≡ length s.nodes → ArePlacedIn s.channels places taken
    → (count : ℕ) (reads : List InputRead) → count ≡ get_or taken v 0 → reads ≡ map (read_in places) seen → (count ≡ length (channels_to s.channels v)) × (reads ≡ map (read_of s.channels v) ins)
takes_and_reads s v below ins seen read same places taken nodes placed count reads counted are =
    let within : v < length taken = omega arith in
    (counted ∙ placed.counts v within, are ∙ ap (map (read_in places)) same ∙ reads_are s v places taken placed ins read)

pub inputs_of-requires-clause-node : goal.inputs_of-requires-clause-node
inputs_of-requires-clause-node c =
    let many = c.in_ok-places.ensures.nodes in
    let long = c.len-last.ensures in
    let least = c.requires.least in
    omega arith

pub inputs_of-requires-clause-placed : goal.inputs_of-requires-clause-placed
inputs_of-requires-clause-placed c =
    let s = c.args.system.now in
    let v = c.len-last.result - 1 in
    let x = Sink c.in-Sink.columns c.in-Sink.ins in
    let here = last_here s c.requires c.len-last.result c.len-last.ensures c.as_slice.result.now c.as_slice.ensures c.index-as_slice-last.result x c.index-as_slice-last.is c.in-Sink.is in
    subst (λ (ins : List InBit). AllByRecursion (ReadsBelow (length c.in_ok-places.places.places.items)) ins) (sym c.as_slice-in-Sink.ensures)
    (subst (λ (n : ℕ). AllByRecursion (ReadsBelow n) c.in-Sink.ins) (sym c.in_ok-places.ensures.placed.many)
    (reads_placed s c.requires v c.in-Sink.ins (c.requires.each_node v x here).reads))

pub unreachable-requires : goal.unreachable-requires
unreachable-requires c =
    let s = c.args.system.now in
    let i = length s.nodes - 1 in
    let found = c.shells_stand_between_source_and_sink.ensures.last s c.requires in
    let node = c.index-as_slice-last.result in
    c.in_default.not-Sink found.0 found.1
    (c.index-as_slice-last.is
    ∙ ap (λ (n : ℕ). get_or c.as_slice.result.now (n - 1) node) c.len-last.ensures
    ∙ ap (λ (nodes : List Node). get_or nodes i node) c.as_slice.ensures
    ∙ get_or_from_slice_get s.nodes i (Sink found.0 found.1) node found.2)

pub invariant_of-result : goal.invariant_of-result
invariant_of-result c =
    let s = c.args.system.now in
    let v = c.len-last.result - 1 in
    let x = Sink c.in-Sink.columns c.in-Sink.ins in
    let here = last_here s c.requires c.len-last.result c.len-last.ensures c.as_slice.result.now c.as_slice.ensures c.index-as_slice-last.result x c.index-as_slice-last.is c.in-Sink.is in
    let i = c.in_ok-inputs-in-Sink in
    let places = c.in_ok-places.places in
    let size = c.len-last.ensures in
    let some = c.requires.least in
    let are = takes_and_reads s v (omega arith) c.in-Sink.ins c.as_slice-in-Sink.result.now (c.requires.each_node v x here).reads c.as_slice-in-Sink.ensures places.places.items places.taken.items
    c.in_ok-places.ensures.nodes c.in_ok-places.ensures.placed i.inputs.taken i.inputs.reads.items i.ensures.taken i.ensures.reads in
    sink_within s c.requires v c.in-Sink.columns c.in-Sink.ins here i.inputs.taken i.inputs.reads.items are.0 are.1

pub returns : goal.returns
returns c =
    let s = c.args.system.now in
    let v = c.len-last.result - 1 in
    let x = Sink c.in-Sink.columns c.in-Sink.ins in
    let here = last_here s c.requires c.len-last.result c.len-last.ensures c.as_slice.result.now c.as_slice.ensures c.index-as_slice-last.result x c.index-as_slice-last.is c.in-Sink.is in
    let i = c.in_ok-inputs-in-Sink in
    let places = c.in_ok-places.places in
    let size = c.len-last.ensures in
    let some = c.requires.least in
    let are = takes_and_reads s v (omega arith) c.in-Sink.ins c.as_slice-in-Sink.result.now (c.requires.each_node v x here).reads c.as_slice-in-Sink.ensures places.places.items places.taken.items
    c.in_ok-places.ensures.nodes c.in_ok-places.ensures.placed i.inputs.taken i.inputs.reads.items i.ensures.taken i.ensures.reads in
    let seen : SinkView = record { taken = i.inputs.taken; reads = i.inputs.reads.items } in
    let end : v + 1 ≡ length s.nodes = omega arith in
    subst (λ (n : ℕ). IsSinkOf s (n - 1) seen) size
    (record {
      columns = c.in-Sink.columns;
      ins = c.in-Sink.ins;
      last = end;
      node = here;
      many = are.0;
      reading = are.1;
    })
