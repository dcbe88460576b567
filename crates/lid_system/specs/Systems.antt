-- Well-formed systems: one source, shells and one sink, and channels in order whose ports are read.
use Rattle.std.specs.Prelude.{◌≡◌, ◌≤◌, ◌<◌, ◌+◌, ◌⊎◌, ℕ, List, [], length, map, Some, slice_get, ⊤}
use Rattle.std.specs.List.{AllByRecursion}
use Rattle.std.specs.Option.{option_map_or}
use Rattle.lid_base.specs.Each.{from_each}
use Rattle.lid_design.specs.Flat.{latch_init, IsFlat}
use Rattle.lid_pearl.specs.Pearls.{View}
use Rattle.lid_system.specs.declared.System.{System}
use Rattle.lid_system.specs.declared.Node.{Node}
use Rattle.lid_system.specs.declared.Node.TheVariants.{Source, Shell, Sink}
use Rattle.lid_system.specs.declared.InBit.{InBit}
use Rattle.lid_system.specs.declared.InBit.TheVariants.{Const, Port}
use Rattle.lid_system.specs.declared.Channel.{Channel}

-- what has a bit in each row: a port of the source by its place, or a net of the shell that is node i
pub data Point : Type 0 where
  source_port : ℕ → Point
  shell_net : ℕ → ℕ → Point

-- the ports of a node that has number i, in order
abbrev pub ports_of : ℕ → Node → List Point
ports_of i (Source columns) = from_each source_port 0 (length columns)
ports_of i (Shell pearl ins) = map (shell_net i) pearl.flat.outs
ports_of i (Sink columns ins) = []

-- the ports of node i
abbrev pub ports_at : System → ℕ → List Point
ports_at s i = option_map_or (ports_of i) (slice_get s.nodes i) []

-- an input of node i reads a constant, or a bit of a channel that leads to the node
abbrev pub IsRead : System → ℕ → InBit → Type 0
IsRead s i (Const bit) = ⊤
IsRead s i (Port chan bit) = (c : Channel) × (slice_get s.channels chan ≡ Some c) × (c.to ≡ i) × (bit < length c.ports)

-- a shell stands between the source and the sink; its pearl has begun, and reads one thing for each input
pub record IsShell (s : System) (i : ℕ) (pearl : View) (ins : List InBit) : Type 0 where
  pub after_source : 0 < i
  pub before_sink : i + 1 < length s.nodes
  pub rules : IsFlat pearl.flat
  pub begins : pearl.state ≡ map latch_init pearl.flat.latches
  pub width : length ins ≡ length pearl.flat.ins
  pub reads : AllByRecursion (IsRead s i) ins

-- the sink is the last node, and reads one thing for each column
pub record IsSink (s : System) (i : ℕ) (columns : List (List ℕ)) (ins : List InBit) : Type 0 where
  pub last : i + 1 ≡ length s.nodes
  pub width : length ins ≡ length columns
  pub reads : AllByRecursion (IsRead s i) ins

-- a node of its kind stands at place i; the source is node 0
abbrev pub IsNode : System → ℕ → Node → Type 0
IsNode s i (Source columns) = i ≡ 0
IsNode s i (Shell pearl ins) = IsShell s i pearl ins
IsNode s i (Sink columns ins) = IsSink s i columns ins

-- a channel comes from a node that is not the sink, leads to one that is not the source, and carries 1
-- to 31 ports of the node from which it comes
pub record IsChannel (s : System) (c : Channel) : Type 0 where
  pub comes : c.from + 1 < length s.nodes
  pub leads : 0 < c.to
  pub ends : c.to < length s.nodes
  pub some : 0 < length c.ports
  pub few : length c.ports ≤ 31
  pub below : AllByRecursion (λ port. port < length (ports_at s c.from)) c.ports

-- in the order of where channels come from, where they lead, and of pieces
abbrev pub Precedes : Channel → Channel → Type 0
Precedes c d =
    (c.from < d.from)
    ⊎ ((c.from ≡ d.from) × ((c.to < d.to) ⊎ ((c.to ≡ d.to) × (c.piece < d.piece))))

-- the rules of systems
pub record IsWellFormed (s : System) : Type 0 where
  pub least : 2 ≤ length s.nodes
  pub most : length s.nodes ≤ 4098
  pub each_node : (i : ℕ) (node : Node) → slice_get s.nodes i ≡ Some node → IsNode s i node
  pub few : length s.channels ≤ 16384
  pub each_channel : AllByRecursion (IsChannel s) s.channels
  pub ascending : (i j : ℕ) (c d : Channel) → i < j → slice_get s.channels i ≡ Some c → slice_get s.channels j ≡ Some d → Precedes c d
