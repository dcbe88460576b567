-- How the inputs of a node read the tokens that it takes, and how its outputs become the tokens that it
-- puts; and what stands at a node after so many rows of a table.
use Rattle.std.specs.Prelude.{◌≡◌, ℕ, ◌+◌, ◌<◌, ◌≤◌, List, length, map, take, Some, slice_get, ⊤}
use Rattle.std.specs.List.{AllByRecursion}
use Rattle.lid_design.specs.Network.{Table}
use Rattle.lid_design.specs.Flat.{state_at}
use Rattle.lid_pearl.specs.Pearls.{View}
use Rattle.lid_system.specs.declared.System.{System}
use Rattle.lid_system.specs.declared.Channel.{Channel}
use Rattle.lid_system.specs.declared.Node.TheVariants.{Source, Shell, Sink}
use Rattle.lid_system.specs.declared.InBit.{InBit}
use Rattle.lid_system.specs.declared.InBit.TheVariants as bit
use Rattle.lid_system.specs.Systems.{Point}
use Rattle.lid_system.specs.Tables.{nets_of}
use Rattle.lid_shell_nodes.specs.declared.wires.InputRead.{InputRead}
use Rattle.lid_shell_nodes.specs.declared.wires.InputRead.TheVariants.{Const, Bit}
use Rattle.lid_shell_nodes.specs.Nodes.{channels_to, channels_from}

-- where the token of a channel stands among those that node v takes
abbrev pub place_to : List Channel → ℕ → ℕ → ℕ
place_to channels v chan = length (channels_to (take chan channels) v)

-- what an input of node v reads of the tokens that the node takes
abbrev pub read_of : List Channel → ℕ → InBit → InputRead
read_of channels v (bit.Const value) = Const value
read_of channels v (bit.Port chan b) = Bit (place_to channels v chan) b

-- an input reads one of so many tokens
abbrev pub IsReadOf : ℕ → InputRead → Type 0
IsReadOf taken (Const value) = ⊤
IsReadOf taken (Bit place b) = (place < taken) × (b < 31)

-- the ports of a token are among so many
pub record IsPackOf (width : ℕ) (ports : List ℕ) : Type 0 where
  pub few : length ports ≤ 31
  pub below : AllByRecursion (λ port. port < width) ports

-- what a contract sees of a source: how many columns it has, and the ports of each channel
pub record SourceView : Type 0 where
  pub width : ℕ
  pub ports : List (List ℕ)

-- what a contract sees of a shell: its pearl, how many tokens a firing takes, what the pearl's inputs read of
-- them, and the ports of each channel
pub record ShellView : Type 0 where
  pub pearl : View
  pub taken : ℕ
  pub reads : List InputRead
  pub ports : List (List ℕ)

-- what a contract sees of a sink: how many tokens a firing takes, and what the columns read of them
pub record SinkView : Type 0 where
  pub taken : ℕ
  pub reads : List InputRead

-- the ports of the channels that come from node v
abbrev pub ports_from : System → ℕ → List (List ℕ)
ports_from s v = map (λ c. c.ports) (channels_from s.channels v)

-- the source of a system
pub record IsSourceOf (s : System) (x : SourceView) : Type 0 where
  pub columns : List (List ℕ)
  pub node : slice_get s.nodes 0 ≡ Some (Source columns)
  pub wide : x.width ≡ length columns
  pub from : x.ports ≡ ports_from s 0

-- the shell at node v of a system, whose latches hold the bits of row t
pub record IsShellOf (s : System) (b : Table Point) (v t : ℕ) (x : ShellView) : Type 0 where
  pub pearl : View
  pub ins : List InBit
  pub node : slice_get s.nodes v ≡ Some (Shell pearl ins)
  pub flat : x.pearl.flat ≡ pearl.flat
  pub state : x.pearl.state ≡ state_at pearl.flat (nets_of b v) t
  pub many : x.taken ≡ length (channels_to s.channels v)
  pub reading : x.reads ≡ map (read_of s.channels v) ins
  pub from : x.ports ≡ ports_from s v

-- the sink of a system, which is node v
pub record IsSinkOf (s : System) (v : ℕ) (x : SinkView) : Type 0 where
  pub columns : List (List ℕ)
  pub ins : List InBit
  pub last : v + 1 ≡ length s.nodes
  pub node : slice_get s.nodes v ≡ Some (Sink columns ins)
  pub many : x.taken ≡ length (channels_to s.channels v)
  pub reading : x.reads ≡ map (read_of s.channels v) ins
