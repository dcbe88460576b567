-- Nodes of systems, by numbers.
use Rattle.std.specs.Prelude.{◌≡◌, ◌+◌, ℕ, List, [], ◌∷◌, ◌++◌, length, Option, Some, None, ⊤}
use Rattle.std.specs.List.{AllByRecursion}
use Rattle.lid_base.specs.Lists.{Among}
use Rattle.lid_design.specs.declared.Design.{Design}
use Rattle.lid_pearl.specs.Pearls.{View}
use Rattle.lid_system.specs.declared.Channel.{Channel}
use Rattle.lid_system.specs.declared.InBit.{InBit}
use Rattle.lid_system.specs.declared.InBit.TheVariants as bits
use Rattle.lid_system.specs.declared.Node.{Node}
use Rattle.lid_system.specs.declared.Node.TheVariants.{Source, Shell, Sink}
use Rattle.lid_net_channels.specs.declared.reads.Read.{Read}
use Rattle.lid_net_channels.specs.Reads.{AreAscending}
use Rattle.lid_net_channels.specs.Bits.{Carries, CarryAll}
use Rattle.lid_net.specs.declared.origin.Origin.{Origin}
use Rattle.lid_net.specs.declared.origin.Origin.TheVariants.{Const, Port}
use Rattle.lid_net.specs.Steps.{origin_at}
use Rattle.lid_net.specs.Reads.{read_of}
use Rattle.lid_net.specs.declared.ports.ShellPorts.{ShellPorts}
use Rattle.lid_net.specs.declared.nodes.Wiring.{Wiring}
use Rattle.lid_net.specs.PearlParts.{IsPearlOf}

-- reads in order, with a bit for each
pub record IsWired (w : Wiring) : Type 0 where
  pub ascending : AreAscending w.reads.items
  pub all : length w.bits.items ≡ length w.reads.items

-- an origin that a node may read
abbrev pub IsReadable : List Read → ℕ → Option Origin → Type 0
IsReadable reads to None = ⊥
IsReadable reads to (Some (Const bit)) = ⊤
IsReadable reads to (Some (Port node place)) = Among (read_of node to place) reads

-- an input is led back to a constant, or to a port that the node is known to read
abbrev pub CanRead : Wiring → ℕ → ℕ → Type 0
CanRead w to k = IsReadable w.reads.items to (origin_at w.origins.items k)

-- so are the inputs of nodes, the first of which has this number
abbrev pub CanReadAll : Wiring → ℕ → List (List ℕ) → Type 0
CanReadAll w to [] = ⊤
CanReadAll w to (ins ∷ more) = AllByRecursion (CanRead w to) ins × CanReadAll w (to + 1) more

abbrev pub IsBitOfOrigin : List Channel → ℕ → Option Origin → InBit → Type 0
IsBitOfOrigin channels to None x = ⊥
IsBitOfOrigin channels to (Some (Const bit)) x = x ≡ bits.Const bit
IsBitOfOrigin channels to (Some (Port node place)) x = Carries channels (read_of node to place) x

-- an input of a node reads what it is led back to
abbrev pub IsBitFor : List Channel → List (Option Origin) → ℕ → ℕ → InBit → Type 0
IsBitFor channels origins to k x = IsBitOfOrigin channels to (origin_at origins k) x

abbrev pub AreInBits : List Channel → List (Option Origin) → ℕ → List ℕ → List InBit → Type 0
AreInBits channels origins to [] [] = ⊤
AreInBits channels origins to (k ∷ ks) (x ∷ xs) = IsBitFor channels origins to k x × AreInBits channels origins to ks xs
AreInBits channels origins to _ _ = ⊥

-- the node is the shell of the pearl of this number, which has these ports
pub record IsShellFor (d : Design) (channels : List Channel) (origins : List (Option Origin)) (i : ℕ) (ports : ShellPorts) (shell : Node) : Type 0 where
  pub pearl : View
  pub of : IsPearlOf d i pearl
  pub ins : List InBit
  pub is : shell ≡ Shell pearl ins
  pub bits : AreInBits channels origins (i + 1) ports.ins ins

-- the shells of pearls with these ports, the first of which is the pearl of this number
abbrev pub AreShellNodes : Design → List Channel → List (Option Origin) → ℕ → List ShellPorts → List Node → Type 0
AreShellNodes d channels origins i [] [] = ⊤
AreShellNodes d channels origins i (ports ∷ more) (shell ∷ shells) = IsShellFor d channels origins i ports shell × AreShellNodes d channels origins (i + 1) more shells
AreShellNodes d channels origins i _ _ = ⊥

-- the source of these columns, a shell for each pearl, and the sink
pub record AreNodes (d : Design) (channels : List Channel) (origins : List (Option Origin)) (ports : List ShellPorts) (inputs outputs : List (List ℕ)) (numbers : List ℕ) (nodes : List Node) : Type 0 where
  pub shells : List Node
  pub ins : List InBit
  pub is : nodes ≡ Source inputs ∷ (shells ++ Sink outputs ins ∷ [])
  pub each : AreShellNodes d channels origins 0 ports shells
  pub bits : AreInBits channels origins (length ports + 1) numbers ins

-- the shells of the first pearls, which have these ports, were appended
pub record AreShellsSoFar (d : Design) (w : Wiring) (ports : List ShellPorts) (old new : List Node) : Type 0 where
  pub shells : List Node
  pub is : new ≡ old ++ shells
  pub each : (channels : List Channel) → CarryAll channels w.reads.items w.bits.items → AreShellNodes d channels w.origins.items 0 ports shells
