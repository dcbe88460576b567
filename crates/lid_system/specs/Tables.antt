-- The table of a system: a bit for each row, port of the source and net of a shell.
use Rattle.std.specs.Prelude.{ℕ, Bool, false, not, if◌then◌else◌, List, [], ◌∷◌, length, map, nat_lt, slice_get, slice_index_or}
use Rattle.std.specs.Option.{option_map_or}
use Rattle.lid_cover.specs.declared.Cover.{Cover}
use Rattle.lid_design.specs.Network.{Driver, from_input, from_latch, from_cover, from_connection, Table, IsStrict}
use Rattle.lid_design.specs.Flat.{flat_drivers}
use Rattle.lid_system.specs.declared.System.{System}
use Rattle.lid_system.specs.declared.Node.{Node}
use Rattle.lid_system.specs.declared.Node.TheVariants.{Source, Shell, Sink}
use Rattle.lid_system.specs.declared.InBit.{InBit}
use Rattle.lid_system.specs.declared.InBit.TheVariants.{Const, Port}
use Rattle.lid_system.specs.declared.Channel.{Channel}
use Rattle.lid_system.specs.Systems.{Point, source_port, shell_net, ports_at}

-- the ports that a channel carries, in order
abbrev pub carried : System → Channel → List Point
carried s c = map (λ port. slice_index_or (ports_at s c.from) port (source_port 0)) c.ports

-- the port whose bit is a bit of a channel
abbrev pub carried_at : System → ℕ → ℕ → Point
carried_at s chan bit = slice_index_or (option_map_or (carried s) (slice_get s.channels chan) []) bit (source_port 0)

-- a cover without inputs
abbrev pub constant : Bool → Cover
constant bit = record { inputs = 0; on = not bit; cubes = [] }

-- what drives an input that reads this
abbrev pub driver_of : System → InBit → Driver Point
driver_of s (Const bit) = from_cover (constant bit) []
driver_of s (Port chan bit) = from_connection (carried_at s chan bit)

-- a driver of a flat part, where that is the pearl of node i, with such inputs
abbrev pub in_shell : System → ℕ → List InBit → Driver ℕ → Driver Point
in_shell s i ins (from_input j) = driver_of s (slice_index_or ins j (Const false))
in_shell s i ins (from_latch first k) = from_latch first (shell_net i k)
in_shell s i ins (from_cover cover ks) = from_cover cover (map (shell_net i) ks)
in_shell s i ins (from_connection k) = from_connection (shell_net i k)

-- how many ports a source has
abbrev pub source_width : Node → ℕ
source_width (Source columns) = length columns
source_width (Shell pearl ins) = 0
source_width (Sink columns ins) = 0

-- what drives net k of a node that has number i
abbrev pub net_drivers : System → ℕ → ℕ → Node → List (Driver Point)
net_drivers s i k (Source columns) = []
net_drivers s i k (Shell pearl ins) = map (in_shell s i ins) (flat_drivers pearl.flat k)
net_drivers s i k (Sink columns ins) = []

-- what drives a point: a port of the source has the bits of its column, and a net of a shell has those
-- that its flat part gives it
unfoldable pub system_drivers : System → Point → List (Driver Point)
system_drivers s (source_port j) =
    if nat_lt j (option_map_or source_width (slice_get s.nodes 0) 0) then from_input j ∷ [] else []
system_drivers s (shell_net i k) = option_map_or (net_drivers s i k) (slice_get s.nodes i) []

-- a table of the system for input rows
abbrev pub IsTable : System → List (List Bool) → Table Point → Type 0
IsTable s rows b = IsStrict (system_drivers s) rows b

-- the bits of the nets of node i
abbrev pub nets_of : Table Point → ℕ → Table ℕ
nets_of b i t k = b t (shell_net i k)

-- the bit of an input in row t
abbrev pub in_bit : System → Table Point → ℕ → InBit → Bool
in_bit s b t (Const bit) = bit
in_bit s b t (Port chan bit) = b t (carried_at s chan bit)

-- what the inputs of a node read
abbrev pub input_reads : Node → List InBit
input_reads (Source columns) = []
input_reads (Shell pearl ins) = ins
input_reads (Sink columns ins) = ins

-- the bits of the inputs of node i in row t
abbrev pub input_bits : System → Table Point → ℕ → ℕ → List Bool
input_bits s b i t = map (in_bit s b t) (option_map_or input_reads (slice_get s.nodes i) [])

-- the bits of the ports of node i in row t
abbrev pub port_bits : System → Table Point → ℕ → ℕ → List Bool
port_bits s b i t = map (b t) (ports_at s i)
