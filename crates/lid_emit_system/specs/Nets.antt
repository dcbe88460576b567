-- The wires that stand for the nets of pearls, and the bits with which pearls begin.
use Rattle.std.specs.Prelude.{◌≡◌, ℕ, ◌+◌, ◌<◌, Bool, List, length, map, take, Some, slice_get, slice_index_or}
use Rattle.lid_design.specs.declared.Flat.{Flat}
use Rattle.lid_design.specs.Network.{Table, IsStrict}
use Rattle.lid_design.specs.Flat.{flat_drivers, IsFlat}
use Rattle.lid_pearl.specs.Pearls.{View, Shows}
use Rattle.lid_system.specs.declared.System.{System}
use Rattle.lid_system.specs.declared.Node.TheVariants.{Shell}
use Rattle.lid_system.specs.declared.InBit.{InBit}
use Rattle.lid_system.specs.declared.InBit.TheVariants.{Const, Port}
use Rattle.lid_system.specs.Systems.{Point}
use Rattle.lid_system.specs.Tables.{in_bit, port_bits, IsTable}
use Rattle.lid_stations.specs.declared.placement.Placement.{Placement}
use Rattle.lid_stations.specs.Placements.{station_count}
use Rattle.lid_emit_circuit.specs.Wires.{Wire, steady, place}
use Rattle.lid_emit_circuit.specs.Carried.{AreWired}

-- by shell: the flat part of its pearl, and the bits of its outputs in the first row; by shell and net: the wire of the
-- net, its wire after a firing, and whether these are the wires of another net
pub record NetWires : Type 0 where
  pub flat : ℕ → Flat
  pub begins : ℕ → List Bool
  pub here : ℕ → ℕ → Wire
  pub after : ℕ → ℕ → Wire
  pub skips : ℕ → ℕ → Bool

-- the last station of a channel
abbrev pub last_station : Placement → ℕ → ℕ
last_station p chan = station_count (take chan p.relays) + slice_index_or p.relays chan 0

-- what an input reads: a constant, or a bit of the token in the first place of the last station of a channel
abbrev pub read_wire : Placement → InBit → Wire
read_wire p (Const bit) = steady bit
read_wire p (Port chan bit) = place (last_station p chan) 0 bit

-- the wires of a shell: its inputs have those that they read, its latches and covers have cells, and its first outputs are
-- those that its pearl shows
pub record AreNetsOf (p : Placement) (n : NetWires) (v : ℕ) (pearl : View) (ins : List InBit) : Type 0 where
  pub rules : IsFlat (n.flat v)
  pub width : length ins ≡ length (n.flat v).ins
  pub outs : length (n.flat v).outs ≡ length pearl.flat.outs
  pub inputs :
      (j k : ℕ) (x : InBit)
      → slice_get (n.flat v).ins j ≡ Some k → slice_get ins j ≡ Some x
      → (n.here v k ≡ read_wire p x) × (n.after v k ≡ read_wire p x)
  pub wired : AreWired v (n.flat v) (n.here v) (n.after v) (n.skips v)
  pub begins : Shows pearl (n.begins v)

abbrev pub AreNetWires : System → Placement → NetWires → Type 0
AreNetWires s p n = (v : ℕ) (pearl : View) (ins : List InBit) → slice_get s.nodes v ≡ Some (Shell pearl ins) → AreNetsOf p n v pearl ins

-- the nets of a flat part have bits for a table of the system, where it stands as shell v: it reads the bits of the shell's
-- inputs, and gives those of its ports
pub record HasBits (s : System) (rows : List (List Bool)) (a : Table Point) (v : ℕ) (f : Flat) (ins : List InBit) (bits : Table ℕ) : Type 0 where
  pub inputs : List (List Bool)
  pub long : length inputs ≡ length rows
  pub table : IsStrict (flat_drivers f) inputs bits
  pub reads :
      (t j k : ℕ) (x : InBit)
      → t < length rows → slice_get f.ins j ≡ Some k → slice_get ins j ≡ Some x
      → bits t k ≡ in_bit s a t x
  pub gives : (t : ℕ) → t < length rows → map (bits t) f.outs ≡ port_bits s a v t

-- the flat parts of shells follow each table of the system
abbrev pub FollowTables : System → NetWires → Type 0
FollowTables s n =
    (rows : List (List Bool)) (a : Table Point) → IsTable s rows a
    → (bits : ℕ → Table ℕ) × ((v : ℕ) (pearl : View) (ins : List InBit) → slice_get s.nodes v ≡ Some (Shell pearl ins) → HasBits s rows a v (n.flat v) ins (bits v))
