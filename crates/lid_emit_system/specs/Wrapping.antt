-- The plan of a system and a placement, and the network that wraps the system.
use Rattle.std.specs.Prelude.{ℕ, zero, suc, ◌-◌, false, List, [], length, map, slice_get, slice_index_or}
use Rattle.std.specs.Option.{option_map_or}
use Rattle.lid_design.specs.declared.Flat.{Flat}
use Rattle.lid_design.specs.Network.{Driver, Table}
use Rattle.lid_base.specs.Each.{from_each}
use Rattle.lid_system.specs.declared.System.{System}
use Rattle.lid_system.specs.declared.Node.{Node}
use Rattle.lid_system.specs.declared.Node.TheVariants.{Source, Shell, Sink}
use Rattle.lid_system.specs.declared.InBit.{InBit}
use Rattle.lid_system.specs.declared.Channel.{Channel}
use Rattle.lid_system.specs.Systems.{Point, source_port}
use Rattle.lid_system.specs.Tables.{carried, source_width, input_reads}
use Rattle.lid_stations.specs.declared.placement.Placement.{Placement}
use Rattle.lid_stations.specs.Placements.{links_of, station_count}
use Rattle.lid_stations.specs.Stations.{spot_at, channel_at, actor_count, filler, drainer, capacity}
use Rattle.lid_shell_laws.specs.Runs.{drained_by, filled_by}
use Rattle.lid_emit_circuit.specs.Wires.{Wire, given, place, shown, valid, stop}
use Rattle.lid_emit_circuit.specs.Plans.{CircuitPlan}
use Rattle.lid_emit_circuit.specs.Network.{emitted}
use Rattle.lid_emit_system.specs.Nets.{NetWires, read_wire}
use Rattle.lid_emit_system.specs.Faces.{first_count, Face}

-- the channel on which a station stands
abbrev pub channel_of : System → Placement → ℕ → Channel
channel_of s p station = channel_at (links_of s) (spot_at p.relays station).channel

-- the port whose bit is bit j of a station's tokens
abbrev pub point : System → Placement → ℕ → ℕ → Point
point s p station j = slice_index_or (carried s (channel_of s p station)) j (source_port 0)

-- the wire that has the bit of a port of node v, as the node puts it
abbrev pub port_wire : NetWires → ℕ → ℕ → Node → Wire
port_wire n v port (Source columns) = given port
port_wire n v port (Shell pearl ins) = n.after v (slice_index_or (n.flat v).outs port 0)
port_wire n v port (Sink columns ins) = given port

-- bit j of what is put at the first station of a channel
abbrev pub first_put : System → NetWires → Channel → ℕ → Wire
first_put s n c j = option_map_or (port_wire n c.from (slice_index_or c.ports j 0)) (slice_get s.nodes c.from) (given 0)

-- bit j of what is put in a station at a place of its channel: at each but the first it is that in the first place of the
-- station before
abbrev pub put_wire : System → Placement → NetWires → ℕ → ℕ → ℕ → Wire
put_wire s p n station zero j = first_put s n (channel_of s p station) j
put_wire s p n station (suc i) j = place (station - 1) 0 j

-- a part without nets
abbrev pub no_flat : Flat
no_flat = record { nets = 0; ins = []; outs = []; latches = []; covers = [] }

-- the flat part of node v
abbrev pub flat_in : NetWires → ℕ → Node → Flat
flat_in n v (Source columns) = no_flat
flat_in n v (Shell pearl ins) = n.flat v
flat_in n v (Sink columns ins) = no_flat

-- what the data outputs read
abbrev pub sink_reads : System → List InBit
sink_reads s = option_map_or input_reads (slice_get s.nodes (length s.nodes - 1)) []

-- how many data inputs there are
abbrev pub input_count : System → ℕ
input_count s = option_map_or source_width (slice_get s.nodes 0) 0

abbrev pub circuit_plan : System → Placement → NetWires → CircuitPlan
circuit_plan s p n = record {
  nodes = length s.nodes;
  actors = actor_count (links_of s) p;
  inputs = input_count s;
  stations = station_count p.relays;
  filler = λ station. filler (links_of s) p station;
  drainer = λ station. drainer (links_of s) p station;
  capacity = λ station. capacity p station;
  first = λ station. first_count (links_of s) p station;
  width = λ station. length (channel_of s p station).ports;
  begins = λ station j. slice_index_or (n.begins (filler (links_of s) p station)) (slice_index_or (channel_of s p station).ports j 0) false;
  put = λ station j. put_wire s p n station (spot_at p.relays station).place j;
  ins = λ v. drained_by (links_of s) p v;
  outs = λ v. filled_by (links_of s) p v;
  flat = λ v. option_map_or (flat_in n v) (slice_get s.nodes v) no_flat;
  here = n.here;
  after = n.after;
  skips = n.skips;
  shows = map (read_wire p) (sink_reads s);
}

-- what drives each wire of a wrapped system
abbrev pub wrapped : System → Placement → NetWires → Wire → List (Driver Wire)
wrapped s p n = emitted (circuit_plan s p n)

-- what a table of the network shows
abbrev pub face_of : System → Table Wire → Face
face_of s b = record {
  stop = λ k. b k stop;
  valid = λ k. b k valid;
  row = λ k. from_each (λ j. b k (shown j)) 0 (length (sink_reads s));
}
