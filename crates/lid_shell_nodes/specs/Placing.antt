-- Where the tokens of channels stand among those that nodes take.
use Rattle.std.specs.Prelude.{◌≡◌, ◌<◌, ℕ, List, length, Some, slice_get, slice_index_or}
use Rattle.lid_system.specs.declared.System.{System}
use Rattle.lid_system.specs.declared.Channel.{Channel}
use Rattle.lid_shell_nodes.specs.Nodes.{channels_to}
use Rattle.lid_shell_nodes.specs.Wiring.{place_to}
use Rattle.lid_shell_nodes.specs.declared.wires.TokenPlaces.{TokenPlaces}

-- these are the places of the tokens of channels, each among those that its node takes, and how many each node takes
pub record ArePlacedIn (channels : List Channel) (places taken : List ℕ) : Type 0 where
  pub many : length places ≡ length channels
  pub each : (i : ℕ) (c : Channel) → slice_get channels i ≡ Some c → slice_index_or places i 0 ≡ place_to channels c.to i
  pub counts : (v : ℕ) → v < length taken → slice_index_or taken v 0 ≡ length (channels_to channels v)

-- so it is of all channels and nodes of a system
pub record ArePlacesOf (s : System) (x : TokenPlaces) : Type 0 where
  pub nodes : length x.taken.items ≡ length s.nodes
  pub placed : ArePlacedIn s.channels x.places.items x.taken.items
