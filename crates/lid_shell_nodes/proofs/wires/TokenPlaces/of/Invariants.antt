use Rattle.std.proofs.Common.{◌≡◌, length, take}
use Rattle.lid_shell_nodes.specs.Placing.{ArePlacedIn}
use Rattle.lid_shell_nodes.proofs.wires.TokenPlaces.of.Given as goal

abbrev pub invariant-loop-channel : goal.invariant-loop-channel
invariant-loop-channel l = record {
  many : length l.taken.items ≡ length l.system.nodes;
  placed : ArePlacedIn (take l.channel-index l.system.channels) l.places.items l.taken.items;
}
