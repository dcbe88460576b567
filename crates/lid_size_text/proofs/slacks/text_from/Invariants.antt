use Rattle.lid_stations.specs.Placements.{links_of}
use Rattle.lid_size_text.specs.Slacks.{AreSlackLines}
use Rattle.lid_size_text.proofs.slacks.text_from.Given as goal

abbrev pub invariant-loop-channel : goal.invariant-loop-channel
invariant-loop-channel l = AreSlackLines (links_of l.placed.system) l.placed.placement l.channel l.text.items
