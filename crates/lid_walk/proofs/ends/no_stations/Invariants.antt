use Rattle.lid_walk.specs.Inside.{AreEmpty}
use Rattle.lid_walk.proofs.ends.no_stations.Given as goal

abbrev pub invariant-loop : goal.invariant-loop
invariant-loop l = AreEmpty l.counter l.lists.items
