use Rattle.lid_stations.specs.Placed.{links_in}
use Rattle.lid_stations.specs.Stations.{mover}
use Rattle.lid_texts_packed.specs.Input.{input_of}
use Rattle.lid_walk.specs.Inside.{AreFirstActors}
use Rattle.lid_walk.proofs.movers.push_movers_on.Given as goal

abbrev pub invariant-loop-place : goal.invariant-loop-place
invariant-loop-place l = AreFirstActors l.placed (input_of l.fn.rows) (mover (links_in l.placed) l.placed.placement l.c l.place) l.actors.items
