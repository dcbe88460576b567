use Rattle.lid_walk_machine.proofs.Sweeps.{settles}
use Rattle.lid_walk.proofs.Settling.{caps_reached}
use Rattle.lid_walk.proofs.laws.sweeps_settle_walks.Goals as goal

pub returns-clause-runs : goal.returns-clause-runs
returns-clause-runs c m k v rules late there = caps_reached m k v rules late there

pub returns-clause-walks : goal.returns-clause-walks
returns-clause-walks c m st w k walks rest late =
    settles m walks.rules st k walks.sound rest (λ v there. caps_reached m k v walks.rules late there)
