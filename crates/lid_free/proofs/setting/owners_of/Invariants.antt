use Rattle.lid_free.specs.Workers.{AreOwners}
use Rattle.lid_free.proofs.setting.owners_of.Given as goal

abbrev pub invariant-loop-end : goal.invariant-loop-end
invariant-loop-end l = AreOwners l.placed.system l.placed.placement l.end l.owners.items
