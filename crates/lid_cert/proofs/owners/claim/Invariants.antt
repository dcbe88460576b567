use Rattle.std.proofs.Common.{ℕ, List, Option, drop}
use Rattle.lid_cert.specs.Owners.{Claims}
use Rattle.lid_cert.proofs.owners.claim.Given as goal

abbrev pub invariant-loop-v : goal.invariant-loop-v
invariant-loop-v l = (after : List (Option ℕ)) → Claims l.number l.owners (drop l.v-index l.nodes) after → Claims l.number l.initial.owners l.nodes after
