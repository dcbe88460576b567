use Rattle.std.proofs.Common.{ℕ, List, Option, drop}
use Rattle.lid_cert.specs.Owners.{Owns}
use Rattle.lid_cert.proofs.owners.claim_all.Given as goal

abbrev pub invariant-loop-k : goal.invariant-loop-k
invariant-loop-k l = (after : List (Option ℕ)) → Owns l.k l.owners (drop l.k l.parts) after → Owns 0 l.initial.owners l.parts after
