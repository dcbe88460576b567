use Rattle.std.proofs.Common.{◌≡◌, ℕ, ◌<◌, false}
use Rattle.lid_cert.specs.Certificates.{has_node, part_at}
use Rattle.lid_cert.proofs.places.part_with.Given as goal

abbrev pub invariant-loop-k : goal.invariant-loop-k
invariant-loop-k l = (j : ℕ) → j < l.k → has_node (part_at l.cert.parts j) l.v ≡ false
