use Rattle.std.proofs.Common.{ℕ, ◌≡◌, ◌<◌}
use Rattle.std.specs.List.{count_by}
use Rattle.lid_cert.specs.Certificates.{has_node}
use Rattle.lid_cert.proofs.checking.is_each_once.Given as goal

abbrev pub invariant-loop-v : goal.invariant-loop-v
invariant-loop-v l = (w : ℕ) → w < l.v → count_by (λ part. has_node part w) l.parts ≡ 1
