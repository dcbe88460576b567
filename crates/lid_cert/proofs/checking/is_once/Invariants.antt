use Rattle.std.proofs.Common.{◌≡◌, take}
use Rattle.std.specs.List.{count_by}
use Rattle.lid_cert.specs.Certificates.{has_node}
use Rattle.lid_cert.proofs.checking.is_once.Given as goal

abbrev pub invariant-loop-part : goal.invariant-loop-part
invariant-loop-part l = l.count ≡ count_by (λ part. has_node part l.v) (take l.part-index l.parts)
