use Rattle.std.proofs.Common.{◌≡◌, true, length, find}
use Rattle.std.specs.List.{All}
use Rattle.std.specs.Option.{option_map_or}
use Rattle.lid_cert.specs.Certificates.{ascends, has_node, lag_of}
use Rattle.lid_rate_text.specs.Throughput.{sink_lag}
use Rattle.lid_rate_text.proofs.verdict.sink_lag.Given as goal

abbrev pub invariant-loop-rest : goal.invariant-loop-rest
invariant-loop-rest l = record {
  ascend : All (λ part. ascends part.nodes ≡ true) l.rest;
  lag : option_map_or (λ part. lag_of part l.sink) (find (λ part. has_node part l.sink) l.rest) 0 ≡ sink_lag l.cert l.sink;
}

abbrev pub decreases-loop-rest : goal.decreases-loop-rest
decreases-loop-rest l = length l.rest
