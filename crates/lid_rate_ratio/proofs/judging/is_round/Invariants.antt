use Rattle.std.proofs.Common.{◌≡◌, ◌↔◌, ℕ, length, drop}
use Rattle.lid_rate_ratio.specs.Tests.{LeadsOn}
use Rattle.lid_rate_ratio.proofs.judging.is_round.Given as goal

abbrev pub invariant-loop-k : goal.invariant-loop-k
invariant-loop-k l = record { long : length l.seen ≡ l.graph.nodes; rest : (end : ℕ) → LeadsOn l.graph l.at l.seen (drop l.k-index l.walk) end ↔ LeadsOn l.graph l.start l.initial.seen l.walk end }
