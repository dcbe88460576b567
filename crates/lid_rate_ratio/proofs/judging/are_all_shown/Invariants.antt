use Rattle.std.proofs.Common.{ℕ, ◌<◌}
use Rattle.lid_rate_ratio.specs.Tests.{IsShown}
use Rattle.lid_rate_ratio.proofs.judging.are_all_shown.Given as goal

abbrev pub invariant-loop-v : goal.invariant-loop-v
invariant-loop-v l = (w : ℕ) → w < l.v → IsShown l.graph l.ratio.p l.ratio.q l.guess.lags l.guess.ranks l.guess.tight w
