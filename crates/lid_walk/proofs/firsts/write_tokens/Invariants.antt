use Rattle.std.proofs.Common.{◌≡◌, ℕ, length, map}
use Rattle.lid_walk.specs.Inside.{AreWritten}
use Rattle.lid_walk.proofs.firsts.write_tokens.Given as goal

abbrev pub invariant-loop-i : goal.invariant-loop-i
invariant-loop-i l = record {
  many : length l.firsts ≡ length l.fn.firsts;
  written : (f : ℕ → ℕ) → l.tokens ≡ map f l.stations → AreWritten f l.stations l.i l.fn.firsts l.firsts;
}
