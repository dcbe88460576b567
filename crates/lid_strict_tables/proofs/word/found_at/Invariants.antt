use Rattle.std.proofs.Common.{◌≡◌, ◌<◌, ◌||◌, ℕ, drop}
use Rattle.std.specs.List.{list_any}
use Rattle.lid_strict_engine.specs.Truth.{is_set}
use Rattle.lid_strict_tables.specs.Wide.{agrees_at}
use Rattle.lid_strict_tables.proofs.word.found_at.Given as goal

abbrev pub invariant-loop-k : goal.invariant-loop-k
invariant-loop-k l = (i : ℕ) → i < 64 → (is_set l.found i || list_any (agrees_at l.high i) (drop l.k l.cubes)) ≡ list_any (agrees_at l.high i) l.cubes
