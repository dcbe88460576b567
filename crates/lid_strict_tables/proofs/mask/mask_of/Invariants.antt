use Rattle.std.proofs.Common.{◌≡◌, ◌<◌, ℕ}
use Rattle.lid_cover.specs.Cover.{agrees}
use Rattle.lid_strict_engine.specs.Truth.{is_set, unpacked}
use Rattle.lid_strict_tables.proofs.mask.mask_of.Given as goal

abbrev pub invariant-loop-input : goal.invariant-loop-input
invariant-loop-input l = (i : ℕ) → i < 64 → is_set l.mask i ≡ agrees (unpacked l.input i) l.cube
