use Rattle.std.proofs.Common.{◌≡◌, ◌++◌, ℕ, Bool, List, length, map, take}
use Rattle.lid_strict_engine.specs.Rows.{AreRightAt}
use Rattle.lid_strict_engine.proofs.row.put_bits.Given as goal

abbrev pub invariant-loop-i : goal.invariant-loop-i
invariant-loop-i l =
    (length l.bits ≡ length l.fn.bits)
    × ((f : ℕ → Bool) (known : List ℕ) → map f l.nets ≡ l.values → AreRightAt f known l.fn.bits → AreRightAt f (take l.i l.nets ++ known) l.bits)
