-- Clocked runs that workers make, or that are laid flat.
use Rattle.std.specs.Prelude.{ℕ}
use Rattle.lid_clock.specs.Lives.{Life, HoldsNobody}
use Rattle.lid_clock.specs.Ran.{Ran}
use Rattle.lid_clock_flat.specs.Clocks.{RanFlat}
use Rattle.lid_top_clock.specs.declared.course.Course.{Course}
use Rattle.lid_top_clock.specs.declared.course.Course.TheVariants.{Worked, Flat}

-- a run after k cycles and g given rows of a life
abbrev pub RanBy : Life → ℕ → ℕ → Course → Type 0
RanBy l k g (Worked stream) = Ran l k g stream × ((j : ℕ) → HoldsNobody l j)
RanBy l k g (Flat clock) = RanFlat l k g clock
