-- Steps of programs by their places, and what stands in them.
use Rattle.std.specs.Prelude.{◌+◌, ℕ, zero, suc, false, List, [], ◌∷◌, map, take, drop, get_or}
use Rattle.lid_strict_engine.specs.declared.program.ProgramStep.{ProgramStep}

-- what stands at a place without a step
abbrev pub no_step : ProgramStep
no_step = record { table = 0; out = 0; first = 0; width = 0; cubes = record { start = 0; end = 0 }; on = false }

-- the steps at some places
abbrev pub steps_at : List ProgramStep → List ℕ → List ProgramStep
steps_at steps places = map (λ k. get_or steps k no_step) places

abbrev pub step_out : ProgramStep → ℕ
step_out s = s.out

-- the nets that a step reads
abbrev pub own_reads : List ℕ → ProgramStep → List ℕ
own_reads reads s = take s.width (drop s.first reads)

-- how many nets the steps before one read
abbrev pub reads_before : List ProgramStep → ℕ → ℕ
reads_before [] i = 0
reads_before (s ∷ steps) zero = 0
reads_before (s ∷ steps) (suc i) = s.width + reads_before steps i
