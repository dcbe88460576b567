-- Covers laid out in flat arrays.
use Rattle.std.specs.Prelude.{◌≤◌, ◌<◌, ◌+◌, ◌-◌, ℕ, Bool, List, length, map, take, drop}
use Rattle.std.specs.List.{AllByRecursion}
use Rattle.lid_cover.specs.declared.Cover.{Cover}
use Rattle.lid_cover.specs.declared.Cube.{Cube}
use Rattle.lid_cover.specs.Cover.{IsCover}
use Rattle.lid_design.specs.declared.FlatCover.{FlatCover}
use Rattle.lid_strict_engine.specs.Truth.{IsTruthTable}
use Rattle.lid_strict_engine.specs.declared.program.Span.{Span}
use Rattle.lid_strict_engine.specs.declared.program.ProgramStep.{ProgramStep}
use Rattle.lid_strict_engine.specs.declared.program.Program.{Program}

-- the items of a part
abbrev pub span_items : {A : Type 0} → List A → Span → List A
span_items xs part = take (part.end - part.start) (drop part.start xs)

-- a part lies in a list
abbrev pub IsSpan : {A : Type 0} → List A → Span → Type 0
IsSpan xs part = (part.start ≤ part.end) × (part.end ≤ length xs)

-- a cover, by its width and its rows
abbrev pub cover_with : ℕ → Bool → List Cube → Cover
cover_with inputs on cubes = record { inputs = inputs; on = on; cubes = cubes }

-- the cover of a step, with the nets that covers read and the rows of covers
abbrev pub step_cover : List Cube → ProgramStep → Cover
step_cover cubes step = cover_with step.width step.on (span_items cubes step.cubes)

abbrev pub shown_step : List ℕ → List Cube → ProgramStep → FlatCover
shown_step reads cubes step = record { ins = take step.width (drop step.first reads); out = step.out; cover = step_cover cubes step }

-- the covers of a program, as they stand
unfoldable pub program_covers : Program → List FlatCover
program_covers p = map (shown_step p.reads.items p.cubes.items) p.steps.items

-- a step has its reads and its rows; it writes a net; its cover meets the rules of covers, and its table
-- is that of the cover
pub record IsStep (nets : ℕ) (reads : List ℕ) (cubes : List Cube) (step : ProgramStep) : Type 0 where
  pub read : step.first + step.width ≤ length reads
  pub rows : IsSpan cubes step.cubes
  pub out : step.out < nets
  pub cover : IsCover (step_cover cubes step)
  pub table : step.width ≤ 6 → IsTruthTable step.table (step_cover cubes step)

-- reads are nets, and the steps stand
pub record IsProgram (p : Program) : Type 0 where
  pub reads : AllByRecursion (λ k. k < p.nets) p.reads.items
  pub steps : AllByRecursion (IsStep p.nets p.reads.items p.cubes.items) p.steps.items
