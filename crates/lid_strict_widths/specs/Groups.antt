-- Programs that are run in groups of steps of one width and kind.
use Rattle.std.specs.Prelude.{◌≡◌, ◌≤◌, ◌<◌, ◌↔◌, IsTrue, ℕ, Bool, List, [], ◌∷◌, length, map, take, get_or, Some, slice_get}
use Rattle.std.specs.List.{flat_map}
use Rattle.lid_cover.specs.declared.Cube.{Cube}
use Rattle.lid_design.specs.declared.FlatCover.{FlatCover}
use Rattle.lid_design.specs.Flat.{IsRow, ReadEarlier}
use Rattle.lid_strict_engine.specs.declared.program.ProgramStep.{ProgramStep}
use Rattle.lid_strict_engine.specs.Programs.{shown_step, program_covers, IsProgram}
use Rattle.lid_strict_engine.specs.Rows.{AreRightAt, known_after}
use Rattle.lid_strict_tables.specs.Wide.{IsTabled, IsTableOf}
use Rattle.lid_strict_widths.specs.declared.group.Group.{Group}
use Rattle.lid_strict_widths.specs.declared.group.ByWidth.{ByWidth}
use Rattle.lid_strict_widths.specs.Steps.{steps_at, step_out, own_reads}
use Rattle.lid_strict_widths.specs.Orders.{IsRunOrder}

-- steps that follow one another, each as wide; all of them have a table of words, or none has
pub record IsGroup (steps : List ProgramStep) (g : Group) : Type 0 where
  pub order : g.start ≤ g.end
  pub within : g.end ≤ length steps
  pub wide : (i : ℕ) (s : ProgramStep) → g.start ≤ i → i < g.end → slice_get steps i ≡ Some s → s.width ≡ g.width
  pub kind : (i : ℕ) (s : ProgramStep) → g.start ≤ i → i < g.end → slice_get steps i ≡ Some s → IsTrue g.tabled ↔ IsTabled s

-- groups that follow one another from a step up to one
abbrev pub Tile : List ProgramStep → ℕ → List Group → ℕ → Type 0
Tile steps from [] to = from ≡ to
Tile steps from (g ∷ groups) to = (g.start ≡ from) × IsGroup steps g × Tile steps g.end groups to

-- the steps as they are run, and their covers
abbrev pub run_steps : ByWidth → List ProgramStep
run_steps x = steps_at x.program.steps.items x.order.items

abbrev pub run_covers : ByWidth → List FlatCover
run_covers x = map (shown_step x.program.reads.items x.program.cubes.items) (run_steps x)

-- what is kept for each step, and the words of tables
pub record AreTables (words : List ℕ) (cubes : List Cube) (steps : List ProgramStep) (tables : List ℕ) : Type 0 where
  pub long : length tables ≡ length steps
  pub each : (i : ℕ) (s : ProgramStep) → slice_get steps i ≡ Some s → IsTableOf words cubes s (get_or tables i 0)

-- the program may be run in the order, the arrays are those of its steps as they are run, and the groups
-- are all of these
pub record IsByWidth (x : ByWidth) : Type 0 where
  pub ready : IsProgram x.program
  pub order : IsRunOrder (program_covers x.program) x.order.items
  pub outs : x.outs.items ≡ map step_out (run_steps x)
  pub tables : AreTables x.words.items x.program.cubes.items (run_steps x) x.tables.items
  pub reads : x.reads.items ≡ flat_map (own_reads x.program.reads.items) (run_steps x)
  pub groups : Tile (run_steps x) 0 x.groups.items (length (run_steps x))

-- bits that are right once the covers before `from` are run, are then right once those before `to` are
abbrev pub RightUpTo : List FlatCover → ℕ → List Bool → ℕ → List Bool → Type 0
RightUpTo covers from old to new =
    (f : ℕ → Bool) (known : List ℕ)
    → IsRow covers f
    → ReadEarlier known covers
    → AreRightAt f (known_after known (take from covers)) old
    → AreRightAt f (known_after known (take to covers)) new
