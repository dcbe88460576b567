-- The row that is wanting is one of the rows, and wide enough.
use Rattle.std.proofs.Common.{◌≡◌, ℕ, ◌+◌, ◌<◌, Bool, List, length, get_or, Some, slice_get, refl, ◌∙◌, ap, arith}
use Rattle.std.proofs.lemmas.Option.{slice_get_read}
use Rattle.lid_base.proofs.Lists.{all_at}
use Rattle.lid_clock.specs.Lives.{Life, IsLife, NeedsRow}
use Rattle.lid_shell_laws.specs.Setups.{IsInputRow}

module _ (l : Life) (rows : List (List Bool)) (is : l.setup.input ≡ rows) (k g : ℕ) (needs : NeedsRow l k g) where
  pub row_there : g < length rows
  row_there = omega (arith, needs.goes_on, needs.lacks, ap length is)

  pub row_next : (row : List Bool) → row ≡ get_or rows g row → slice_get l.setup.input g ≡ Some row
  row_next row at = ap (λ (xs : List (List Bool)). slice_get xs g) is ∙ slice_get_read rows (length rows) g row refl row_there at

  pub row_wide : IsLife l → (row : List Bool) → row ≡ get_or rows g row → IsInputRow l.setup.system row
  row_wide rules row at = all_at (IsInputRow l.setup.system) l.setup.input g row rules.wide (row_next row at)

-- once it is given none is wanting
pub fed : (l : Life) (k g : ℕ) → NeedsRow l k g → NeedsRow l k (g + 1) → ⊥
fed l k g needs again = omega (arith, needs.lacks, again.lacks)
