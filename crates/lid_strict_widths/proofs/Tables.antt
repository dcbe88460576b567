-- What is kept for steps, one step after the other.
use Rattle.std.proofs.Common.{◌≡◌, ◌⊎◌, ℕ, ◌+◌, ◌<◌, List, [], ◌∷◌, ◌++◌, length, get_or, Some, slice_get, inl, inr, sym, ◌∙◌, ap, subst, arith}
use Rattle.std.proofs.lemmas.Bool.{cases_eq}
use Rattle.std.proofs.lemmas.List.{get_or_append_left, get_or-append-add, length-append}
use Rattle.std.proofs.lemmas.Option.{get_or_from_slice_get}
use Rattle.lid_base.specs.Lists.{Extends}
use Rattle.lid_cover.specs.declared.Cube.{Cube}
use Rattle.lid_strict_engine.specs.declared.program.ProgramStep.{ProgramStep}
use Rattle.lid_strict_tables.specs.Wide.{IsTableOf}
use Rattle.lid_strict_tables.proofs.Words.{table_of_kept}
use Rattle.lid_strict_widths.specs.Steps.{no_step}

-- what is kept for so many steps
pub record HasTables (words : List ℕ) (cubes : List Cube) (steps : List ProgramStep) (tables : List ℕ) (k : ℕ) : Type 0 where
  pub long : length tables ≡ k
  pub each : (i : ℕ) (s : ProgramStep) → i < k → slice_get steps i ≡ Some s → IsTableOf words cubes s (get_or tables i 0)

pub tables_next : (old new : List ℕ) (cubes : List Cube) (steps : List ProgramStep) (tables pushed : List ℕ) (k table : ℕ) → HasTables old cubes steps tables k → Extends old new
    → IsTableOf new cubes (get_or steps k no_step) table → pushed ≡ tables ++ table ∷ [] → HasTables new cubes steps pushed (k + 1)
tables_next old new cubes steps tables pushed k table has more is pushes = record {
  long = ap (λ (xs : List ℕ). length xs) pushes ∙ length-append tables (table ∷ []) ∙ (let long = has.long in omega arith);
  each = λ i s within here. by i s within here (cases_eq i k);
}
  where
    by : (i : ℕ) (s : ProgramStep) → i < k + 1 → slice_get steps i ≡ Some s → (i ≡ k) ⊎ (i ≡ k → ⊥) → IsTableOf new cubes s (get_or pushed i 0)
    by i s within here (inl same) =
        let step : get_or steps k no_step ≡ s = get_or_from_slice_get steps k s no_step (subst (λ (n : ℕ). slice_get steps n ≡ Some s) same here) in
        let long = has.long in
        let place : i ≡ length tables + 0 = omega arith in
        let read : get_or pushed i 0 ≡ table = ap (λ (xs : List ℕ). get_or xs i 0) pushes ∙ ap (λ (n : ℕ). get_or (tables ++ table ∷ []) n 0) place ∙ get_or-append-add tables (table ∷ []) 0 0 in
        subst (λ (t : ℕ). IsTableOf new cubes s t) (sym read) (subst (λ (step : ProgramStep). IsTableOf new cubes step table) step is)
    by i s within here (inr other) =
        let before : i < k = omega (arith, within, other) in
        let long = has.long in
        let read : get_or pushed i 0 ≡ get_or tables i 0 = ap (λ (xs : List ℕ). get_or xs i 0) pushes ∙ get_or_append_left tables (table ∷ []) 0 i (omega arith) in
        subst (λ (t : ℕ). IsTableOf new cubes s t) (sym read)
        (subst (λ (words : List ℕ). IsTableOf words cubes s (get_or tables i 0)) (sym more.1) (table_of_kept old more.0 cubes s (get_or tables i 0) (has.each i s before here)))
