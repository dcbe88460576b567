-- Steps stay what they are when reads and rows are appended, and one more step shows its cover.
use Rattle.std.proofs.Common.{◌≡◌, ℕ, ◌+◌, ◌-◌, ◌<◌, ◌≤◌, List, [], ◌∷◌, ◌++◌, length, map, take, drop, refl, sym, ◌∙◌, ap, subst, arith}
use Rattle.std.specs.List.{AllByRecursion}
use Rattle.std.proofs.lemmas.List.{take-append-le, drop-append-le, length-drop, length-append, map-append, take_all}
use Rattle.lid_base.proofs.Lists.{all_append, all_push}
use Rattle.lid_cover.specs.declared.Cover.{Cover}
use Rattle.lid_cover.specs.declared.Cube.{Cube}
use Rattle.lid_cover.specs.Cover.{IsCover}
use Rattle.lid_design.specs.declared.FlatCover.{FlatCover}
use Rattle.lid_strict_engine.specs.declared.program.Span.{Span}
use Rattle.lid_strict_engine.specs.declared.program.ProgramStep.{ProgramStep}
use Rattle.lid_strict_engine.specs.Truth.{IsTruthTable}
use Rattle.lid_strict_engine.specs.Programs.{span_items, IsSpan, cover_with, step_cover, shown_step, IsStep}

abbrev cell : List ℕ → ℕ → Cover → FlatCover
cell ins out cover = record { ins = ins; out = out; cover = cover }

within_more : {A : Type 0} (xs more : List A) (first width : ℕ) → first + width ≤ length xs → take width (drop first (xs ++ more)) ≡ take width (drop first xs)
within_more xs more first width h =
    let long = length-drop first xs in
    ap (take width) (drop-append-le first xs more (omega arith))
    ∙ take-append-le width (drop first xs) more (omega arith)

drop_past : {A : Type 0} (xs ys : List A) → drop (length xs) (xs ++ ys) ≡ ys
drop_past [] ys = refl
drop_past (x ∷ xs) ys = drop_past xs ys

-- items that were appended stand after those before
pub appended : {A : Type 0} (xs ys : List A) (first width : ℕ) → first ≡ length xs → width ≡ length ys → take width (drop first (xs ++ ys)) ≡ ys
appended xs ys first width place wide =
    ap (λ (n : ℕ). take width (drop n (xs ++ ys))) place
    ∙ ap (take width) (drop_past xs ys)
    ∙ take_all width ys (omega arith)

part_more : {A : Type 0} (xs more : List A) (part : Span) → IsSpan xs part → span_items (xs ++ more) part ≡ span_items xs part
part_more xs more part there = within_more xs more part.start (part.end - part.start) (let a = there.0 in let b = there.1 in omega arith)

is_part_more : {A : Type 0} (xs more : List A) (part : Span) → IsSpan xs part → IsSpan (xs ++ more) part
is_part_more xs more part there = let long = length-append xs more in let a = there.1 in (there.0, omega arith)

module _ (nets : ℕ) (reads more : List ℕ) (cubes rows : List Cube) where
  step_more : (step : ProgramStep) → IsStep nets reads cubes step → shown_step (reads ++ more) (cubes ++ rows) step ≡ shown_step reads cubes step
  step_more step is =
      let one : take step.width (drop step.first (reads ++ more)) ≡ take step.width (drop step.first reads) = within_more reads more step.first step.width is.read in
      let two : span_items (cubes ++ rows) step.cubes ≡ span_items cubes step.cubes = part_more cubes rows step.cubes is.rows in
      ap (λ (ins : List ℕ). cell ins step.out (step_cover (cubes ++ rows) step)) one
      ∙ ap (λ (cs : List Cube). cell (take step.width (drop step.first reads)) step.out (cover_with step.width step.on cs)) two

  all_shown_more : (steps : List ProgramStep) → AllByRecursion (IsStep nets reads cubes) steps → map (shown_step (reads ++ more) (cubes ++ rows)) steps ≡ map (shown_step reads cubes) steps
  all_shown_more [] all = refl
  all_shown_more (step ∷ steps) all =
      let head = step_more step all.0 in
      let tail = all_shown_more steps all.1 in
      cc

  is_step_more : (step : ProgramStep) → IsStep nets reads cubes step → IsStep nets (reads ++ more) (cubes ++ rows) step
  is_step_more step is = record {
    read = (let long = length-append reads more in let a = is.read in omega arith);
    rows = is_part_more cubes rows step.cubes is.rows;
    out = is.out;
    cover = subst (λ (cs : List Cube). IsCover (cover_with step.width step.on cs)) (sym (part_more cubes rows step.cubes is.rows)) is.cover;
    table = λ few. subst (λ (cs : List Cube). IsTruthTable step.table (cover_with step.width step.on cs)) (sym (part_more cubes rows step.cubes is.rows)) (is.table few);
  }

  all_steps_more : (steps : List ProgramStep) → AllByRecursion (IsStep nets reads cubes) steps → AllByRecursion (IsStep nets (reads ++ more) (cubes ++ rows)) steps
  all_steps_more [] all = tt
  all_steps_more (step ∷ steps) all = (is_step_more step all.0, all_steps_more steps all.1)

-- one more step
module _ (nets : ℕ) (steps : List ProgramStep) (reads more reads' : List ℕ) (cubes cubes' : List Cube) (cover : Cover) (out table first : ℕ) (part : Span)
    (all : AllByRecursion (IsStep nets reads cubes) steps)
    (extended : reads' ≡ reads ++ more) (extended' : cubes' ≡ cubes ++ cover.cubes)
    (place : first ≡ length reads) (place' : part.start ≡ length cubes) (end' : part.end ≡ length cubes')
    (rules : IsCover cover) (wide : cover.inputs ≡ length more) (within : out < nets) (is : cover.inputs ≤ 6 → IsTruthTable table cover) where
  abbrev new_step : ProgramStep
  new_step = record { table = table; out = out; first = first; width = cover.inputs; cubes = part; on = cover.on }

  own_rows : span_items (cubes ++ cover.cubes) part ≡ cover.cubes
  own_rows =
      let long = ap length extended' ∙ length-append cubes cover.cubes in
      appended cubes cover.cubes part.start (part.end - part.start) place' (omega arith)

  own_cover : step_cover (cubes ++ cover.cubes) new_step ≡ cover
  own_cover = ap (cover_with cover.inputs cover.on) own_rows

  shown_new : shown_step (reads ++ more) (cubes ++ cover.cubes) new_step ≡ cell more out cover
  shown_new =
      ap (λ (ins : List ℕ). cell ins out (step_cover (cubes ++ cover.cubes) new_step)) (appended reads more first cover.inputs place wide)
      ∙ ap (λ (c : Cover). cell more out c) own_cover

  is_new : IsStep nets (reads ++ more) (cubes ++ cover.cubes) new_step
  is_new = record {
    read = (let long = length-append reads more in omega arith);
    rows = (let long = length-append cubes cover.cubes in let same = ap length extended' in (omega arith, omega arith));
    out = within;
    cover = subst IsCover (sym own_cover) rules;
    table = λ few. subst (IsTruthTable table) (sym own_cover) (is few);
  }

  pub pushed_shown : map (shown_step reads' cubes') (steps ++ new_step ∷ []) ≡ map (shown_step reads cubes) steps ++ cell more out cover ∷ []
  pushed_shown =
      ap (λ (rs : List ℕ). map (shown_step rs cubes') (steps ++ new_step ∷ [])) extended
      ∙ ap (λ (cs : List Cube). map (shown_step (reads ++ more) cs) (steps ++ new_step ∷ [])) extended'
      ∙ map-append (shown_step (reads ++ more) (cubes ++ cover.cubes)) steps (new_step ∷ [])
      ∙ ap (λ (cs : List FlatCover). cs ++ shown_step (reads ++ more) (cubes ++ cover.cubes) new_step ∷ []) (all_shown_more nets reads more cubes cover.cubes steps all)
      ∙ ap (λ (c : FlatCover). map (shown_step reads cubes) steps ++ c ∷ []) shown_new

  pub pushed_steps : AllByRecursion (IsStep nets reads' cubes') (steps ++ new_step ∷ [])
  pushed_steps =
      subst (λ (rs : List ℕ). AllByRecursion (IsStep nets rs cubes') (steps ++ new_step ∷ [])) (sym extended)
      (subst (λ (cs : List Cube). AllByRecursion (IsStep nets (reads ++ more) cs) (steps ++ new_step ∷ [])) (sym extended')
      (all_push (IsStep nets (reads ++ more) (cubes ++ cover.cubes)) steps new_step (all_steps_more nets reads more cubes cover.cubes steps all) is_new))

pub pushed_reads : (nets : ℕ) (reads more reads' : List ℕ) → reads' ≡ reads ++ more → AllByRecursion (λ k. k < nets) reads → AllByRecursion (λ k. k < nets) more → AllByRecursion (λ k. k < nets) reads'
pushed_reads nets reads more reads' extended all below = subst (AllByRecursion (λ (k : ℕ). k < nets)) (sym extended) (all_append (λ (k : ℕ). k < nets) reads more all below)
