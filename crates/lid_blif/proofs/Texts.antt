-- The design of a text without fault is well formed.
use Rattle.std.proofs.Common.{◌≡◌, ℕ, suc, ◌+◌, ◌<◌, ◌≤◌, ◌^◌, Bool, true, false, cond, List, [], ◌∷◌, length, refl, subst, arith}
use Rattle.std.specs.Prelude.{Option, Some, None, map, nat_lt}
use Rattle.std.specs.List.{slice_split, enumerate_from, IsDistinct}
use Rattle.std.proofs.lemmas.Bool.{ltb-false}
use Rattle.std.proofs.lemmas.List.{length-map}
use Rattle.std.proofs.lemmas.List.Splits.{length-slice_split}
use Rattle.std.proofs.lemmas.List.FromFn.{length-enumerate_from}
use Rattle.std.proofs.lemmas.List.Sums.{count_by-le-length}
use Rattle.lid_base.specs.declared.line.Line.{Line}
use Rattle.lid_base.specs.declared.line.TextFault.{TextFault}
use Rattle.lid_base.specs.declared.which.Which.TheVariants.{FileBytes}
use Rattle.lid_base.specs.Lines.{is_newline, goes_on, onto_first_join, joins_of, line_of, has_words, physical_lines, logical_lines, text_fault}
use Rattle.lid_blif.specs.declared.fault.BlifFault.{BlifFault}
use Rattle.lid_blif.specs.declared.fault.BlifFault.TheVariants.{NoModel, Text, Limit}
use Rattle.lid_blif.specs.Faults.{lines_fault, after_text, blif_fault}
use Rattle.lid_blif.specs.Designs.{models_of, design_of}
use Rattle.lid_design.specs.WellFormed.{model_name, IsWellFormed}
use Rattle.lid_blif.proofs.Faults.{AreNames, names_of_models, some_model, narrow_lines}
use Rattle.lid_blif.proofs.Cubes.{models_formed, models_insts}
use Rattle.lid_base.proofs.Lists.{filter_le}

onto_first_join_le : {A : Type 0} (p : A) (joins : List (List A)) (n : ℕ) → length joins ≤ n → length (onto_first_join p joins) ≤ suc n
onto_first_join_le p [] n h = omega arith
onto_first_join_le p (join ∷ joins) n h = omega arith

joins_le : (ps : List (ℕ × List ℕ)) → length (joins_of ps) ≤ length ps
joins_le [] = omega arith
joins_le (p ∷ ps) =
    let later = joins_le ps in
    elim (goes_on p.1) as (λ b. length (cond b (onto_first_join p (joins_of ps)) ((p ∷ []) ∷ joins_of ps)) ≤ suc (length ps)) [
      | true ↦ onto_first_join_le p (joins_of ps) (length ps) later
      | false ↦ omega arith
    ]

-- a text has at most one line more than bytes
pub logical_lines_le : (bytes : List ℕ) → length (logical_lines bytes) ≤ length bytes + 1
unfolding logical_lines physical_lines
logical_lines_le bytes =
    let parts = slice_split is_newline bytes in
    let ps = enumerate_from 1 parts in
    let kept = filter_le has_words (map line_of (joins_of ps)) in
    let joined : length (map line_of (joins_of ps)) ≤ length ps = simp length-map (joins_le ps) in
    omega (arith, kept, joined, length-enumerate_from 1 parts, length-slice_split is_newline bytes, count_by-le-length is_newline bytes)

no_names : AreNames []
unfolding IsDistinct
no_names = record { distinct = tt; few = omega arith }

-- lines without fault stand for models of names that are distinct, and not too many
names_read : (l : Line) (ls : List Line) → lines_fault (l ∷ ls) ≡ None → AreNames (map model_name (models_of (l ∷ ls)))
names_read l ls h = names_of_models [] (l ∷ ls) h no_names

models_few : (l : Line) (ls : List Line) → lines_fault (l ∷ ls) ≡ None → length (models_of (l ∷ ls)) ≤ 4096
models_few l ls h = subst (λ n. n ≤ 4096) (length-map (models_of (l ∷ ls)) model_name) (names_read l ls h).few

-- lines without fault stand for a well-formed design of at most 4,096 models
pub lines_formed : (ls : List Line) → length ls < 2 ^ 32 → lines_fault ls ≡ None → IsWellFormed (design_of ls)
unfolding design_of
lines_formed [] few h = absurd (let e : Some (NoModel 0) ≡ None = h in cc)
lines_formed (l ∷ ls) few h = record {
  rooted = some_model l ls h;
  few = omega (arith, models_few l ls h);
  distinct = (names_read l ls h).distinct;
  insts = models_insts (2 ^ 32) (l ∷ ls) few;
  cells = models_formed (l ∷ ls) (narrow_lines [] (l ∷ ls) h);
}

pub lines_few : (ls : List Line) → lines_fault ls ≡ None → length (design_of ls).models ≤ 4096
unfolding design_of
lines_few [] h = absurd (let e : Some (NoModel 0) ≡ None = h in cc)
lines_few (l ∷ ls) h = models_few l ls h

cond_none : (b : Bool) (fault : BlifFault) (later : Option BlifFault) → cond b (Some fault) later ≡ None → (b ≡ false) × (later ≡ None)
cond_none true fault later h = absurd (let e : Some fault ≡ None = h in cc)
cond_none false fault later h = (refl, h)

after_text_none : (fault : Option TextFault) (ls : List Line) → after_text fault ls ≡ None → lines_fault ls ≡ None
after_text_none None ls h = h
after_text_none (Some fault) ls h = absurd (let e : Some (Text fault) ≡ None = h in cc)

lines_good : (bytes : List ℕ) → blif_fault bytes ≡ None → (length bytes ≤ 16777216) × (lines_fault (logical_lines bytes) ≡ None)
unfolding blif_fault
lines_good bytes h =
    let parts = cond_none (nat_lt 16777216 (length bytes)) (Limit FileBytes (length bytes)) (after_text (text_fault 1024 bytes) (logical_lines bytes)) h in
    (ltb-false 16777216 (length bytes) parts.0, after_text_none (text_fault 1024 bytes) (logical_lines bytes) parts.1)

-- a text without fault stands for a well-formed design of at most 4,096 models
pub text_formed : (bytes : List ℕ) → blif_fault bytes ≡ None → IsWellFormed (design_of (logical_lines bytes))
text_formed bytes h =
    let good = lines_good bytes h in
    lines_formed (logical_lines bytes) (omega (arith, good.0, logical_lines_le bytes)) good.1

pub text_few : (bytes : List ℕ) → blif_fault bytes ≡ None → length (design_of (logical_lines bytes)).models ≤ 4096
text_few bytes h = lines_few (logical_lines bytes) (lines_good bytes h).1
