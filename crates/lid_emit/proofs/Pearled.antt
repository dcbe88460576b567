-- What is counted in the models of pearls, in all.
use Rattle.std.proofs.Common.{◌≡◌, ℕ, ◌+◌, ◌<◌, ◌==◌, Bool, true, false, cond, List, [], ◌∷◌, length, map, min, sum_by, get_or, slice_get, Option, Some, None, refl, sym, ◌∙◌, ap, subst, add-zero, inl, inr, arith}
use Rattle.std.specs.Option.{option_map_or}
use Rattle.std.specs.List.{range_with_len, count_by}
use Rattle.std.specs.Prelude.{IsSome}
use Rattle.std.proofs.lemmas.List.Sums.{sum_by-cons}
use Rattle.lid_base.specs.Lists.{Among}
use Rattle.lid_base.proofs.Lists.{all_among, map_among}
use Rattle.lid_design.specs.declared.Design.{Design}
use Rattle.lid_design.specs.declared.Model.{Model}
use Rattle.lid_design.specs.declared.Cell.{Cell}
use Rattle.lid_design.specs.declared.Cell.TheVariants.{Names, Latch}
use Rattle.lid_design.specs.Models.{number_from, instance_number, insts_of}
use Rattle.lid_design.specs.Loops.{pearls}
use Rattle.lid_design.specs.Elaboration.{Instance, instances_in, is_latch}
use Rattle.lid_check_parts.proofs.Lists.{all_range}
use Rattle.lid_check_parts.proofs.Finding.{whole_pearls, inst_pearls}
use Rattle.lid_check_hierarchy.specs.Surveys.{AreKnown}
use Rattle.lid_check_models.specs.declared.counts.Measure.{Measure}
use Rattle.lid_check_models.specs.declared.counts.Measure.TheVariants.{Depth, Latches, Covers, CoverInputs, CoverRows}
use Rattle.lid_check_models.specs.Counts.{own, in_cell, count_of}
use Rattle.lid_emit_meaning.specs.Sizes.{cell_size, cells_size, cells_size_in, pearl_size, at_path, over_pearls, pearls_size, AreModelCounts}
use Rattle.lid_emit.proofs.Adding.{four_parts, maybe_parts}

-- the path of the root, and of an instance of it
root_number : (d : Design) → number_from d d.root [] ≡ Some d.root
unfolding number_from
root_number d = refl

inst_number : (d : Design) (i : ℕ) → number_from d d.root (i ∷ []) ≡ instance_number d i d.root
unfolding number_from
inst_number d i = refl

-- the count of the root
pub root_count : (d : Design) (f : ℕ → ℕ) (counts : List ℕ) → AreModelCounts d f counts → get_or counts d.root 0 ≡ min (at_path d f []) 18446744073709551615
root_count d f counts are =
    are d.root ([], root_number d) ∙ ap (λ (o : Option ℕ). min (option_map_or f o 0) 18446744073709551615) (sym (root_number d))

-- the count of an instance of the root
pub inst_count : (d : Design) (f : ℕ → ℕ) (counts : List ℕ) (i k : ℕ) → AreModelCounts d f counts → instance_number d i d.root ≡ Some k → get_or counts k 0 ≡ min (at_path d f (i ∷ [])) 18446744073709551615
inst_count d f counts i k are names =
    let leads : number_from d d.root (i ∷ []) ≡ Some k = inst_number d i ∙ names in
    are k ((i ∷ []), leads) ∙ ap (λ (o : Option ℕ). min (option_map_or f o 0) 18446744073709551615) (sym leads)

-- of no instance
pub no_count : (d : Design) (f : ℕ → ℕ) (i : ℕ) → instance_number d i d.root ≡ None → 0 ≡ min (at_path d f (i ∷ [])) 18446744073709551615
no_count d f i none = sym (ap (λ (o : Option ℕ). min (option_map_or f o 0) 18446744073709551615) (inst_number d i ∙ none))

-- the pearls of a root without instances, and with some
pub over_root : (d : Design) (f : ℕ → ℕ) → length (insts_of d d.root) ≡ 0 → over_pearls d f ≡ at_path d f []
over_root d f none = ap (sum_by (at_path d f)) (whole_pearls d none) ∙ sum_by-cons (at_path d f) [] [] ∙ add-zero (at_path d f [])

pub over_insts : (d : Design) (f : ℕ → ℕ) (n : ℕ) → n ≡ length (insts_of d d.root) → 0 < n → over_pearls d f ≡ sum_by (at_path d f) (map (λ i. i ∷ []) (range_with_len 0 n))
over_insts d f n is some =
    ap (sum_by (at_path d f)) (inst_pearls d (omega arith))
    ∙ ap (λ (n : ℕ). sum_by (at_path d f) (map (λ i. i ∷ []) (range_with_len 0 n))) (sym is)

-- a cell counts as a latch, or as a cover with its inputs and rows
cell_parts : (cell : Cell) → cell_size cell ≡ cond (is_latch cell) 1 0 + in_cell Covers cell + in_cell CoverInputs cell + in_cell CoverRows cell
cell_parts (Names inputs out cover) = omega arith
cell_parts (Latch input out kind control init) = omega arith

model_parts : (d : Design) (k : ℕ) → cells_size d k ≡ own Latches d k + own Covers d k + own CoverInputs d k + own CoverRows d k
model_parts d k =
    maybe_parts (λ (m : Model). sum_by cell_size m.cells) (λ (m : Model). count_by is_latch m.cells) (λ (m : Model). sum_by (in_cell Covers) m.cells)
    (λ (m : Model). sum_by (in_cell CoverInputs) m.cells) (λ (m : Model). sum_by (in_cell CoverRows) m.cells)
    (λ (m : Model). four_parts cell_size (λ cell. cond (is_latch cell) 1 0) (in_cell Covers) (in_cell CoverInputs) (in_cell CoverRows) cell_parts m.cells)
    (slice_get d.models k)

-- what is counted in a model is a sum over its instances
abbrev pub AreSums : Type 0
AreSums = (what : Measure) (d : Design) (k : ℕ) → (what ≡ Depth → ⊥) → count_of what d k ≡ sum_by (λ p. own what d p.model) (instances_in (length d.models) d [] k)

module _ (sums : AreSums) (d : Design) where
  abbrev own_at : Measure → Instance → ℕ
  own_at what i = own what d i.model

  cells_parts : (k : ℕ) → cells_size_in d k ≡ count_of Latches d k + count_of Covers d k + count_of CoverInputs d k + count_of CoverRows d k
  cells_parts k =
      let all =
      four_parts (λ (i : Instance). cells_size d i.model) (own_at Latches) (own_at Covers) (own_at CoverInputs) (own_at CoverRows)
      (λ i. model_parts d i.model) (instances_in (length d.models) d [] k) in
      let latches = sums Latches d k (λ e. cc) in
      let covers = sums Covers d k (λ e. cc) in
      let inputs = sums CoverInputs d k (λ e. cc) in
      let rows = sums CoverRows d k (λ e. cc) in
      omega arith

  -- the latches and covers of all pearls
  pub pearls_parts : over_pearls d (cells_size_in d) ≡ over_pearls d (count_of Latches d) + over_pearls d (count_of Covers d) + over_pearls d (count_of CoverInputs d) + over_pearls d (count_of CoverRows d)
  pearls_parts =
      four_parts (at_path d (cells_size_in d)) (at_path d (count_of Latches d)) (at_path d (count_of Covers d)) (at_path d (count_of CoverInputs d)) (at_path d (count_of CoverRows d))
      (λ path. maybe_parts (cells_size_in d) (count_of Latches d) (count_of Covers d) (count_of CoverInputs d) (count_of CoverRows d) cells_parts (number_from d d.root path))
      (pearls d)

-- the path of each pearl leads to a model
module _ (d : Design) (known : AreKnown d) where
  leads : (path : List ℕ) → Among path (pearls d) → IsSome (number_from d d.root path)
  leads path among = by (length (insts_of d d.root) == 0) among
    where
      by : (b : Bool) → Among path (cond b ([] ∷ []) (map (λ i. i ∷ []) (range_with_len 0 (length (insts_of d d.root))))) → IsSome (number_from d d.root path)
      by true (inl same) = subst (λ (path : List ℕ). IsSome (number_from d d.root path)) (sym same) (subst IsSome (sym (root_number d)) refl)
      by true (inr none) = absurd none
      by false among =
          let found = map_among (λ (i : ℕ). i ∷ []) path (range_with_len 0 (length (insts_of d d.root))) among in
          let i = found.0 in
          let n = length (insts_of d d.root) in
          let less : i < n = all_among (λ (k : ℕ). k < n) (range_with_len 0 n) i (all_range (λ (k : ℕ). k < n) 0 n (λ k least less. omega arith)) found.1 in
          subst (λ (path : List ℕ). IsSome (number_from d d.root path)) (sym found.2)
          (subst IsSome (sym (inst_number d i)) (known d.root i ([], root_number d) less))

  one_more : (path : List ℕ) → IsSome (number_from d d.root path) → at_path d (pearl_size d) path ≡ 1 + at_path d (cells_size_in d) path
  one_more path some = by (number_from d d.root path) some
    where
      by : (o : Option ℕ) → IsSome o → option_map_or (pearl_size d) o 0 ≡ 1 + option_map_or (cells_size_in d) o 0
      by None some = cc
      by (Some k) some = refl

  -- for each pearl 1, and its latches and covers
  sizes_over : (paths : List (List ℕ)) → ((path : List ℕ) → Among path paths → IsSome (number_from d d.root path)) → sum_by (at_path d (pearl_size d)) paths ≡ sum_by (at_path d (cells_size_in d)) paths + length paths
  sizes_over [] each = refl
  sizes_over (path ∷ paths) each =
      let first = one_more path (each path (inl refl)) in
      let later = sizes_over paths (λ path among. each path (inr among)) in
      omega (arith, sum_by-cons (at_path d (pearl_size d)) path paths, sum_by-cons (at_path d (cells_size_in d)) path paths)

  pub sizes_are : pearls_size d ≡ over_pearls d (cells_size_in d) + length (pearls d)
  sizes_are = sizes_over (pearls d) leads
