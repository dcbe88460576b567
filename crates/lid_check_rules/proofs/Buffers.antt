-- What is known of covers that give their input.
use Rattle.std.proofs.Common.{◌≡◌, ℕ, ◌==◌, Bool, true, false, not, ◌&&◌, ◌||◌, List, [], ◌∷◌, length, refl, sym, ◌∙◌, ap, subst}
use Rattle.std.proofs.lemmas.Bool.{eqb-true, eq-eqb, ne_eqb}
use Rattle.lid_cover.specs.declared.Cover.{Cover}
use Rattle.lid_cover.specs.Cover.{cover_value}
use Rattle.lid_design.specs.declared.Cell.{Cell}
use Rattle.lid_design.specs.declared.Cell.TheVariants.{Names}
use Rattle.lid_design.specs.Models.{is_buffer, is_constant}
use Rattle.lid_design.specs.WellFormed.{IsWellFormedCell}
use Rattle.lid_check_rules.specs.Buffers.{passes_on}

-- a cell is a buffer where its cover gives its input
pub buffer_passes : (inputs : List (List ℕ)) (out : List ℕ) (cover : Cover) → cover.inputs ≡ length inputs → passes_on cover ≡ is_buffer (Names inputs out cover)
unfolding passes_on
buffer_passes inputs out cover wide = ap (λ (n : ℕ). (n == 1) && (not (cover_value cover (false ∷ [])) && cover_value cover (true ∷ []))) wide

-- a cover that has not one input gives none
pub passes_none : (cover : Cover) → (cover.inputs ≡ 1 → ⊥) → passes_on cover ≡ false
unfolding passes_on
passes_none cover apart = ap (λ (b : Bool). b && (not (cover_value cover (false ∷ [])) && cover_value cover (true ∷ []))) (ne_eqb cover.inputs 1 apart)

-- a cover of one input gives it where its values are those of the input
pub passes_one : (cover : Cover) → cover.inputs ≡ 1 → (zero one : Bool) → zero ≡ cover_value cover (false ∷ []) → one ≡ cover_value cover (true ∷ []) → passes_on cover ≡ (not zero && one)
unfolding passes_on
passes_one cover wide zero one at_zero at_one =
    ap (λ (b : Bool). b && (not (cover_value cover (false ∷ [])) && cover_value cover (true ∷ []))) (eq-eqb cover.inputs 1 wide)
    ∙ ap (λ (b : Bool). not b && cover_value cover (true ∷ [])) (sym at_zero)
    ∙ ap (λ (b : Bool). not zero && b) (sym at_one)

pub passing : (cover : Cover) → cover.inputs ≡ 1 → cover_value cover (false ∷ []) ≡ false → cover_value cover (true ∷ []) ≡ true → passes_on cover ≡ true
passing cover wide zero one = passes_one cover wide false true (sym zero) (sym one)

-- a cover that gives its input has one, and its value
pub passed_on : (cover : Cover) → passes_on cover ≡ true → (cover.inputs ≡ 1) × (cover_value cover (false ∷ []) ≡ false) × (cover_value cover (true ∷ []) ≡ true)
unfolding passes_on
passed_on cover e = by (cover.inputs == 1) (cover_value cover (false ∷ [])) (cover_value cover (true ∷ [])) refl refl refl e
  where
    by : (one a b : Bool) → (cover.inputs == 1) ≡ one → cover_value cover (false ∷ []) ≡ a → cover_value cover (true ∷ []) ≡ b → (one && (not a && b)) ≡ true → (cover.inputs ≡ 1) × (cover_value cover (false ∷ []) ≡ false) × (cover_value cover (true ∷ []) ≡ true)
    by true false true wide zero one h = (eqb-true cover.inputs 1 wide, zero, one)
    by true false false wide zero one h = absurd (let f : false ≡ true = h in cc)
    by true true b wide zero one h = absurd (let f : false ≡ true = h in cc)
    by false a b wide zero one h = absurd (let f : false ≡ true = h in cc)

-- a cell of names is a buffer or a constant by its cover, or where it has no inputs
pub wire_is : (cell : Cell) (inputs : List (List ℕ)) (out : List ℕ) (cover : Cover) → cell ≡ Names inputs out cover → IsWellFormedCell cell → (b : Bool) → b ≡ passes_on cover → (is_buffer cell || is_constant cell) ≡ (b || (length inputs == 0))
wire_is cell inputs out cover is formed b by_cover =
    ap (λ (c : Cell). is_buffer c || is_constant c) is
    ∙ ap (λ (v : Bool). v || (length inputs == 0)) (sym (buffer_passes inputs out cover (subst IsWellFormedCell is formed).1) ∙ sym by_cover)
