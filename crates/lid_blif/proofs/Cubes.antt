-- The cells that lines without fault stand for are well formed.
use Rattle.std.proofs.Common.{◌≡◌, ℕ, zero, suc, ◌+◌, ◌*◌, ◌^◌, ◌<◌, ◌≤◌, Bool, true, false, cond, List, [], ◌∷◌, length, take, drop, refl, sym, ap, ◌∙◌, arith, length-take, length-drop}
use Rattle.std.specs.Prelude.{map, not, ◌==◌, bit_and}
use Rattle.std.specs.List.{AllByRecursion}
use Rattle.std.proofs.lemmas.List.{length-map}
use Rattle.std.proofs.lemmas.Nat.{and_block}
use Rattle.std.specs.Int.Bits.{and_zero_l}
use Rattle.std.proofs.Math.Pow.{pow_mono}
use Rattle.std.proofs.lemmas.Bool.Decides.{nat_tests}
use Rattle.lid_base.specs.declared.line.Line.{Line}
use Rattle.lid_cover.specs.Cover.{IsCube, IsCover}
use Rattle.lid_design.specs.declared.Cell.{Cell}
use Rattle.lid_blif.specs.declared.keyword.Keyword.{Keyword}
use Rattle.lid_blif.specs.declared.keyword.Keyword.TheVariants.{Model, Names, Latch, Subckt, Row}
use Rattle.lid_base.specs.Words.{word_at}
use Rattle.lid_blif.specs.Words.{keyword_of, is_line, inputs_of, leading, is_inner}
use Rattle.lid_blif.specs.Designs.{IsNarrow, mask_of, is_cared_for, is_character_one, cube_of, cover_of, names_cell, cell_before, cells_of, insts_of, model_of, models_of}
use Rattle.lid_design.specs.WellFormed.{IsWellFormedCell}
use Rattle.lid_blif.proofs.Masks.{mask_below}
use Rattle.lid_base.proofs.Lists.{filter_le}

-- the value of a character is 1 only where it is cared for
value_cared : (c : ℕ) → bit_and (cond (c == 49) 1 0) (cond (not (c == 45)) 1 0) ≡ cond (c == 49) 1 0
value_cared c = cases (c == 49) refl
  where
    cases : (b : Bool) → (c == 49) ≡ b → bit_and (cond (c == 49) 1 0) (cond (not (c == 45)) 1 0) ≡ cond (c == 49) 1 0
    cases true e = let is : c ≡ 49 = grind (arith, nat_tests) in rw is
    cases false e = rw e (and_zero_l (cond (not (c == 45)) 1 0))

below_two : (b : Bool) → cond b 1 0 < 2 ^ 1
below_two true = omega arith
below_two false = omega arith

double : (a r : ℕ) → 2 * a + r ≡ a * 2 ^ 1 + r
double a r = omega arith

value_within : (cs : List ℕ) → bit_and (mask_of (map is_character_one cs)) (mask_of (map is_cared_for cs)) ≡ mask_of (map is_character_one cs)
value_within [] = refl
value_within (c ∷ cs) =
    let v = mask_of (map is_character_one cs) in
    let k = mask_of (map is_cared_for cs) in
    let a = cond (c == 49) 1 0 in
    let b = cond (not (c == 45)) 1 0 in
    let split = and_block 1 v k a b (below_two (c == 49)) (below_two (not (c == 45))) in
    let doubled : bit_and (2 * v + a) (2 * k + b) ≡ bit_and (v * 2 ^ 1 + a) (k * 2 ^ 1 + b) = ap (λ x. bit_and x (2 * k + b)) (double v a) ∙ ap (bit_and (v * 2 ^ 1 + a)) (double k b) in
    doubled ∙ split ∙ ap (λ x. x * 2 ^ 1 + bit_and a b) (value_within cs) ∙ ap (λ x. v * 2 ^ 1 + x) (value_cared c) ∙ sym (double v a)

IsCube_cube_of : (inputs : ℕ) (row : Line) → IsCube inputs (cube_of inputs row)
IsCube_cube_of inputs row =
    let cs = take inputs (word_at row.words 0) in
    let few : length (map is_cared_for cs) ≤ inputs = simp (length-map, length-take) (omega arith) in
    let most : 2 ^ length (map is_cared_for cs) ≤ 2 ^ inputs = pow_mono few in
    record { in_range = omega (arith, mask_below (map is_cared_for cs)); within = value_within cs }

cubes_formed : (inputs : ℕ) (rows : List Line) → AllByRecursion (IsCube inputs) (map (cube_of inputs) rows)
cubes_formed inputs [] = tt
cubes_formed inputs (row ∷ rows) = (IsCube_cube_of inputs row, cubes_formed inputs rows)

names_formed : (words : List (List ℕ)) (rows : List Line) → inputs_of words ≤ 64 → IsWellFormedCell (names_cell words rows)
names_formed words rows few =
    let cover : IsCover (cover_of words rows) = record { width = omega arith; cubes = cubes_formed (inputs_of words) rows } in
    let count : inputs_of words ≡ length (take (inputs_of words) (drop 1 words)) = simp (length-take, length-drop) (omega arith) in
    (cover, count)

cell_formed : (k : Keyword) (l : Line) (later : List Line) (cells : List Cell) → k ≡ keyword_of l.words → IsNarrow l → AllByRecursion IsWellFormedCell cells → AllByRecursion IsWellFormedCell (cell_before k l.words later cells)
cell_formed Names l later cells e narrow h = (names_formed l.words (leading (is_line Row) later) (narrow e), h)
cell_formed Latch l later cells e narrow h = (tt, h)
cell_formed _ l later cells e narrow h = h

cells_formed : (ls : List Line) → AllByRecursion IsNarrow ls → AllByRecursion IsWellFormedCell (cells_of ls)
cells_formed [] h = tt
cells_formed (l ∷ ls) h = cell_formed (keyword_of l.words) l ls (cells_of ls) refl h.0 (cells_formed ls h.1)

pub leading_all : (p : Line → Bool) (P : Line → Type 0) (ls : List Line) → AllByRecursion P ls → AllByRecursion P (leading p ls)
leading_all p P [] h = tt
leading_all p P (l ∷ ls) h =
    let later = leading_all p P ls h.1 in
    elim (p l) as (λ b. AllByRecursion P (cond b (l ∷ leading p ls) [])) [ true ↦ (h.0, later) | false ↦ tt ]

-- what holds of all lines holds of the first of them, and of those after a number
pub lines_first : (P : Line → Type 0) (n : ℕ) (ls : List Line) → AllByRecursion P ls → AllByRecursion P (take n ls)
lines_first P zero ls all = tt
lines_first P (suc n) [] all = tt
lines_first P (suc n) (x ∷ xs) all = (all.0, lines_first P n xs all.1)

pub lines_after : (P : Line → Type 0) (n : ℕ) (ls : List Line) → AllByRecursion P ls → AllByRecursion P (drop n ls)
lines_after P zero ls all = all
lines_after P (suc n) [] all = tt
lines_after P (suc n) (x ∷ xs) all = lines_after P n xs all.1

-- the cells of all models are well formed
pub models_formed : (ls : List Line) → AllByRecursion IsNarrow ls → AllByRecursion (λ m. AllByRecursion IsWellFormedCell m.cells) (models_of ls)
unfolding model_of
models_formed [] h = tt
models_formed (l ∷ ls) h =
    let body = leading is_inner ls in
    let here = cells_formed body (leading_all is_inner IsNarrow ls h.1) in
    let later = models_formed ls h.1 in
    elim (is_line Model l) as (λ b. AllByRecursion (λ m. AllByRecursion IsWellFormedCell m.cells) (cond b (model_of (word_at l.words 1) body ∷ models_of ls) (models_of ls))) [
      | true ↦ (here, later)
      | false ↦ later
    ]

leading_le : (p : Line → Bool) (ls : List Line) → length (leading p ls) ≤ length ls
leading_le p [] = omega arith
leading_le p (l ∷ ls) =
    let later = leading_le p ls in
    elim (p l) as (λ b. length (cond b (l ∷ leading p ls) []) ≤ suc (length ls)) [ true ↦ omega arith | false ↦ omega arith ]

insts_le : (ls : List Line) → length (insts_of ls) ≤ length ls
insts_le ls = simp length-map (filter_le (is_line Subckt) ls)

-- no model has more instances than the text has lines
pub models_insts : (n : ℕ) (ls : List Line) → length ls < n → AllByRecursion (λ m. length m.insts < n) (models_of ls)
unfolding model_of
models_insts n [] h = tt
models_insts n (l ∷ ls) h =
    let body = leading is_inner ls in
    let here : length (insts_of body) < n = omega (arith, insts_le body, leading_le is_inner ls) in
    let later = models_insts n ls (omega arith) in
    elim (is_line Model l) as (λ b. AllByRecursion (λ m. length m.insts < n) (cond b (model_of (word_at l.words 1) body ∷ models_of ls) (models_of ls))) [
      | true ↦ (here, later)
      | false ↦ later
    ]
