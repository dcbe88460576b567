-- How long the text of a cell is.
use Rattle.std.proofs.Common.{◌≡◌, ℕ, zero, suc, ◌+◌, ◌*◌, ◌≤◌, ◌/◌, ◌==◌, Bool, true, false, cond, List, [], ◌∷◌, ◌++◌, length, map, None, ◌∙◌, ap, length-append, suc-mul, arith, refl}
use Rattle.std.specs.Prelude.{codes}
use Rattle.std.specs.List.{flat_map, sum_by}
use Rattle.std.proofs.lemmas.List.Sums.{sum_by-cons, sum_by-append}
use Rattle.lid_cover.specs.declared.Cover.{Cover}
use Rattle.lid_cover.specs.declared.Cube.{Cube}
use Rattle.lid_design.specs.declared.Cell.{Cell}
use Rattle.lid_design.specs.declared.Cell.TheVariants.{Names, Latch}
use Rattle.lid_design.specs.declared.LatchKind.TheVariants.{Plain}
use Rattle.lid_base_lines.specs.Texts.{Words, line_text, lines_text, spaced}
use Rattle.lid_base_lines.proofs.Pieces.{line_text_cons, lines_text_append}
use Rattle.lid_blifout.specs.Canonical.{characters, output_word, cube_line, cell_lines}
use Rattle.lid_emit_names.specs.Named.{init_of}

-- the words of a line, each with one byte after it
abbrev pub line_size : Words → ℕ
line_size words = sum_by (λ (word : List ℕ). 1 + length word) words

spaced_size : (words : Words) → length (spaced words) ≡ line_size words
spaced_size [] = refl
spaced_size (word ∷ words) =
    let a = length-append (32 ∷ word) (spaced words) in
    let b = sum_by-cons (λ (word : List ℕ). 1 + length word) word words in
    let c = spaced_size words in
    omega arith

pub line_long : (word : List ℕ) (words : Words) → length (line_text (word ∷ words)) ≡ line_size (word ∷ words)
line_long word words =
    let whole = ap length (line_text_cons word words) in
    let a = length-append word (spaced words ++ 10 ∷ []) in
    let b = length-append (spaced words) (10 ∷ []) in
    let c = spaced_size words in
    let e = sum_by-cons (λ (word : List ℕ). 1 + length word) word words in
    omega arith

abbrev pub lines_size : List Words → ℕ
lines_size lines = length (lines_text lines)

pub lines_two : (xs ys : List Words) → lines_size (xs ++ ys) ≡ lines_size xs + lines_size ys
lines_two xs ys = ap length (lines_text_append xs ys) ∙ length-append (lines_text xs) (lines_text ys)

pub lines_more : (word : List ℕ) (words : Words) (lines : List Words) → lines_size ((word ∷ words) ∷ lines) ≡ line_size (word ∷ words) + lines_size lines
lines_more word words lines =
    let a = length-append (line_text (word ∷ words)) (lines_text lines) in
    let b = line_long word words in
    omega arith

characters_long : (inputs care value : ℕ) → length (characters inputs care value) ≡ inputs
characters_long zero care value = refl
characters_long (suc inputs) care value = ap suc (characters_long inputs (care / 2) (value / 2))

output_long : (on : Bool) → length (output_word on) ≡ 1
output_long true = refl
output_long false = refl

-- a row has a character for each input, the output, and two more
row_size : (inputs : ℕ) (on : Bool) (cube : Cube) (lines : List Words) → lines_size (cube_line inputs on cube ∷ lines) ≤ (inputs + 3) + lines_size lines
row_size inputs on cube lines = by (inputs == 0)
  where
    by : (b : Bool) → lines_size (cond b (output_word on ∷ []) (characters inputs cube.care cube.value ∷ output_word on ∷ []) ∷ lines) ≤ (inputs + 3) + lines_size lines
    by true =
        let a = lines_more (output_word on) [] lines in
        let b = sum_by-cons (λ (word : List ℕ). 1 + length word) (output_word on) [] in
        let c = output_long on in
        omega arith
    by false =
        let a = lines_more (characters inputs cube.care cube.value) (output_word on ∷ []) lines in
        let b = sum_by-cons (λ (word : List ℕ). 1 + length word) (characters inputs cube.care cube.value) (output_word on ∷ []) in
        let e = sum_by-cons (λ (word : List ℕ). 1 + length word) (output_word on) [] in
        let c = output_long on in
        let f = characters_long inputs cube.care cube.value in
        omega arith

rows_size : (inputs : ℕ) (on : Bool) (cubes : List Cube) → lines_size (map (cube_line inputs on) cubes) ≤ length cubes * (inputs + 3)
rows_size inputs on [] = omega arith
rows_size inputs on (cube ∷ cubes) =
    let here = row_size inputs on cube (map (cube_line inputs on) cubes) in
    let later = rows_size inputs on cubes in
    let product : suc (length cubes) * (inputs + 3) ≡ length cubes * (inputs + 3) + (inputs + 3) = suc-mul (length cubes) (inputs + 3) in
    omega arith

abbrev pub cell_text : Cell → ℕ
cell_text cell = lines_size (cell_lines cell)

pub names_text : (inputs : List (List ℕ)) (out : List ℕ) (cover : Cover) → cell_text (Names inputs out cover) ≤ 7 + line_size inputs + (1 + length out) + length cover.cubes * (cover.inputs + 3)
names_text inputs out cover =
    let rows = rows_size cover.inputs cover.on cover.cubes in
    let a = lines_more (codes ".names") (inputs ++ out ∷ []) (map (cube_line cover.inputs cover.on) cover.cubes) in
    let b = sum_by-cons (λ (word : List ℕ). 1 + length word) (codes ".names") (inputs ++ out ∷ []) in
    let c = sum_by-append (λ (word : List ℕ). 1 + length word) inputs (out ∷ []) in
    let e = sum_by-cons (λ (word : List ℕ). 1 + length word) out [] in
    let key : length (codes ".names") ≡ 6 = refl in
    omega arith

pub latch_text : (input out : List ℕ) (first : Bool) → cell_text (Latch input out Plain None (init_of first)) ≤ 9 + (1 + length input) + (1 + length out)
latch_text input out first = by first
  where
    one : (word : List ℕ) → length word ≡ 1 → lines_size ((codes ".latch" ∷ input ∷ out ∷ word ∷ []) ∷ []) ≤ 9 + (1 + length input) + (1 + length out)
    one word short =
        let a = lines_more (codes ".latch") (input ∷ out ∷ word ∷ []) [] in
        let b = sum_by-cons (λ (word : List ℕ). 1 + length word) (codes ".latch") (input ∷ out ∷ word ∷ []) in
        let c = sum_by-cons (λ (word : List ℕ). 1 + length word) input (out ∷ word ∷ []) in
        let e = sum_by-cons (λ (word : List ℕ). 1 + length word) out (word ∷ []) in
        let f = sum_by-cons (λ (word : List ℕ). 1 + length word) word [] in
        let key : length (codes ".latch") ≡ 6 = refl in
        omega arith

    by : (first : Bool) → cell_text (Latch input out Plain None (init_of first)) ≤ 9 + (1 + length input) + (1 + length out)
    by true = one (codes "1") refl
    by false = one (codes "0") refl

-- the text of cells is that of each
pub cells_text : (cells : List Cell) → lines_size (flat_map cell_lines cells) ≡ sum_by cell_text cells
cells_text [] = refl
cells_text (cell ∷ cells) =
    let a = lines_two (cell_lines cell) (flat_map cell_lines cells) in
    let b = sum_by-cons cell_text cell cells in
    let c = cells_text cells in
    omega arith
