-- Lines and texts, a piece at a time.
use Rattle.std.proofs.Common.{◌≡◌, ℕ, zero, suc, ◌-◌, ◌/◌, ◌<◌, ◌==◌, Bool, true, false, cond, List, [], ◌∷◌, ◌++◌, length, refl, sym, subst, ap, ◌∙◌, append-nil, append_assoc, arith}
use Rattle.std.specs.Prelude.{map, codes, Result, Ok, Err, OnOk, is_ok}
use Rattle.std.specs.List.{flat_map}
use Rattle.lid_cover.specs.declared.Cube.{Cube}
use Rattle.lid_design.specs.declared.Model.{Model}
use Rattle.lid_design.specs.declared.Bind.{Bind}
use Rattle.lid_base_lines.specs.Texts.{Words, line_text, lines_text, spaced}
use Rattle.lid_base_lines.proofs.Pieces.{line_text_cons, lines_text_append, spaced_push}
use Rattle.lid_blifout.specs.Canonical.{bind_word, character, characters, cube_line, output_word, cell_lines, inst_line, listed, model_lines}
use Rattle.lid_blifout.specs.Pieces.{spaced_binds, asked_text}
use Rattle.lid_base.proofs.Lists.{appended}

pub spaced_bound : (binds : List Bind) → spaced (map bind_word binds) ≡ spaced_binds binds
spaced_bound [] = refl
spaced_bound (bind ∷ binds) = ap (λ (bytes : List ℕ). (32 ∷ bind_word bind) ++ bytes) (spaced_bound binds)

pub cube_text : (inputs : ℕ) (on : Bool) (cube : Cube) → line_text (cube_line inputs on cube) ≡ asked_text inputs cube ++ (output_word on ++ 10 ∷ [])
cube_text inputs on cube = by (inputs == 0)
  where
    by : (b : Bool) → line_text (cond b (output_word on ∷ []) (characters inputs cube.care cube.value ∷ output_word on ∷ [])) ≡ cond b [] (characters inputs cube.care cube.value ++ 32 ∷ []) ++ (output_word on ++ 10 ∷ [])
    by true = line_text_cons (output_word on) []
    by false =
        line_text_cons (characters inputs cube.care cube.value) (output_word on ∷ [])
        ∙ ap (λ (bytes : List ℕ). characters inputs cube.care cube.value ++ (bytes ++ 10 ∷ [])) (append-nil (32 ∷ output_word on))
        ∙ sym (append_assoc (characters inputs cube.care cube.value) (32 ∷ []) (output_word on ++ 10 ∷ []))

pub characters_push : (n care value : ℕ) (old new : List ℕ) → 0 < n → new ≡ old ++ character care value ∷ [] → new ++ characters (n - 1) (care / 2) (value / 2) ≡ old ++ characters n care value
characters_push zero care value old new h e = absurd (omega arith)
characters_push (suc n) care value old new h e =
    let less : suc n - 1 ≡ n = omega arith in
    ap (λ (m : ℕ). new ++ characters m (care / 2) (value / 2)) less
    ∙ ap (λ (bytes : List ℕ). bytes ++ characters n (care / 2) (value / 2)) e
    ∙ append_assoc old (character care value ∷ []) (characters n (care / 2) (value / 2))

pub latch_said : (input out init : List ℕ) (kinds : Words) → (((32 ∷ input) ++ (32 ∷ out)) ++ spaced kinds) ++ 32 ∷ init ≡ spaced (input ∷ out ∷ (kinds ++ init ∷ []))
latch_said input out init kinds =
    append_assoc ((32 ∷ input) ++ (32 ∷ out)) (spaced kinds) (32 ∷ init)
    ∙ append_assoc (32 ∷ input) (32 ∷ out) (spaced kinds ++ 32 ∷ init)
    ∙ ap (λ (bytes : List ℕ). (32 ∷ input) ++ ((32 ∷ out) ++ bytes)) (spaced_push kinds init)

pub listed_text : (keyword : List ℕ) (names : Words) → 0 < length names → line_text (keyword ∷ names) ≡ lines_text (listed keyword names)
listed_text keyword [] h = absurd (omega arith)
listed_text keyword (name ∷ names) h = sym (append-nil (line_text (keyword ∷ name ∷ names)))

pub on_ok_items : {T E : Type 0} (result : Result T E) (new a b : List ℕ) → new ≡ cond (is_ok result) a b → OnOk result (new ≡ a)
on_ok_items (Ok x) new a b h = h
on_ok_items (Err e) new a b h = tt

-- lines of lists
model_text : (m : Model)
    → lines_text (model_lines m)
    ≡ line_text (codes ".model" ∷ m.name ∷ [])
    ++ (lines_text (listed (codes ".inputs") m.inputs)
    ++ (lines_text (listed (codes ".outputs") m.outputs)
    ++ (lines_text (listed (codes ".clock") m.clocks) ++ (lines_text (flat_map cell_lines m.cells) ++ (lines_text (map inst_line m.insts) ++ codes ".end\n")))))
unfolding line_text
model_text m = simp lines_text_append

-- a model, piece by piece
pub model_made : (m : Model) (o a b c d e f new : List ℕ)
    → a ≡ o ++ line_text (codes ".model" ∷ m.name ∷ [])
    → b ≡ a ++ lines_text (listed (codes ".inputs") m.inputs)
    → c ≡ b ++ lines_text (listed (codes ".outputs") m.outputs)
    → d ≡ c ++ lines_text (listed (codes ".clock") m.clocks)
    → e ≡ d ++ lines_text (flat_map cell_lines m.cells)
    → f ≡ e ++ lines_text (map inst_line m.insts)
    → new ≡ f ++ codes ".end\n"
    → new ≡ o ++ lines_text (model_lines m)
model_made m o a b c d e f new ha hb hc hd he hf hn =
    let title = line_text (codes ".model" ∷ m.name ∷ []) in
    let inputs = lines_text (listed (codes ".inputs") m.inputs) in
    let outputs = lines_text (listed (codes ".outputs") m.outputs) in
    let clocks = lines_text (listed (codes ".clock") m.clocks) in
    let cells = lines_text (flat_map cell_lines m.cells) in
    let insts = lines_text (map inst_line m.insts) in
    let two = appended o a b title inputs ha hb in
    let three = appended o b c (title ++ inputs) outputs two hc in
    let four = appended o c d ((title ++ inputs) ++ outputs) clocks three hd in
    let five = appended o d e (((title ++ inputs) ++ outputs) ++ clocks) cells four he in
    let six = appended o e f ((((title ++ inputs) ++ outputs) ++ clocks) ++ cells) insts five hf in
    let whole = appended o f new (((((title ++ inputs) ++ outputs) ++ clocks) ++ cells) ++ insts) (codes ".end\n") six hn in
    subst (λ (bytes : List ℕ). new ≡ o ++ bytes) (sym (model_text m)) (simp append_assoc at whole)
