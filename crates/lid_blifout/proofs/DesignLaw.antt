-- The lines of writable models stand for these models.
use Rattle.std.proofs.Common.{◌≡◌, ℕ, ◌+◌, ◌≤◌, Bool, true, false, List, [], ◌∷◌, ◌++◌, length, take, drop, refl, sym, ap, subst, ◌∙◌, append-nil, append_assoc, arith, length-append}
use Rattle.std.specs.Prelude.{IfSome, Option, Some, None, map, not, codes, bytes_eq}
use Rattle.std.specs.List.{AllByRecursion, list_any, flat_map}
use Rattle.std.proofs.lemmas.Bool.{or_left, or_from, cond-true, cond-false, not_from_false, not_from_true}
use Rattle.lid_base.specs.declared.line.Line.{Line}
use Rattle.lid_base.proofs.Lists.{all_append}
use Rattle.lid_cover.specs.Cover.{IsCube}
use Rattle.lid_cover.specs.declared.Cube.{Cube}
use Rattle.lid_cover.specs.declared.Cover.{Cover}
use Rattle.lid_design.specs.declared.Model.{Model as ModelOf}
use Rattle.lid_design.specs.declared.Cell.{Cell}
use Rattle.lid_design.specs.declared.Cell.TheVariants.{Names as NamesCell, Latch as LatchCell}
use Rattle.lid_design.specs.declared.LatchKind.{LatchKind}
use Rattle.lid_design.specs.declared.LatchKind.TheVariants.{Plain, Rise, Fall}
use Rattle.lid_design.specs.declared.Init.{Init}
use Rattle.lid_design.specs.declared.Init.TheVariants.{Zero, One, DontCare, Unknown as UnknownInit}
use Rattle.lid_design.specs.declared.Inst.{Inst}
use Rattle.lid_design.specs.declared.Bind.{Bind}
use Rattle.lid_blif.specs.declared.keyword.Keyword.{Keyword}
use Rattle.lid_blif.specs.declared.keyword.Keyword.TheVariants.{Model, Inputs, Outputs, Clock, Names, Latch, Subckt, End, Unknown, Row}
use Rattle.lid_base.specs.Words.{word_at, last_word}
use Rattle.lid_blif.specs.Words.{named_keyword, same_keyword, keyword_of, is_line, is_inner, leading, inputs_of, is_zero}
use Rattle.lid_blif.specs.Faults.{ends_in_zero}
use Rattle.lid_blif.specs.Designs.{mask_of, is_cared_for, is_character_one, cube_of, cover_of, names_cell, latch_cell, bind_of, inst_of, control_named, init_named, model_of, models_of}
use Rattle.lid_blifout.specs.Canonical.{listed, cube_line, control_word, kind_words, init_word, cell_lines, bind_word, inst_line, body_lines, models_lines}
use Rattle.lid_blifout.specs.Writable.{IsControl, IsWritableCover, IsWritableLatch, IsWritableCell, IsWritableBind, IsWritableInst, IsWritableModel}
use Rattle.lid_base_lines.specs.Texts.{Words, numbered_lines}
use Rattle.lid_blifout.proofs.LineWords.{is_row_line, last_word_after, formal_back, actual_back}
use Rattle.lid_blifout.proofs.CubeBack.{cared_back, value_back}
use Rattle.lid_blifout.proofs.FaultLaw.{line_at}

abbrev made : List ℕ → Words → Words → Words → List Cell → List Inst → ModelOf
made name inputs outputs clocks cells insts = record { name = name; inputs = inputs; outputs = outputs; clocks = clocks; cells = cells; insts = insts }

-- a model with one line more, before the others
abbrev with_line : Keyword → Words → List Line → ModelOf → ModelOf
with_line Inputs words later m = made m.name (drop 1 words ++ m.inputs) m.outputs m.clocks m.cells m.insts
with_line Outputs words later m = made m.name m.inputs (drop 1 words ++ m.outputs) m.clocks m.cells m.insts
with_line Clock words later m = made m.name m.inputs m.outputs (drop 1 words ++ m.clocks) m.cells m.insts
with_line Names words later m = made m.name m.inputs m.outputs m.clocks (names_cell words (leading (is_line Row) later) ∷ m.cells) m.insts
with_line Latch words later m = made m.name m.inputs m.outputs m.clocks (latch_cell words ∷ m.cells) m.insts
with_line Subckt words later m = made m.name m.inputs m.outputs m.clocks m.cells (inst_of (line_at 0 words) ∷ m.insts)
with_line _ words later m = m

model_of_cons : (k : Keyword) (l : Line) (later : List Line) (name : List ℕ) → k ≡ keyword_of l.words → model_of name (l ∷ later) ≡ with_line k l.words later (model_of name later)
unfolding model_of
model_of_cons Model l later name e = rw (← e)
model_of_cons Inputs l later name e = rw (← e)
model_of_cons Outputs l later name e = rw (← e)
model_of_cons Clock l later name e = rw (← e)
model_of_cons Names l later name e = rw (← e)
model_of_cons Latch l later name e = rw (← e)
model_of_cons Subckt l later name e = rw (← e)
model_of_cons End l later name e = rw (← e)
model_of_cons Unknown l later name e = rw (← e)
model_of_cons Row l later name e = rw (← e)

-- what a model's lines stand for, whatever their numbers
abbrev Means : ModelOf → List Words → Type 0
Means m lines = (n : ℕ) → model_of m.name (numbered_lines n lines) ≡ m

module _ (name : List ℕ) (lines : List Words) where
  means_inputs : (ns outputs clocks : Words) (cells : List Cell) (insts : List Inst) → Means (made name [] outputs clocks cells insts) lines → Means (made name ns outputs clocks cells insts) (listed (codes ".inputs") ns ++ lines)
  unfolding named_keyword
  means_inputs [] outputs clocks cells insts h = h
  means_inputs (x ∷ xs) outputs clocks cells insts h = λ n.
      model_of_cons Inputs (line_at n (codes ".inputs" ∷ x ∷ xs)) (numbered_lines (n + 1) lines) name refl
      ∙ ap (with_line Inputs (codes ".inputs" ∷ x ∷ xs) (numbered_lines (n + 1) lines)) (h (n + 1))
      ∙ ap (λ (ns : Words). made name ns outputs clocks cells insts) (append-nil (x ∷ xs))

  means_outputs : (ns clocks : Words) (cells : List Cell) (insts : List Inst) → Means (made name [] [] clocks cells insts) lines → Means (made name [] ns clocks cells insts) (listed (codes ".outputs") ns ++ lines)
  unfolding named_keyword
  means_outputs [] clocks cells insts h = h
  means_outputs (x ∷ xs) clocks cells insts h = λ n.
      model_of_cons Outputs (line_at n (codes ".outputs" ∷ x ∷ xs)) (numbered_lines (n + 1) lines) name refl
      ∙ ap (with_line Outputs (codes ".outputs" ∷ x ∷ xs) (numbered_lines (n + 1) lines)) (h (n + 1))
      ∙ ap (λ (ns : Words). made name [] ns clocks cells insts) (append-nil (x ∷ xs))

  means_clocks : (ns : Words) (cells : List Cell) (insts : List Inst) → Means (made name [] [] [] cells insts) lines → Means (made name [] [] ns cells insts) (listed (codes ".clock") ns ++ lines)
  unfolding named_keyword
  means_clocks [] cells insts h = h
  means_clocks (x ∷ xs) cells insts h = λ n.
      model_of_cons Clock (line_at n (codes ".clock" ∷ x ∷ xs)) (numbered_lines (n + 1) lines) name refl
      ∙ ap (with_line Clock (codes ".clock" ∷ x ∷ xs) (numbered_lines (n + 1) lines)) (h (n + 1))
      ∙ ap (λ (ns : Words). made name [] [] ns cells insts) (append-nil (x ∷ xs))

-- instances
binds_back : (binds : List Bind) → AllByRecursion IsWritableBind binds → map bind_of (map bind_word binds) ≡ binds
binds_back [] w = refl
binds_back (bind ∷ binds) w =
    let formal = formal_back bind w.0 in
    let actual = actual_back bind w.0 in
    let here : bind_of (bind_word bind) ≡ bind = rw (formal, actual) in
    ap (λ (b : Bind). b ∷ map bind_of (map bind_word binds)) here ∙ ap (λ (bs : List Bind). bind ∷ bs) (binds_back binds w.1)

inst_back : (inst : Inst) → IsWritableInst inst → inst_of (line_at 0 (inst_line inst)) ≡ inst
inst_back inst w = ap (λ (bs : List Bind). record { model = inst.model; binds = bs }) (binds_back inst.binds w.binds)

means_insts : (name : List ℕ) (lines : List Words) (insts : List Inst) → AllByRecursion IsWritableInst insts → Means (made name [] [] [] [] []) lines → Means (made name [] [] [] [] insts) (map inst_line insts ++ lines)
unfolding named_keyword
means_insts name lines [] w h = h
means_insts name lines (inst ∷ insts) w h = λ n.
    model_of_cons Subckt (line_at n (inst_line inst)) (numbered_lines (n + 1) (map inst_line insts ++ lines)) name refl
    ∙ ap (with_line Subckt (inst_line inst) (numbered_lines (n + 1) (map inst_line insts ++ lines))) (means_insts name lines insts w.1 h (n + 1))
    ∙ ap (λ (i : Inst). made name [] [] [] [] (i ∷ insts)) (inst_back inst w.0)

-- latches
init_back : (init : Init) → init_named (init_word init) ≡ init
init_back Zero = refl
init_back One = refl
init_back DontCare = refl
init_back UnknownInit = refl

control_back : (control : Option (List ℕ)) → IfSome control IsControl → control_named (control_word control) ≡ control
control_back None w = refl
control_back (Some name) w = cond-false (bytes_eq name (codes "NIL")) None (Some name) w.named

latch_back : (input out : List ℕ) (kind : LatchKind) (control : Option (List ℕ)) (init : Init) → IsWritableLatch input out kind control
    → latch_cell (codes ".latch" ∷ input ∷ out ∷ kind_words kind control ++ init_word init ∷ []) ≡ LatchCell input out kind control init
latch_back input out Plain control init w = ap (λ (i : Init). LatchCell input out Plain None i) (init_back init) ∙ ap (λ (c : Option (List ℕ)). LatchCell input out Plain c init) (sym (w.plain refl))
latch_back input out Rise control init w =
    ap (λ (i : Init). LatchCell input out Rise (control_named (control_word control)) i) (init_back init)
    ∙ ap (λ (c : Option (List ℕ)). LatchCell input out Rise c init) (control_back control w.controlled)
latch_back input out Fall control init w =
    ap (λ (i : Init). LatchCell input out Fall (control_named (control_word control)) i) (init_back init)
    ∙ ap (λ (c : Option (List ℕ)). LatchCell input out Fall c init) (control_back control w.controlled)

-- covers
take_front : (xs ys : Words) → take (length xs) (xs ++ ys) ≡ xs
take_front [] ys = refl
take_front (x ∷ xs) ys = ap (λ (zs : Words). x ∷ zs) (take_front xs ys)

-- the next line is no row
abbrev NoRow : List Words → Type 0
NoRow lines = (n : ℕ) → leading (is_line Row) (numbered_lines n lines) ≡ []

leading_rows : (inputs : ℕ) (on : Bool) (cubes : List Cube) (lines : List Words) (n : ℕ) → NoRow lines → leading (is_line Row) (numbered_lines n (map (cube_line inputs on) cubes ++ lines)) ≡ numbered_lines n (map (cube_line inputs on) cubes)
leading_rows inputs on [] lines n h = h n
leading_rows inputs on (cube ∷ cubes) lines n h =
    let row = is_row_line inputs on cube in
    let yes' : is_line Row (line_at n (cube_line inputs on cube)) ≡ true = ap (same_keyword Row) row.keyword in
    cond-true (is_line Row (line_at n (cube_line inputs on cube))) _ _ yes' ∙ ap (λ (ls : List Line). line_at n (cube_line inputs on cube) ∷ ls) (leading_rows inputs on cubes lines (n + 1) h)

cube_back : (inputs n : ℕ) (on : Bool) (cube : Cube) → IsCube inputs cube → cube_of inputs (line_at n (cube_line inputs on cube)) ≡ cube
cube_back inputs n on cube w =
    let row = is_row_line inputs on cube in
    let care : mask_of (map is_cared_for (take inputs (word_at (cube_line inputs on cube) 0))) ≡ cube.care = ap (λ (cs : List ℕ). mask_of (map is_cared_for cs)) row.characters ∙ cared_back inputs cube.care cube.value w.in_range in
    let value : mask_of (map is_character_one (take inputs (word_at (cube_line inputs on cube) 0))) ≡ cube.value =
    ap (λ (cs : List ℕ). mask_of (map is_character_one cs)) row.characters ∙ value_back inputs cube.care cube.value w.in_range w.within in
    both care value
  where
    both : {a b c d : ℕ} → a ≡ c → b ≡ d → ◌≡◌ {A = Cube} (record { care = a; value = b }) (record { care = c; value = d })
    both e f = cc

cubes_back : (inputs n : ℕ) (on : Bool) (cubes : List Cube) → AllByRecursion (IsCube inputs) cubes → map (cube_of inputs) (numbered_lines n (map (cube_line inputs on) cubes)) ≡ cubes
cubes_back inputs n on [] w = refl
cubes_back inputs n on (cube ∷ cubes) w =
    ap (λ (c : Cube). c ∷ map (cube_of inputs) (numbered_lines (n + 1) (map (cube_line inputs on) cubes))) (cube_back inputs n on cube w.0)
    ∙ ap (λ (cs : List Cube). cube ∷ cs) (cubes_back inputs (n + 1) on cubes w.1)

ends_so : (inputs n : ℕ) (on : Bool) (cube : Cube) → ends_in_zero (line_at n (cube_line inputs on cube)) ≡ not on
ends_so inputs n true cube = ap is_zero (is_row_line inputs true cube).output
ends_so inputs n false cube = ap is_zero (is_row_line inputs false cube).output

no_zero : (inputs n : ℕ) (cubes : List Cube) → list_any ends_in_zero (numbered_lines n (map (cube_line inputs true) cubes)) ≡ false
no_zero inputs n [] = refl
no_zero inputs n (cube ∷ cubes) = or_from _ _ (ends_so inputs n true cube) (no_zero inputs (n + 1) cubes)

on_back : (inputs n : ℕ) (on : Bool) (cubes : List Cube) → (cubes ≡ [] → on ≡ true) → not (list_any ends_in_zero (numbered_lines n (map (cube_line inputs on) cubes))) ≡ on
on_back inputs n true cubes h = ap not (no_zero inputs n cubes)
on_back inputs n false [] h = sym (h refl)
on_back inputs n false (cube ∷ cubes) h = let first = ends_so inputs n false cube in not_from_true _ (or_left _ _ first)

cover_back : (inputs : Words) (out : List ℕ) (cover : Cover) (n : ℕ) → IsWritableCover inputs out cover
    → names_cell (codes ".names" ∷ (inputs ++ out ∷ [])) (numbered_lines n (map (cube_line cover.inputs cover.on) cover.cubes)) ≡ NamesCell inputs out cover
cover_back inputs out cover n w =
    let words = codes ".names" ∷ (inputs ++ out ∷ []) in
    let rows = numbered_lines n (map (cube_line cover.inputs cover.on) cover.cubes) in
    let long = length-append inputs (out ∷ []) in
    let count : inputs_of words ≡ length inputs = omega (arith, long) in
    let narrow : cover.inputs ≤ 64 = w.rules.width in
    let width : inputs_of words ≡ cover.inputs = omega (arith, w.count, count) in
    let names : take (inputs_of words) (drop 1 words) ≡ inputs = ap (λ (k : ℕ). take k (inputs ++ out ∷ [])) count ∙ take_front inputs (out ∷ []) in
    let last : last_word words ≡ out = last_word_after (codes ".names" ∷ inputs) out in
    let on : not (list_any ends_in_zero rows) ≡ cover.on = on_back cover.inputs n cover.on cover.cubes w.constant in
    let cubes : map (cube_of (inputs_of words)) rows ≡ cover.cubes = ap (λ (k : ℕ). map (cube_of k) rows) width ∙ cubes_back cover.inputs n cover.on cover.cubes w.rules.cubes in
    ap (λ (ns : Words). NamesCell ns (last_word words) (cover_of words rows)) names
    ∙ ap (λ (o : List ℕ). NamesCell inputs o (cover_of words rows)) last
    ∙ ap (λ (c : Cover). NamesCell inputs out c) (all width on cubes)
  where
    all : {a d : ℕ} {b e : Bool} {c f : List Cube} → a ≡ d → b ≡ e → c ≡ f → ◌≡◌ {A = Cover} (record { inputs = a; on = b; cubes = c }) (record { inputs = d; on = e; cubes = f })
    all p q r = cc

means_rows : (m : ModelOf) (inputs : ℕ) (on : Bool) (cubes : List Cube) (lines : List Words) → Means m lines → Means m (map (cube_line inputs on) cubes ++ lines)
means_rows m inputs on [] lines h = h
means_rows m inputs on (cube ∷ cubes) lines h = λ n.
    let row = is_row_line inputs on cube in
    model_of_cons Row (line_at n (cube_line inputs on cube)) (numbered_lines (n + 1) (map (cube_line inputs on) cubes ++ lines)) m.name (sym row.keyword)
    ∙ means_rows m inputs on cubes lines h (n + 1)

means_cell : (name : List ℕ) (cell : Cell) (cells : List Cell) (insts : List Inst) (lines : List Words) → IsWritableCell cell
    → NoRow lines → Means (made name [] [] [] cells insts) lines → Means (made name [] [] [] (cell ∷ cells) insts) (cell_lines cell ++ lines)
unfolding named_keyword
means_cell name (NamesCell inputs out cover) cells insts lines w none h = λ n.
    let words = codes ".names" ∷ (inputs ++ out ∷ []) in
    let later = numbered_lines (n + 1) (map (cube_line cover.inputs cover.on) cover.cubes ++ lines) in
    model_of_cons Names (line_at n words) later name refl
    ∙ ap (with_line Names words later) (means_rows (made name [] [] [] cells insts) cover.inputs cover.on cover.cubes lines h (n + 1))
    ∙ ap (λ (ls : List Line). made name [] [] [] (names_cell words ls ∷ cells) insts) (leading_rows cover.inputs cover.on cover.cubes lines (n + 1) none)
    ∙ ap (λ (c : Cell). made name [] [] [] (c ∷ cells) insts) (cover_back inputs out cover (n + 1) w)
means_cell name (LatchCell input out kind control init) cells insts lines w none h = λ n.
    let words = codes ".latch" ∷ input ∷ out ∷ kind_words kind control ++ init_word init ∷ [] in
    model_of_cons Latch (line_at n words) (numbered_lines (n + 1) lines) name refl
    ∙ ap (with_line Latch words (numbered_lines (n + 1) lines)) (h (n + 1))
    ∙ ap (λ (c : Cell). made name [] [] [] (c ∷ cells) insts) (latch_back input out kind control init w)

no_row_cells : (cells : List Cell) (lines : List Words) → NoRow lines → NoRow (flat_map cell_lines cells ++ lines)
unfolding named_keyword
no_row_cells [] lines h = h
no_row_cells (NamesCell inputs out cover ∷ cells) lines h = λ n. refl
no_row_cells (LatchCell input out kind control init ∷ cells) lines h = λ n. refl

no_row_insts : (insts : List Inst) (lines : List Words) → NoRow lines → NoRow (map inst_line insts ++ lines)
unfolding named_keyword
no_row_insts [] lines h = h
no_row_insts (inst ∷ insts) lines h = λ n. refl

means_cells : (name : List ℕ) (cells : List Cell) (insts : List Inst) (lines : List Words) → AllByRecursion IsWritableCell cells
    → NoRow lines → Means (made name [] [] [] [] insts) lines → Means (made name [] [] [] cells insts) (flat_map cell_lines cells ++ lines)
means_cells name [] insts lines w none h = h
means_cells name (cell ∷ cells) insts lines w none h =
    let later = means_cells name cells insts lines w.1 none h in
    let here = means_cell name cell cells insts (flat_map cell_lines cells ++ lines) w.0 (no_row_cells cells lines none) later in
    subst (Means (made name [] [] [] (cell ∷ cells) insts)) (sym (append_assoc (cell_lines cell) (flat_map cell_lines cells) lines)) here

means_end : (name : List ℕ) → Means (made name [] [] [] [] []) ((codes ".end" ∷ []) ∷ [])
unfolding model_of named_keyword
means_end name = λ n. refl

no_row_end : NoRow ((codes ".end" ∷ []) ∷ [])
unfolding named_keyword
no_row_end = λ n. refl

pub model_back : (m : ModelOf) (n : ℕ) → IsWritableModel m → model_of m.name (numbered_lines n (body_lines m)) ≡ m
model_back m n w =
    let insts = means_insts m.name _ m.insts w.insts (means_end m.name) in
    let cells = means_cells m.name m.cells m.insts _ w.cells (no_row_insts m.insts _ no_row_end) insts in
    let clocks = means_clocks m.name _ m.clocks m.cells m.insts cells in
    let outputs = means_outputs m.name _ m.outputs m.clocks m.cells m.insts clocks in
    means_inputs m.name _ m.inputs m.outputs m.clocks m.cells m.insts outputs n

-- only the first line of a model is its `.model` line
abbrev IsInner : Words → Type 0
IsInner words = same_keyword Model (keyword_of words) ≡ false

rows_inner : (inputs : ℕ) (on : Bool) (cubes : List Cube) → AllByRecursion IsInner (map (cube_line inputs on) cubes)
rows_inner inputs on [] = tt
rows_inner inputs on (cube ∷ cubes) = (ap (same_keyword Model) (is_row_line inputs on cube).keyword, rows_inner inputs on cubes)

cells_inner : (cells : List Cell) → AllByRecursion IsInner (flat_map cell_lines cells)
unfolding named_keyword
cells_inner [] = tt
cells_inner (NamesCell inputs out cover ∷ cells) = all_append IsInner (cell_lines (NamesCell inputs out cover)) (flat_map cell_lines cells) (refl, rows_inner cover.inputs cover.on cover.cubes) (cells_inner cells)
cells_inner (LatchCell input out kind control init ∷ cells) = (refl, cells_inner cells)

insts_inner : (insts : List Inst) → AllByRecursion IsInner (map inst_line insts)
unfolding named_keyword
insts_inner [] = tt
insts_inner (inst ∷ insts) = (refl, insts_inner insts)

inputs_inner : (ns : Words) → AllByRecursion IsInner (listed (codes ".inputs") ns)
unfolding named_keyword
inputs_inner [] = tt
inputs_inner (x ∷ xs) = (refl, tt)

outputs_inner : (ns : Words) → AllByRecursion IsInner (listed (codes ".outputs") ns)
unfolding named_keyword
outputs_inner [] = tt
outputs_inner (x ∷ xs) = (refl, tt)

clocks_inner : (ns : Words) → AllByRecursion IsInner (listed (codes ".clock") ns)
unfolding named_keyword
clocks_inner [] = tt
clocks_inner (x ∷ xs) = (refl, tt)

end_inner : AllByRecursion IsInner ((codes ".end" ∷ []) ∷ [])
unfolding named_keyword
end_inner = (refl, tt)

body_inner : (m : ModelOf) → AllByRecursion IsInner (body_lines m)
body_inner m =
    all_append IsInner _ _ (inputs_inner m.inputs)
    (all_append IsInner _ _ (outputs_inner m.outputs)
    (all_append IsInner _ _ (clocks_inner m.clocks) (all_append IsInner _ _ (cells_inner m.cells) (all_append IsInner _ _ (insts_inner m.insts) end_inner))))

leading_body : (body rest : List Words) (n : ℕ) → AllByRecursion IsInner body → ((k : ℕ) → leading is_inner (numbered_lines k rest) ≡ []) → leading is_inner (numbered_lines n (body ++ rest)) ≡ numbered_lines n body
leading_body [] rest n h stops = stops n
leading_body (words ∷ body) rest n h stops =
    cond-true (is_inner (line_at n words)) _ _ (not_from_false _ h.0) ∙ ap (λ (ls : List Line). line_at n words ∷ ls) (leading_body body rest (n + 1) h.1 stops)

models_skip : (body rest : List Words) (ms : List ModelOf) (n : ℕ) → AllByRecursion IsInner body → ((k : ℕ) → models_of (numbered_lines k rest) ≡ ms) → models_of (numbered_lines n (body ++ rest)) ≡ ms
models_skip [] rest ms n h later = later n
models_skip (words ∷ body) rest ms n h later = cond-false (is_line Model (line_at n words)) _ _ h.0 ∙ models_skip body rest ms (n + 1) h.1 later

models_stop : (ms : List ModelOf) (k : ℕ) → leading is_inner (numbered_lines k (models_lines ms)) ≡ []
unfolding named_keyword
models_stop [] k = refl
models_stop (m ∷ ms) k = refl

-- the models that the lines of models stand for
pub models_back : (ms : List ModelOf) (n : ℕ) → AllByRecursion IsWritableModel ms → models_of (numbered_lines n (models_lines ms)) ≡ ms
unfolding named_keyword
models_back [] n w = refl
models_back (m ∷ ms) n w =
    let later = numbered_lines (n + 1) (body_lines m ++ models_lines ms) in
    let here : model_of m.name (leading is_inner later) ≡ m = ap (model_of m.name) (leading_body (body_lines m) (models_lines ms) (n + 1) (body_inner m) (models_stop ms)) ∙ model_back m (n + 1) w.0 in
    let rest : models_of later ≡ ms = models_skip (body_lines m) (models_lines ms) ms (n + 1) (body_inner m) (λ k. models_back ms k w.1) in
    ap (λ (x : ModelOf). x ∷ models_of later) here ∙ ap (λ (xs : List ModelOf). m ∷ xs) rest
