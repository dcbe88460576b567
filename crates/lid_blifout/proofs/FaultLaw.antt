-- No line of a writable design is at fault.
use Rattle.std.proofs.Common.{◌≡◌, ℕ, suc, ◌+◌, ◌≤◌, ◌||◌, Bool, true, false, cond, List, [], ◌∷◌, ◌++◌, length, refl, sym, ap, subst, ◌∙◌, append_assoc, arith, length-append}
use Rattle.std.specs.Prelude.{Option, Some, None, map, not, nat_lt, codes, bytes_eq}
use Rattle.std.specs.List.{AllByRecursion, IsDistinct, list_any, flat_map, sum_by}
use Rattle.std.proofs.lemmas.Bool.{or_from, not_from_true, le-ltb, cond-false}
use Rattle.std.proofs.lemmas.List.{length_push}
use Rattle.std.proofs.lemmas.List.Sums.{sum_by-cons}
use Rattle.lid_base.specs.declared.line.Line.{Line}
use Rattle.lid_design.specs.declared.Model.{Model as ModelOf}
use Rattle.lid_design.specs.declared.Cell.{Cell}
use Rattle.lid_design.specs.declared.Cell.TheVariants.{Names as NamesCell, Latch as LatchCell}
use Rattle.lid_design.specs.declared.LatchKind.{LatchKind}
use Rattle.lid_design.specs.declared.LatchKind.TheVariants.{Plain, Rise, Fall}
use Rattle.lid_design.specs.declared.Init.{Init}
use Rattle.lid_design.specs.declared.Inst.{Inst}
use Rattle.lid_cover.specs.declared.Cube.{Cube}
use Rattle.lid_cover.specs.declared.Cover.{Cover}
use Rattle.lid_base.specs.declared.which.Which.TheVariants.{Models, CoverRows}
use Rattle.lid_blif.specs.declared.fault.BlifFault.{BlifFault}
use Rattle.lid_blif.specs.declared.fault.BlifFault.TheVariants.{NoModel, Arity, RowOutside, RowShape, MixedRows, DuplicateModel, TooManyInputs, Limit}
use Rattle.lid_blif.specs.declared.keyword.Keyword.{Keyword}
use Rattle.lid_blif.specs.declared.keyword.Keyword.TheVariants.{Model, Inputs, Outputs, Clock, Names, Latch, Subckt, End, Unknown, Row}
use Rattle.lid_blif.specs.declared.context.Context.{Context}
use Rattle.lid_base.specs.Words.{word_at, last_word}
use Rattle.lid_blif.specs.Words.{named_keyword, keyword_of, same_keyword, is_line, inputs_of, is_zero, is_one, is_row_of}
use Rattle.lid_blif.specs.Faults.{context_of, model_names, ends_in_zero, ends_in_one, Case, told, cases_of, is_mixed, line_fault, first_fault}
use Rattle.lid_design.specs.WellFormed.{model_name}
use Rattle.lid_blif.proofs.Contexts.{next_context, context_of_cons, first_fault_pass}
use Rattle.lid_blif.proofs.Faults.{context_models}
use Rattle.lid_blifout.specs.Canonical.{listed, output_word, cube_line, control_word, init_word, cell_lines, inst_line, body_lines, models_lines}
use Rattle.lid_blifout.specs.Writable.{IsWritableCover, IsWritableCell, IsWritableInst, IsWritableModel, cell_rows, cells_rows, model_rows}
use Rattle.lid_base_lines.specs.Texts.{Words, numbered_lines}
use Rattle.lid_blifout.proofs.LineWords.{IsRowLine, is_row_line, init_is, are_bound}
use Rattle.lid_base.proofs.Alls.{all_middle}

-- where a line stands: inside a model or not, after models of these names, and after so many rows
pub record At (inside : Bool) (names : Words) (rows : ℕ) (before : List Line) : Type 0 where
  pub inside_is : (context_of before).inside ≡ inside
  pub names_are : model_names before ≡ names
  pub rows_are : (context_of before).rows ≡ rows

-- no fault in these lines, wherever they stand so
abbrev pub Clear : Bool → Words → ℕ → List Words → Type 0
Clear inside names rows lines = (n : ℕ) (before : List Line) → At inside names rows before → first_fault before (numbered_lines n lines) ≡ None

abbrev pub line_at : ℕ → Words → Line
line_at n words = record { number = n; words = words }

abbrev next_inside : Keyword → Bool → Bool
next_inside End inside = false
next_inside _ inside = inside

-- what a line that is neither a model's first nor a row leaves as it was
record IsKept (k : Keyword) (now next : Context) : Type 0 where
  inside : next.inside ≡ next_inside k now.inside
  rows : next.rows ≡ now.rows
  names : same_keyword Model k ≡ false

kept_after : (k : Keyword) (l : Line) (now : Context) → (k ≡ Model → ⊥) → (k ≡ Row → ⊥) → IsKept k now (next_context k l now)
kept_after Model l now m r = absurd (m refl)
kept_after Row l now m r = absurd (r refl)
kept_after Inputs l now m r = record { inside = refl; rows = refl; names = refl }
kept_after Outputs l now m r = record { inside = refl; rows = refl; names = refl }
kept_after Clock l now m r = record { inside = refl; rows = refl; names = refl }
kept_after Names l now m r = record { inside = refl; rows = refl; names = refl }
kept_after Latch l now m r = record { inside = refl; rows = refl; names = refl }
kept_after Subckt l now m r = record { inside = refl; rows = refl; names = refl }
kept_after End l now m r = record { inside = refl; rows = refl; names = refl }
kept_after Unknown l now m r = record { inside = refl; rows = refl; names = refl }

at_after : (k : Keyword) (l : Line) (inside : Bool) (names : Words) (rows : ℕ) (before : List Line) → k ≡ keyword_of l.words
    → (k ≡ Model → ⊥) → (k ≡ Row → ⊥) → At inside names rows before → At (next_inside k inside) names rows (l ∷ before)
at_after k l inside names rows before e m r at =
    let next = context_of_cons k l before e in
    let kept = kept_after k l (context_of before) m r in
    let other : is_line Model l ≡ false = ap (same_keyword Model) (sym e) ∙ kept.names in
    record {
      inside_is = ap (λ (q : Context). q.inside) next ∙ kept.inside ∙ ap (next_inside k) at.inside_is;
      names_are = cond-false (is_line Model l) (model_names before ++ word_at l.words 1 ∷ []) (model_names before) other ∙ at.names_are;
      rows_are = ap (λ (q : Context). q.rows) next ∙ kept.rows ∙ at.rows_are;
    }

-- a line without fault, and no fault after it
clear_line : (k : Keyword) (words : Words) (lines : List Words) (inside : Bool) (names : Words) (rows : ℕ) → k ≡ keyword_of words → (k ≡ Model → ⊥) → (k ≡ Row → ⊥)
    → ((context : Context) (n : ℕ) → context.inside ≡ inside → told (cases_of k context names (line_at n words)) ≡ None)
    → Clear (next_inside k inside) names rows lines → Clear inside names rows (words ∷ lines)
unfolding line_fault
clear_line k words lines inside names rows e m r ok later n before at =
    let l = line_at n words in
    let same : line_fault (context_of before) (model_names before) l ≡ told (cases_of k (context_of before) names l) =
    ap (λ (ns : Words). line_fault (context_of before) ns l) at.names_are ∙ ap (λ (q : Keyword). told (cases_of q (context_of before) names l)) (sym e) in
    first_fault_pass before l (numbered_lines (n + 1) lines) (same ∙ ok (context_of before) n at.inside_is)
    ∙ later (n + 1) (l ∷ before) (at_after k l inside names rows before e m r at)

clear_inputs : (ns : Words) (lines : List Words) (names : Words) (rows : ℕ) → Clear true names rows lines → Clear true names rows (listed (codes ".inputs") ns ++ lines)
unfolding named_keyword
clear_inputs [] lines names rows h = h
clear_inputs (x ∷ xs) lines names rows h = clear_line Inputs (codes ".inputs" ∷ x ∷ xs) lines true names rows refl (λ e. cc) (λ e. cc) (λ context n e. rw e refl) h

clear_outputs : (ns : Words) (lines : List Words) (names : Words) (rows : ℕ) → Clear true names rows lines → Clear true names rows (listed (codes ".outputs") ns ++ lines)
unfolding named_keyword
clear_outputs [] lines names rows h = h
clear_outputs (x ∷ xs) lines names rows h = clear_line Outputs (codes ".outputs" ∷ x ∷ xs) lines true names rows refl (λ e. cc) (λ e. cc) (λ context n e. rw e refl) h

clear_clocks : (ns : Words) (lines : List Words) (names : Words) (rows : ℕ) → Clear true names rows lines → Clear true names rows (listed (codes ".clock") ns ++ lines)
unfolding named_keyword
clear_clocks [] lines names rows h = h
clear_clocks (x ∷ xs) lines names rows h = clear_line Clock (codes ".clock" ∷ x ∷ xs) lines true names rows refl (λ e. cc) (λ e. cc) (λ context n e. rw e refl) h

clear_end : (lines : List Words) (names : Words) (rows : ℕ) → Clear false names rows lines → Clear true names rows ((codes ".end" ∷ []) ∷ lines)
unfolding named_keyword
clear_end lines names rows h = clear_line End (codes ".end" ∷ []) lines true names rows refl (λ e. cc) (λ e. cc) (λ context n e. rw e refl) h

clear_latch : (input out : List ℕ) (kind : LatchKind) (control : Option (List ℕ)) (init : Init) (lines : List Words) (names : Words) (rows : ℕ)
    → Clear true names rows lines → Clear true names rows (cell_lines (LatchCell input out kind control init) ++ lines)
unfolding named_keyword
clear_latch input out Plain control init lines names rows h = let good = init_is init in
    clear_line Latch (codes ".latch" ∷ input ∷ out ∷ init_word init ∷ []) lines true names rows refl (λ e. cc) (λ e. cc) (λ context n e. rw (e, good) refl) h
clear_latch input out Rise control init lines names rows h = let good = init_is init in
    clear_line Latch (codes ".latch" ∷ input ∷ out ∷ codes "re" ∷ control_word control ∷ init_word init ∷ []) lines true names rows refl (λ e. cc) (λ e. cc) (λ context n e. rw (e, good) refl) h
clear_latch input out Fall control init lines names rows h = let good = init_is init in
    clear_line Latch (codes ".latch" ∷ input ∷ out ∷ codes "fe" ∷ control_word control ∷ init_word init ∷ []) lines true names rows refl (λ e. cc) (λ e. cc) (λ context n e. rw (e, good) refl) h

clear_inst : (inst : Inst) (lines : List Words) (names : Words) (rows : ℕ) → IsWritableInst inst → Clear true names rows lines → Clear true names rows (inst_line inst ∷ lines)
unfolding named_keyword
clear_inst inst lines names rows w h =
    let bound = are_bound inst.binds w.binds in
    let few : nat_lt (length (inst_line inst)) 2 ≡ false = le-ltb (length (inst_line inst)) 2 (omega arith) in
    clear_line Subckt (inst_line inst) lines true names rows refl (λ e. cc) (λ e. cc) (λ context n e. rw (e, few, bound) refl) h

pub clear_insts : (insts : List Inst) (lines : List Words) (names : Words) (rows : ℕ) → AllByRecursion IsWritableInst insts → Clear true names rows lines → Clear true names rows (map inst_line insts ++ lines)
clear_insts [] lines names rows w h = h
clear_insts (inst ∷ insts) lines names rows w h = clear_inst inst (map inst_line insts ++ lines) names rows w.0 (clear_insts insts lines names rows w.1 h)

-- a condition that does not hold is passed over
told_pass : (b : Bool) (fault : BlifFault) (cases : List Case) → b ≡ false → told cases ≡ None → told ((b, fault) ∷ cases) ≡ None
told_pass b fault cases e h = cond-false b (Some fault) (told cases) e ∙ h

-- where a row of a cover stands
record InCover (inputs : ℕ) (on : Bool) (before : List Line) : Type 0 where
  covered : (context_of before).covered ≡ true
  inputs_are : (context_of before).inputs ≡ inputs
  unmixed : cond on (context_of before).zeros (context_of before).ones ≡ false

unmixed_row : (on : Bool) (words : Words) (n : ℕ) (context : Context) → last_word words ≡ output_word on → cond on context.zeros context.ones ≡ false → is_mixed context (line_at n words) ≡ false
unmixed_row true words n context e h = ap (λ (w : List ℕ). cond (is_zero w) context.ones context.zeros) e ∙ h
unmixed_row false words n context e h = ap (λ (w : List ℕ). cond (is_zero w) context.ones context.zeros) e ∙ h

row_ok : (inputs : ℕ) (on : Bool) (cube : Cube) (words : Words) (n : ℕ) (before : List Line) (names : Words) (rows : ℕ) → IsRowLine inputs on cube words
    → At true names rows before → InCover inputs on before → rows + 1 ≤ 1048576 → line_fault (context_of before) (model_names before) (line_at n words) ≡ None
unfolding line_fault
row_ok inputs on cube words n before names rows row at cover few =
    let context = context_of before in
    let l = line_at n words in
    let shape : is_row_of context.inputs words ≡ true = ap (λ (k : ℕ). is_row_of k words) cover.inputs_are ∙ row.shape in
    let limit : nat_lt 1048576 (context.rows + 1) ≡ false = ap (λ (k : ℕ). nat_lt 1048576 (k + 1)) at.rows_are ∙ le-ltb 1048576 (rows + 1) few in
    let limit_case : List Case = (nat_lt 1048576 (context.rows + 1), Limit CoverRows (context.rows + 1)) ∷ [] in
    let mixed_cases : List Case = (is_mixed context l, MixedRows n) ∷ limit_case in
    let shape_cases : List Case = (not (is_row_of context.inputs words), RowShape n) ∷ mixed_cases in
    let outside_cases : List Case = (not context.covered, RowOutside n) ∷ shape_cases in
    let in_limit = told_pass (nat_lt 1048576 (context.rows + 1)) (Limit CoverRows (context.rows + 1)) [] limit refl in
    let unmixed = told_pass (is_mixed context l) (MixedRows n) limit_case (unmixed_row on words n context row.output cover.unmixed) in_limit in
    let shaped = told_pass (not (is_row_of context.inputs words)) (RowShape n) mixed_cases (not_from_true (is_row_of context.inputs words) shape) unmixed in
    let within = told_pass (not context.covered) (RowOutside n) shape_cases (not_from_true context.covered cover.covered) shaped in
    ap (λ (q : Keyword). told (cases_of q context (model_names before) l)) row.keyword
    ∙ told_pass (not context.inside) (NoModel n) outside_cases (not_from_true context.inside at.inside_is) within

at_row : (l : Line) (names : Words) (rows : ℕ) (before : List Line) → Row ≡ keyword_of l.words → At true names rows before → At true names (rows + 1) (l ∷ before)
at_row l names rows before e at =
    let p = context_of_cons Row l before e in
    record {
      inside_is = ap (λ (q : Context). q.inside) p ∙ at.inside_is;
      names_are = rw (← e) at.names_are;
      rows_are = ap (λ (q : Context). q.rows) p ∙ ap (λ (k : ℕ). k + 1) at.rows_are;
    }

still_unmixed : (on : Bool) (l : Line) (context : Context) → last_word l.words ≡ output_word on → cond on context.zeros context.ones ≡ false → cond on (ends_in_zero l || context.zeros) (ends_in_one l || context.ones) ≡ false
still_unmixed true l context e h = or_from (ends_in_zero l) context.zeros (ap is_zero e) h
still_unmixed false l context e h = or_from (ends_in_one l) context.ones (ap is_one e) h

cover_row : (inputs : ℕ) (on : Bool) (l : Line) (before : List Line) → Row ≡ keyword_of l.words → last_word l.words ≡ output_word on → InCover inputs on before → InCover inputs on (l ∷ before)
cover_row inputs on l before e out cover =
    let p = context_of_cons Row l before e in
    record {
      covered = ap (λ (q : Context). q.covered) p ∙ cover.covered;
      inputs_are = ap (λ (q : Context). q.inputs) p ∙ cover.inputs_are;
      unmixed = ap (λ (q : Context). cond on q.zeros q.ones) p ∙ still_unmixed on l (context_of before) out cover.unmixed;
    }

abbrev ClearRows : ℕ → Bool → Words → ℕ → List Words → Type 0
ClearRows inputs on names rows lines = (n : ℕ) (before : List Line) → At true names rows before → InCover inputs on before → first_fault before (numbered_lines n lines) ≡ None

clear_rows : (cubes : List Cube) (inputs : ℕ) (on : Bool) (lines : List Words) (names : Words) (rows : ℕ) → rows + length cubes ≤ 1048576
    → Clear true names (rows + length cubes) lines → ClearRows inputs on names rows (map (cube_line inputs on) cubes ++ lines)
clear_rows [] inputs on lines names rows few h n before at cover =
    let none : rows + 0 ≡ rows = omega arith in
    let done : Clear true names rows lines = subst (λ (k : ℕ). Clear true names k lines) none h in
    done n before at
clear_rows (cube ∷ cubes) inputs on lines names rows few h n before at cover =
    let words = cube_line inputs on cube in
    let row = is_row_line inputs on cube in
    let l = line_at n words in
    let more : rows + suc (length cubes) ≡ (rows + 1) + length cubes = omega arith in
    let left : Clear true names ((rows + 1) + length cubes) lines = subst (λ (k : ℕ). Clear true names k lines) more h in
    first_fault_pass before l (numbered_lines (n + 1) (map (cube_line inputs on) cubes ++ lines)) (row_ok inputs on cube words n before names rows row at cover (omega arith))
    ∙ clear_rows cubes inputs on lines names (rows + 1) (omega arith) left (n + 1) (l ∷ before) (at_row l names rows before (sym row.keyword) at) (cover_row inputs on l before (sym row.keyword) row.output cover)

clear_cover : (inputs : Words) (out : List ℕ) (cover : Cover) (lines : List Words) (names : Words) (rows : ℕ)
    → IsWritableCover inputs out cover → rows + length cover.cubes ≤ 1048576 → Clear true names (rows + length cover.cubes) lines
    → Clear true names rows (cell_lines (NamesCell inputs out cover) ++ lines)
unfolding named_keyword line_fault
clear_cover inputs out cover lines names rows w few h n before at =
    let words = codes ".names" ∷ (inputs ++ out ∷ []) in
    let l = line_at n words in
    let context = context_of before in
    let count : length words ≡ length inputs + 2 = omega (arith, length-append inputs (out ∷ [])) in
    let enough : nat_lt (length words) 2 ≡ false = le-ltb (length words) 2 (omega arith) in
    let same : inputs_of words ≡ cover.inputs = omega (arith, w.count) in
    let wide : nat_lt 64 (inputs_of words) ≡ false = le-ltb 64 (inputs_of words) (omega (arith, w.rules.width)) in
    let wide_case : List Case = (nat_lt 64 (inputs_of words), TooManyInputs n) ∷ [] in
    let short_cases : List Case = (nat_lt (length words) 2, Arity n) ∷ wide_case in
    let narrow = told_pass (nat_lt 64 (inputs_of words)) (TooManyInputs n) [] wide refl in
    let clean : line_fault context (model_names before) l ≡ None =
    told_pass (not context.inside) (NoModel n) short_cases (not_from_true context.inside at.inside_is) (told_pass (nat_lt (length words) 2) (Arity n) wide_case enough narrow) in
    let e : Names ≡ keyword_of words = refl in
    let p = context_of_cons Names l before e in
    let inside = at_after Names l true names rows before e (λ q. cc) (λ q. cc) at in
    let begun : InCover cover.inputs cover.on (l ∷ before) = record {
      covered = ap (λ (q : Context). q.covered) p;
      inputs_are = ap (λ (q : Context). q.inputs) p ∙ same;
      unmixed = ap (λ (q : Context). cond cover.on q.zeros q.ones) p ∙ same_false cover.on;
    } in
    first_fault_pass before l (numbered_lines (n + 1) (map (cube_line cover.inputs cover.on) cover.cubes ++ lines)) clean
    ∙ clear_rows cover.cubes cover.inputs cover.on lines names rows few h (n + 1) (l ∷ before) inside begun
  where
    same_false : (b : Bool) → cond b false false ≡ false
    same_false true = refl
    same_false false = refl

clear_cell : (cell : Cell) (lines : List Words) (names : Words) (rows : ℕ) → IsWritableCell cell → rows + cell_rows cell ≤ 1048576 → Clear true names (rows + cell_rows cell) lines → Clear true names rows (cell_lines cell ++ lines)
clear_cell (NamesCell inputs out cover) lines names rows w few h = clear_cover inputs out cover lines names rows w few h
clear_cell (LatchCell input out kind control init) lines names rows w few h =
    let none : rows + 0 ≡ rows = omega arith in
    clear_latch input out kind control init lines names rows (subst (λ (k : ℕ). Clear true names k lines) none h)

clear_cells : (cells : List Cell) (lines : List Words) (names : Words) (rows : ℕ) → AllByRecursion IsWritableCell cells
    → rows + cells_rows cells ≤ 1048576 → Clear true names (rows + cells_rows cells) lines → Clear true names rows (flat_map cell_lines cells ++ lines)
clear_cells [] lines names rows w few h =
    let none : rows + cells_rows [] ≡ rows = omega arith in
    subst (λ (k : ℕ). Clear true names k lines) none h
clear_cells (cell ∷ cells) lines names rows w few h =
    let count = sum_by-cons cell_rows cell cells in
    let more : rows + cells_rows (cell ∷ cells) ≡ (rows + cell_rows cell) + cells_rows cells = omega (arith, count) in
    let left : Clear true names ((rows + cell_rows cell) + cells_rows cells) lines = subst (λ (k : ℕ). Clear true names k lines) more h in
    let later = clear_cells cells lines names (rows + cell_rows cell) w.1 (omega (arith, more)) left in
    let here = clear_cell cell (flat_map cell_lines cells ++ lines) names rows w.0 (omega (arith, more)) later in
    subst (Clear true names rows) (sym (append_assoc (cell_lines cell) (flat_map cell_lines cells) lines)) here

-- a model's lines before others
abbrev pub body_before : ModelOf → List Words → List Words
body_before m lines =
    listed (codes ".inputs") m.inputs
    ++ (listed (codes ".outputs") m.outputs ++ (listed (codes ".clock") m.clocks ++ (flat_map cell_lines m.cells ++ (map inst_line m.insts ++ ((codes ".end" ∷ []) ∷ lines)))))

pub body_before_is : (m : ModelOf) (lines : List Words) → body_lines m ++ lines ≡ body_before m lines
body_before_is m lines = simp append_assoc

clear_body : (m : ModelOf) (lines : List Words) (names : Words) (rows : ℕ) → IsWritableModel m → rows + model_rows m ≤ 1048576 → Clear false names (rows + model_rows m) lines → Clear true names rows (body_lines m ++ lines)
clear_body m lines names rows w few h =
    let ended = clear_end lines names (rows + model_rows m) h in
    let insts = clear_insts m.insts _ names (rows + model_rows m) w.insts ended in
    let cells = clear_cells m.cells _ names rows w.cells few insts in
    let clocks = clear_clocks m.clocks _ names rows cells in
    let outputs = clear_outputs m.outputs _ names rows clocks in
    let inputs = clear_inputs m.inputs _ names rows outputs in
    subst (Clear true names rows) (sym (body_before_is m lines)) inputs

new_name : (names : Words) (name : List ℕ) (later : Words) → IsDistinct bytes_eq (names ++ name ∷ later) → list_any (λ other. bytes_eq other name) names ≡ false
unfolding IsDistinct
new_name [] name later d = refl
new_name (x ∷ xs) name later d = or_from (bytes_eq x name) (list_any (λ other. bytes_eq other name) xs) (all_middle (λ y. bytes_eq x y ≡ false) xs name later d.0) (new_name xs name later d.1)

clear_title : (name : List ℕ) (lines : List Words) (inside : Bool) (names : Words) (rows : ℕ) → list_any (λ other. bytes_eq other name) names ≡ false
    → length names + 1 ≤ 4096 → Clear true (names ++ name ∷ []) rows lines → Clear inside names rows ((codes ".model" ∷ name ∷ []) ∷ lines)
unfolding named_keyword line_fault
clear_title name lines inside names rows fresh few h n before at =
    let words = codes ".model" ∷ name ∷ [] in
    let l = line_at n words in
    let context = context_of before in
    let new : list_any (λ other. bytes_eq other name) (model_names before) ≡ false = ap (λ (ns : Words). list_any (λ other. bytes_eq other name) ns) at.names_are ∙ fresh in
    let count : context.models ≡ length names = context_models before ∙ ap length at.names_are in
    let limit : nat_lt 4096 (context.models + 1) ≡ false = le-ltb 4096 (context.models + 1) (omega arith) in
    let limit_case : List Case = (nat_lt 4096 (context.models + 1), Limit Models (context.models + 1)) ∷ [] in
    let few_models = told_pass (nat_lt 4096 (context.models + 1)) (Limit Models (context.models + 1)) [] limit refl in
    let clean : line_fault context (model_names before) l ≡ None =
    told_pass (list_any (λ other. bytes_eq other name) (model_names before)) (DuplicateModel n) limit_case new few_models in
    let e : Model ≡ keyword_of words = refl in
    let p = context_of_cons Model l before e in
    let opened : At true (names ++ name ∷ []) rows (l ∷ before) = record {
      inside_is = ap (λ (q : Context). q.inside) p;
      names_are = ap (λ (ns : Words). ns ++ name ∷ []) at.names_are;
      rows_are = ap (λ (q : Context). q.rows) p ∙ at.rows_are;
    } in
    first_fault_pass before l (numbered_lines (n + 1) lines) clean ∙ h (n + 1) (l ∷ before) opened

clear_models : (ms : List ModelOf) (inside : Bool) (names : Words) (rows : ℕ) → AllByRecursion IsWritableModel ms → IsDistinct bytes_eq (names ++ map model_name ms)
    → length names + length ms ≤ 4096 → rows + sum_by model_rows ms ≤ 1048576 → Clear inside names rows (models_lines ms)
clear_models [] inside names rows w d few_models few_rows = λ n before at. refl
clear_models (m ∷ ms) inside names rows w d few_models few_rows =
    let count = sum_by-cons model_rows m ms in
    let pushed = length_push names m.name in
    let fresh = new_name names m.name (map model_name ms) d in
    let apart : IsDistinct bytes_eq ((names ++ m.name ∷ []) ++ map model_name ms) = subst (IsDistinct bytes_eq) (sym (append_assoc names (m.name ∷ []) (map model_name ms))) d in
    let later = clear_models ms false (names ++ m.name ∷ []) (rows + model_rows m) w.1 apart (omega (arith, pushed)) (omega (arith, count)) in
    let body = clear_body m (models_lines ms) (names ++ m.name ∷ []) rows w.0 (omega (arith, count)) later in
    clear_title m.name (body_lines m ++ models_lines ms) inside names rows fresh (omega arith) body

start : At false [] 0 []
unfolding context_of
start = record { inside_is = refl; names_are = refl; rows_are = refl }

-- no line of writable models is at fault
pub models_clear : (ms : List ModelOf) → AllByRecursion IsWritableModel ms → IsDistinct bytes_eq (map model_name ms) → length ms ≤ 4096 → sum_by model_rows ms ≤ 1048576 → first_fault [] (numbered_lines 1 (models_lines ms)) ≡ None
models_clear ms w d few_models few_rows = clear_models ms false [] 0 w d (omega arith) (omega arith) 1 [] start
