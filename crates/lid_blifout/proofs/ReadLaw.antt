-- The design of a text without fault is writable where its formals end well and its text is short.
use Rattle.std.proofs.Common.{◌≡◌, ℕ, zero, suc, ◌+◌, ◌-◌, ◌<◌, ◌≤◌, ◌==◌, Bool, true, false, cond, ◌||◌, ◌&&◌, List, [], ◌∷◌, ◌++◌, length, get_or, drop, map, filter, refl, sym, ap, subst, ◌∙◌, inl, inr, arith, length-take, length-drop}
use Rattle.std.specs.Prelude.{Option, None, Some, IfSome, not, nat_lt, bytes_eq, codes}
use Rattle.std.specs.List.{AllByRecursion, list_any, list_all, before_first, after_first, position_or_len, flat_map, sum_by}
use Rattle.std.proofs.lemmas.Bool.{cases_Bool, cond-true, cond-false, not-false, not-true, ltb-false, leb-true, eqb-true, eqb-false, and_parts}
use Rattle.std.proofs.lemmas.List.Sums.{passes_at_first, split_at_first, sum_by-cons}
use Rattle.std.proofs.lemmas.List.{length-map}
use Rattle.lid_base.specs.declared.line.Line.{Line}
use Rattle.lid_base.specs.declared.which.Which.TheVariants.{Models, CoverRows}
use Rattle.lid_base.specs.Lines.{ends_in_mark}
use Rattle.lid_base.proofs.Lists.{all_append}
use Rattle.lid_design.specs.declared.Model.{Model as ModelOf}
use Rattle.lid_design.specs.declared.Cell.{Cell}
use Rattle.lid_design.specs.declared.Cell.TheVariants.{Names as NamesCell, Latch as LatchCell}
use Rattle.lid_design.specs.declared.LatchKind.TheVariants.{Plain, Rise, Fall}
use Rattle.lid_design.specs.declared.Inst.{Inst}
use Rattle.lid_design.specs.declared.Bind.{Bind}
use Rattle.lid_blif.specs.declared.fault.BlifFault.TheVariants.{Arity, RowOutside, RowShape, MixedRows, LatchType, LatchInit, BindShape, DuplicateModel, Limit}
use Rattle.lid_blif.specs.declared.keyword.Keyword.{Keyword}
use Rattle.lid_blif.specs.declared.keyword.Keyword.TheVariants.{Model, Inputs, Outputs, Clock, Names, Latch, Subckt, End, Unknown, Row}
use Rattle.lid_blif.specs.declared.context.Context.{Context}
use Rattle.lid_base.specs.Words.{word_at, last_word}
use Rattle.lid_blif.specs.Words.{keyword_of, same_keyword, is_line, is_inner, leading, inputs_of, is_row_of, is_latch_type, is_latch_init, has_type, has_init, is_equals, is_empty, is_binding}
use Rattle.lid_blif.specs.Faults.{context_of, model_names, row_count, ends_in_zero, Case, no_model_case, is_mixed, line_fault, first_fault}
use Rattle.lid_blif.specs.Designs.{cube_of, names_of, kind_named, control_named, kind_of, control_of, bind_of, inst_of, latch_cell, names_cell, cell_before, cells_of, insts_of, model_of, models_of}
use Rattle.lid_design.specs.WellFormed.{IsWellFormedCell}
use Rattle.lid_blif.proofs.Faults.{told-none, first_fault_none, same_as, names_clear}
use Rattle.lid_base_lines.specs.Texts.{Words}
use Rattle.lid_blifout.specs.Canonical.{bind_word}
use Rattle.lid_blifout.specs.Writable.{IsControl, IsWritableLatch, IsWritableBind, IsWritableInst, IsWritableCell, IsWritableModel, cell_rows, cells_rows, model_rows}
use Rattle.lid_base_lines.specs.Spelled.{IsSpelled, AreSpelled}
use Rattle.lid_base_lines.proofs.ReadWords.{before_fails}
use Rattle.lid_base.proofs.Alls.{all_take, all_drop, all_both}

-- what holds of the words of a line without fault
pub record IsShaped (l : Line) : Type 0 where
  pub model : Model ≡ keyword_of l.words → length l.words ≡ 2
  pub names : Names ≡ keyword_of l.words → 2 ≤ length l.words
  pub latch : Latch ≡ keyword_of l.words → 3 ≤ length l.words
  pub inst : Subckt ≡ keyword_of l.words → 2 ≤ length l.words
  pub binds : Subckt ≡ keyword_of l.words → list_all is_binding (drop 2 l.words) ≡ true

or_left_false : (a b : Bool) → (a || b) ≡ false → a ≡ false
or_left_false true b h = absurd (let e : true ≡ false = h in cc)
or_left_false false b h = refl

model_shape : (context : Context) (names : Words) (l : Line) → line_fault context names l ≡ None → Model ≡ keyword_of l.words → length l.words ≡ 2
unfolding line_fault
model_shape context names l h e =
    let clear = rw (← e) at h in
    let later : List Case = (list_any (λ name. bytes_eq name (word_at l.words 1)) names, DuplicateModel l.number) ∷ (nat_lt 4096 (context.models + 1), Limit Models (context.models + 1)) ∷ [] in
    let first = told-none (not (length l.words == 2), Arity l.number) later clear in
    eqb-true (length l.words) 2 (not-false (length l.words == 2) first.0)

latch_shape : (context : Context) (names : Words) (l : Line) → line_fault context names l ≡ None → Latch ≡ keyword_of l.words → 3 ≤ length l.words
unfolding line_fault
latch_shape context names l h e =
    let clear = rw (← e) at h in
    let typed : List Case = (has_type l.words && not (is_latch_type (word_at l.words 3)), LatchType l.number) ∷ (has_init l.words && not (is_latch_init (last_word l.words)), LatchInit l.number) ∷ [] in
    let short : List Case = (nat_lt (length l.words) 3 || nat_lt 6 (length l.words), Arity l.number) ∷ typed in
    let inside = told-none (no_model_case context l.number) short clear in
    let long = told-none (nat_lt (length l.words) 3 || nat_lt 6 (length l.words), Arity l.number) typed inside.1 in
    ltb-false (length l.words) 3 (or_left_false (nat_lt (length l.words) 3) (nat_lt 6 (length l.words)) long.0)

inst_shape : (context : Context) (names : Words) (l : Line) → line_fault context names l ≡ None → Subckt ≡ keyword_of l.words → (2 ≤ length l.words) × (list_all is_binding (drop 2 l.words) ≡ true)
unfolding line_fault
inst_shape context names l h e =
    let clear = rw (← e) at h in
    let bound : List Case = (not (list_all is_binding (drop 2 l.words)), BindShape l.number) ∷ [] in
    let short : List Case = (nat_lt (length l.words) 2, Arity l.number) ∷ bound in
    let inside = told-none (no_model_case context l.number) short clear in
    let long = told-none (nat_lt (length l.words) 2, Arity l.number) bound inside.1 in
    let last = told-none (not (list_all is_binding (drop 2 l.words)), BindShape l.number) [] long.1 in
    (ltb-false (length l.words) 2 long.0, not-false (list_all is_binding (drop 2 l.words)) last.0)

lines_shaped : (before ls : List Line) → first_fault before ls ≡ None → AllByRecursion IsShaped ls
lines_shaped before [] h = tt
lines_shaped before (l ∷ ls) h =
    let parts = first_fault_none before l ls h in
    let context = context_of before in
    let names = model_names before in (
      record {
        model = model_shape context names l parts.0;
        names = λ e. (names_clear context names l parts.0 e).0;
        latch = latch_shape context names l parts.0;
        inst = λ e. (inst_shape context names l parts.0 e).0;
        binds = λ e. (inst_shape context names l parts.0 e).1;
      },
      lines_shaped (l ∷ before) ls parts.1,
    )

pub word_spelled : (words : Words) (i : ℕ) → i < length words → AllByRecursion (IsSpelled 1024) words → IsSpelled 1024 (word_at words i)
word_spelled [] i lt h = absurd (omega arith)
word_spelled (w ∷ ws) zero lt h = h.0
word_spelled (w ∷ ws) (suc i) lt h = word_spelled ws i (omega arith) h.1

-- latches
control_ok : (w : List ℕ) → IsSpelled 1024 w → IfSome (control_named w) IsControl
control_ok w s =
    elim (cases_Bool (bytes_eq w (codes "NIL"))) [
      | inl yes' ↦ subst (λ (o : Option (List ℕ)). IfSome o IsControl) (sym (cond-true (bytes_eq w (codes "NIL")) None (Some w) yes')) tt
      | inr no' ↦ subst (λ (o : Option (List ℕ)). IfSome o IsControl) (sym (cond-false (bytes_eq w (codes "NIL")) None (Some w) no')) (record { spelled = s; named = no' })
    ]

controls_ok : (words : Words) → AllByRecursion (IsSpelled 1024) words → IfSome (control_of words) IsControl
controls_ok words h =
    elim (cases_Bool (has_type words)) [
      | inl yes' ↦
          let five : 5 ≤ length words = leb-true 5 (length words) yes' in
          subst (λ (o : Option (List ℕ)). IfSome o IsControl) (sym (cond-true (has_type words) (control_named (word_at words 4)) None yes')) (control_ok (word_at words 4) (word_spelled words 4 (omega arith) h))
      | inr no' ↦ subst (λ (o : Option (List ℕ)). IfSome o IsControl) (sym (cond-false (has_type words) (control_named (word_at words 4)) None no')) tt
    ]

not_plain : (b : Bool) → cond b Rise Fall ≡ Plain → ⊥
not_plain true e = cc
not_plain false e = cc

plain_ok : (words : Words) → kind_of words ≡ Plain → control_of words ≡ None
plain_ok words = by (has_type words)
  where
    by : (b : Bool) → cond b (kind_named (word_at words 3)) Plain ≡ Plain → cond b (control_named (word_at words 4)) None ≡ None
    by true e = absurd (not_plain (bytes_eq (word_at words 3) (codes "re")) e)
    by false e = refl

-- what holds of each cell, beside the rules of covers
abbrev IsReadCell : Cell → Type 0
IsReadCell (NamesCell inputs out cover) = (AllByRecursion (IsSpelled 1024) inputs × IsSpelled 1024 out) × (cover.cubes ≡ [] → cover.on ≡ true)
IsReadCell (LatchCell input out kind control init) = IsWritableLatch input out kind control

no_rows_on : {X : Type 0} (f : Line → X) (rows : List Line) → map f rows ≡ [] → not (list_any ends_in_zero rows) ≡ true
no_rows_on f [] h = refl
no_rows_on f (row ∷ rows) h = absurd (cc)

names_read : (l : Line) (rows : List Line) → AreSpelled 1024 l.words → 2 ≤ length l.words → IsReadCell (names_cell l.words rows)
names_read l rows s long =
    ((all_take (IsSpelled 1024) (inputs_of l.words) (drop 1 l.words) (all_drop (IsSpelled 1024) 1 l.words s.all), word_spelled l.words (length l.words - 1) (omega arith) s.all), no_rows_on _ rows)

latch_read : (l : Line) → AreSpelled 1024 l.words → 3 ≤ length l.words → IsReadCell (latch_cell l.words)
latch_read l s long = record {
  reads = word_spelled l.words 1 (omega arith) s.all;
  driven = word_spelled l.words 2 (omega arith) s.all;
  controlled = controls_ok l.words s.all;
  plain = plain_ok l.words;
}

cell_read : (k : Keyword) (l : Line) (later : List Line) (cells : List Cell) → k ≡ keyword_of l.words → AreSpelled 1024 l.words
    → IsShaped l → AllByRecursion IsReadCell cells → AllByRecursion IsReadCell (cell_before k l.words later cells)
cell_read Names l later cells e s shape h = (names_read l (leading (is_line Row) later) s (shape.names e), h)
cell_read Latch l later cells e s shape h = (latch_read l s (shape.latch e), h)
cell_read Model l later cells e s shape h = h
cell_read Inputs l later cells e s shape h = h
cell_read Outputs l later cells e s shape h = h
cell_read Clock l later cells e s shape h = h
cell_read Subckt l later cells e s shape h = h
cell_read End l later cells e s shape h = h
cell_read Unknown l later cells e s shape h = h
cell_read Row l later cells e s shape h = h

abbrev pub AreRead : List Line → Type 0
AreRead ls = AllByRecursion (λ l. AreSpelled 1024 l.words × IsShaped l) ls

cells_read : (ls : List Line) → AreRead ls → AllByRecursion IsReadCell (cells_of ls)
cells_read [] h = tt
cells_read (l ∷ ls) h = let here = h.0 in cell_read (keyword_of l.words) l ls (cells_of ls) refl here.0 here.1 (cells_read ls h.1)

pub names_all : (k : Keyword) (ls : List Line) → AreRead ls → AllByRecursion (IsSpelled 1024) (names_of k ls)
names_all k [] h = tt
names_all k (l ∷ ls) h =
    let later = names_all k ls h.1 in
    let here = h.0 in
    let said = here.0 in
    elim (is_line k l) as (λ b. AllByRecursion (IsSpelled 1024) (flat_map (λ (m : Line). drop 1 m.words) (cond b (l ∷ filter (is_line k) ls) (filter (is_line k) ls)))) [
      | true ↦ all_append (IsSpelled 1024) (drop 1 l.words) (names_of k ls) (all_drop (IsSpelled 1024) 1 l.words said.all) later
      | false ↦ later
    ]

-- bindings
mark_tail : (xs ys : List ℕ) → 0 < length ys → ends_in_mark (xs ++ ys) ≡ ends_in_mark ys
mark_tail [] ys h = refl
mark_tail (x ∷ []) [] h = absurd (omega arith)
mark_tail (x ∷ []) (y ∷ ys) h = refl
mark_tail (x ∷ z ∷ xs) ys h = mark_tail (z ∷ xs) ys h

module _ (w : List ℕ) (s : IsSpelled 1024 w) (bound : is_binding w ≡ true) where
  bind_back : bind_word (bind_of w) ≡ w
  bind_back =
      let parts = and_parts (list_any is_equals w) (not (is_empty (before_first is_equals w)) && not (is_empty (after_first is_equals w))) bound in
      let both = and_parts (not (is_empty (before_first is_equals w))) (not (is_empty (after_first is_equals w))) parts.1 in
      let some : length (after_first is_equals w) ≡ 0 → ⊥ = eqb-false (length (after_first is_equals w)) 0 (not-true (is_empty (after_first is_equals w)) both.1) in
      let lt : position_or_len is_equals w < length w = omega (arith, some, length-drop (position_or_len is_equals w + 1) w) in
      let at : get_or w (position_or_len is_equals w) 0 ≡ 61 = eqb-true _ 61 (passes_at_first is_equals w 0 lt) in
      ap (λ (b : ℕ). before_first is_equals w ++ b ∷ after_first is_equals w) (sym at) ∙ sym (split_at_first is_equals w 0 lt)

  bind_read : ends_in_mark (before_first is_equals w) ≡ false → IsWritableBind (bind_of w)
  bind_read unmarked =
      let parts = and_parts (list_any is_equals w) (not (is_empty (before_first is_equals w)) && not (is_empty (after_first is_equals w))) bound in
      let both = and_parts (not (is_empty (before_first is_equals w))) (not (is_empty (after_first is_equals w))) parts.1 in
      let formal : length (before_first is_equals w) ≡ 0 → ⊥ = eqb-false (length (before_first is_equals w)) 0 (not-true (is_empty (before_first is_equals w)) both.0) in
      let actual : length (after_first is_equals w) ≡ 0 → ⊥ = eqb-false (length (after_first is_equals w)) 0 (not-true (is_empty (after_first is_equals w)) both.1) in
      let some : 0 < length (after_first is_equals w) = omega (arith, actual) in
      let short = s.short in
      let more : 0 < length (61 ∷ after_first is_equals w) = omega arith in
      let tail : ends_in_mark (bind_word (bind_of w)) ≡ ends_in_mark (after_first is_equals w) = mark_tail (before_first is_equals w) (61 ∷ after_first is_equals w) more ∙ mark_tail (61 ∷ []) (after_first is_equals w) some in
      let whole : ends_in_mark (bind_word (bind_of w)) ≡ false = ap ends_in_mark bind_back ∙ s.unmarked in
      record {
        formal = record { some = omega (arith, formal); short = omega (arith, length-take (position_or_len is_equals w) w); bytes = all_take _ (position_or_len is_equals w) w s.bytes; unmarked = unmarked };
        actual = record { some = some; short = omega (arith, length-drop (position_or_len is_equals w + 1) w); bytes = all_drop _ (position_or_len is_equals w + 1) w s.bytes; unmarked = sym tail ∙ whole };
        split = before_fails is_equals w;
        short = subst (λ (v : List ℕ). length v ≤ 1024) (sym bind_back) short;
        unmarked = whole;
      }

-- no formal ends in a mark
abbrev pub EndsWellBind : Bind → Type 0
EndsWellBind bind = ends_in_mark bind.formal ≡ false

binds_read : (words : Words) → AllByRecursion (IsSpelled 1024) words → list_all is_binding words ≡ true → AllByRecursion EndsWellBind (map bind_of words) → AllByRecursion IsWritableBind (map bind_of words)
binds_read [] s h u = tt
binds_read (w ∷ ws) s h u = let parts = and_parts (is_binding w) (list_all is_binding ws) h in (bind_read w s.0 parts.0 u.0, binds_read ws s.1 parts.1 u.1)

abbrev pub EndsWellInst : Inst → Type 0
EndsWellInst inst = AllByRecursion EndsWellBind inst.binds

pub insts_read : (ls : List Line) → AreRead ls → AllByRecursion EndsWellInst (insts_of ls) → AllByRecursion IsWritableInst (insts_of ls)
insts_read [] h u = tt
insts_read (l ∷ ls) h u = by (is_line Subckt l) refl (λ marks. insts_read ls h.1 marks)
  where
    by : (b : Bool) → is_line Subckt l ≡ b → (AllByRecursion EndsWellInst (insts_of ls) → AllByRecursion IsWritableInst (insts_of ls)) → AllByRecursion IsWritableInst (insts_of (l ∷ ls))
    by true e later =
        let here = h.0 in
        let said = here.0 in
        let shape = here.1 in
        let is = same_as Subckt (keyword_of l.words) e in
        let marks = rw e at u in
        let inst : IsWritableInst (inst_of l) = record {
          model = word_spelled l.words 1 (shape.inst is) said.all;
          binds = binds_read (drop 2 l.words) (all_drop (IsSpelled 1024) 2 l.words said.all) (shape.binds is) marks.0;
        } in
        rw e (inst, later marks.1)
    by false e later = let marks = rw e at u in rw e (later marks)

-- the rows of the cells of some lines, and those that the lines begin with
abbrev weight : List Line → ℕ
weight ls = cells_rows (cells_of ls) + length (leading (is_line Row) ls)

-- a line more makes the weight no greater, but for a row by one
weight_cons : (k : Keyword) (l : Line) (ls : List Line) → k ≡ keyword_of l.words → weight (l ∷ ls) ≤ weight ls + cond (same_keyword Row k) 1 0
weight_cons Names l ls e = rw (← e) (omega (arith, sum_by-cons cell_rows (names_cell l.words (leading (is_line Row) ls)) (cells_of ls), length-map (leading (is_line Row) ls) (cube_of (inputs_of l.words))))
weight_cons Latch l ls e = rw (← e) (omega (arith, sum_by-cons cell_rows (latch_cell l.words) (cells_of ls)))
weight_cons _ l ls e = rw (← e) (omega arith)

count_cons : (l : Line) (ls : List Line) → row_count (l ∷ ls) ≡ row_count ls + cond (is_line Row l) 1 0
count_cons l ls = elim (is_line Row l) as (λ b. cond b (row_count ls + 1) (row_count ls) ≡ row_count ls + cond b 1 0) [ true ↦ refl | false ↦ omega arith ]

-- the rows of the covers of all models are no more than the rows of the text
models_rows_le : (ls : List Line) → sum_by model_rows (models_of ls) + weight (leading is_inner ls) ≤ row_count ls
unfolding model_of
models_rows_le [] = omega arith
models_rows_le (l ∷ ls) =
    let later = models_rows_le ls in
    let body = leading is_inner ls in
    let m = model_of (word_at l.words 1) body in
    let count = count_cons l ls in
    let more = weight_cons (keyword_of l.words) l body refl in
    let sums = sum_by-cons model_rows m (models_of ls) in
    elim (is_line Model l) as (λ b. sum_by model_rows (cond b (m ∷ models_of ls) (models_of ls)) + weight (cond (not b) (l ∷ body) []) ≤ row_count (l ∷ ls)) [
      | true ↦ omega (arith, later, count, sums)
      | false ↦ omega (arith, later, count, more)
    ]

row_limit : (context : Context) (names : Words) (l : Line) → line_fault context names l ≡ None → Row ≡ keyword_of l.words → context.rows + 1 ≤ 1048576
unfolding line_fault
row_limit context names l h e =
    let clear = rw (← e) at h in
    let limit : List Case = (nat_lt 1048576 (context.rows + 1), Limit CoverRows (context.rows + 1)) ∷ [] in
    let mixed : List Case = (is_mixed context l, MixedRows l.number) ∷ limit in
    let shape : List Case = (not (is_row_of context.inputs l.words), RowShape l.number) ∷ mixed in
    let covered : List Case = (not context.covered, RowOutside l.number) ∷ shape in
    let a = told-none (no_model_case context l.number) covered clear in
    let b = told-none (not context.covered, RowOutside l.number) shape a.1 in
    let c = told-none (not (is_row_of context.inputs l.words), RowShape l.number) mixed b.1 in
    let d = told-none (is_mixed context l, MixedRows l.number) limit c.1 in
    let f = told-none (nat_lt 1048576 (context.rows + 1), Limit CoverRows (context.rows + 1)) [] d.1 in
    ltb-false 1048576 (context.rows + 1) f.0

place_rows : (before : List Line) → (context_of before).rows ≡ row_count before
unfolding context_of
place_rows before = refl

rows_limit : (before ls : List Line) → first_fault before ls ≡ None → row_count before ≤ 1048576 → row_count before + row_count ls ≤ 1048576
rows_limit before [] h few = omega arith
rows_limit before (l ∷ ls) h few =
    let parts = first_fault_none before l ls h in
    let grown = count_cons l before in
    let whole = count_cons l ls in
    let at = place_rows before in
    let more : row_count (l ∷ before) ≤ 1048576 =
    elim (cases_Bool (is_line Row l)) [
      | inl yes' ↦
          let limit = row_limit (context_of before) (model_names before) l parts.0 (same_as Row (keyword_of l.words) yes') in
          let one : ◌≡◌ {A = ℕ} (cond (is_line Row l) 1 0) 1 = cond-true (is_line Row l) 1 0 yes' in
          omega (arith, grown, at, limit, one)
      | inr no' ↦ let none : ◌≡◌ {A = ℕ} (cond (is_line Row l) 1 0) 0 = cond-false (is_line Row l) 1 0 no' in omega (arith, grown, none)
    ] in
    omega (arith, rows_limit (l ∷ before) ls parts.1 more, grown, whole)

pub models_rows_few : (ls : List Line) → first_fault [] ls ≡ None → sum_by model_rows (models_of ls) ≤ 1048576
models_rows_few ls h = let few : row_count [] ≤ 1048576 = omega arith in omega (arith, models_rows_le ls, rows_limit [] ls h few)

-- models
pub leading_read : (ls : List Line) → AreRead ls → AreRead (leading is_inner ls)
leading_read [] h = tt
leading_read (l ∷ ls) h =
    let later = leading_read ls h.1 in
    elim (is_inner l) as (λ b. AreRead (cond b (l ∷ leading is_inner ls) [])) [ true ↦ (h.0, later) | false ↦ tt ]

abbrev pub EndsWellModel : ModelOf → Type 0
EndsWellModel m = AllByRecursion EndsWellInst m.insts

writable_cell : (cell : Cell) → IsWellFormedCell cell → IsReadCell cell → IsWritableCell cell
writable_cell (NamesCell inputs out cover) f r = let names = r.0 in record { names = names.0; driven = names.1; rules = f.0; count = f.1; constant = r.1 }
writable_cell (LatchCell input out kind control init) f r = r

writable_cells : (cells : List Cell) → AllByRecursion IsWellFormedCell cells → AllByRecursion IsReadCell cells → AllByRecursion IsWritableCell cells
writable_cells [] f r = tt
writable_cells (cell ∷ cells) f r = (writable_cell cell f.0 r.0, writable_cells cells f.1 r.1)

model_read : (name : List ℕ) (body : List Line) → IsSpelled 1024 name → AreRead body → AllByRecursion IsWellFormedCell (cells_of body) → AllByRecursion EndsWellInst (insts_of body) → IsWritableModel (model_of name body)
unfolding model_of
model_read name body s h f u = record {
  name = s;
  inputs = names_all Inputs body h;
  outputs = names_all Outputs body h;
  clocks = names_all Clock body h;
  cells = writable_cells (cells_of body) f (cells_read body h);
  insts = insts_read body h u;
}

pub models_read : (ls : List Line) → AreRead ls → AllByRecursion (λ m. AllByRecursion IsWellFormedCell m.cells) (models_of ls) → AllByRecursion EndsWellModel (models_of ls) → AllByRecursion IsWritableModel (models_of ls)
unfolding model_of
models_read [] h f u = tt
models_read (l ∷ ls) h f u = by (is_line Model l) refl (models_read ls h.1)
  where
    by : (b : Bool) → is_line Model l ≡ b → (AllByRecursion (λ m. AllByRecursion IsWellFormedCell m.cells) (models_of ls) → AllByRecursion EndsWellModel (models_of ls) → AllByRecursion IsWritableModel (models_of ls))
        → AllByRecursion IsWritableModel (models_of (l ∷ ls))
    by true e later =
        let here = h.0 in
        let said = here.0 in
        let shape = here.1 in
        let marks = rw e at u in
        let formed = rw e at f in
        let two : length l.words ≡ 2 = shape.model (same_as Model (keyword_of l.words) e) in
        let first = model_read (word_at l.words 1) (leading is_inner ls) (word_spelled l.words 1 (omega arith) said.all) (leading_read ls h.1) formed.0 marks.0 in
        rw e (first, later formed.1 marks.1)
    by false e later = let marks = rw e at u in let formed = rw e at f in rw e (later formed marks)

pub lines_read : (ls : List Line) → first_fault [] ls ≡ None → AllByRecursion (λ l. AreSpelled 1024 l.words) ls → AreRead ls
lines_read ls h s = all_both (λ l. AreSpelled 1024 l.words) IsShaped ls s (lines_shaped [] ls h)
