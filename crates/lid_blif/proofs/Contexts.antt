-- What a line makes of the context of the next, and the steps of a scan.
use Rattle.std.proofs.Common.{◌≡◌, ◌≢◌, ℕ, arith, cond, ◌+◌, ◌<◌, ◌≤◌, ◌||◌, Bool, true, false, List, [], ◌∷◌, ◌++◌, length, get_or, take, drop, refl, sym, ap, ◌∙◌}
use Rattle.std.specs.Prelude.{reverse, Option, Some, None}
use Rattle.std.proofs.lemmas.List.{at_drop_more, length_push, take_more, reverse-append}
use Rattle.lid_base.specs.declared.line.Line.{Line}
use Rattle.lid_blif.specs.declared.fault.BlifFault.{BlifFault}
use Rattle.lid_blif.specs.declared.keyword.Keyword.{Keyword}
use Rattle.lid_blif.specs.declared.keyword.Keyword.TheVariants.{Model, Names, End, Row}
use Rattle.lid_blif.specs.declared.context.Context.{Context}
use Rattle.lid_base.specs.Words.{word_at}
use Rattle.lid_blif.specs.Words.{keyword_of, inputs_of, is_line}
use Rattle.lid_blif.specs.Faults.{context_of, row_count, ends_in_zero, ends_in_one, model_names, line_fault, first_fault}

-- a context without a cover
abbrev pub uncovered : Bool → Context → Context
uncovered inside p = record { inside = inside; covered = false; inputs = 0; zeros = false; ones = false; rows = p.rows; models = p.models }

-- the context after a line
abbrev pub next_context : Keyword → Line → Context → Context
next_context Model l p = record { inside = true; covered = false; inputs = 0; zeros = false; ones = false; rows = p.rows; models = p.models + 1 }
next_context End l p = uncovered false p
next_context Names l p = record { inside = p.inside; covered = true; inputs = inputs_of l.words; zeros = false; ones = false; rows = p.rows; models = p.models }
next_context Row l p = record { inside = p.inside; covered = p.covered; inputs = p.inputs; zeros = ends_in_zero l || p.zeros; ones = ends_in_one l || p.ones; rows = p.rows + 1; models = p.models }
next_context _ l p = uncovered p.inside p

pub context_of_cons : (k : Keyword) (l : Line) (before : List Line) → k ≡ keyword_of l.words → context_of (l ∷ before) ≡ next_context k l (context_of before)
unfolding context_of
context_of_cons Model l before e = rw (← e, length_push)
context_of_cons _ l before e = rw (← e)

-- the context after a line, from the context before it
pub context_after : (k : Keyword) (l : Line) (before : List Line) (p q : Context) → k ≡ keyword_of l.words → q ≡ next_context k l p → p ≡ context_of before → q ≡ context_of (l ∷ before)
context_after k l before p q e is h = is ∙ ap (next_context k l) h ∙ sym (context_of_cons k l before e)

-- a line that neither opens nor closes a model, nor belongs to a cover
pub next_context_other : (k : Keyword) (l : Line) (p : Context) → k ≢ Model → k ≢ Names → k ≢ End → k ≢ Row → next_context k l p ≡ uncovered p.inside p
next_context_other Model l p m n e r = absurd (m refl)
next_context_other Names l p m n e r = absurd (n refl)
next_context_other End l p m n e r = absurd (e refl)
next_context_other Row l p m n e r = absurd (r refl)
next_context_other _ l p m n e r = refl

-- the lines before the next line
pub before_more : {X : Type 0} (xs : List X) (i : ℕ) (x : X) → i < length xs → x ≡ get_or xs i x → reverse (take (i + 1) xs) ≡ x ∷ reverse (take i xs)
before_more xs i x lt is = ap reverse (take_more xs i x lt) ∙ reverse-append (take i xs) (get_or xs i x ∷ []) ∙ ap (λ y. y ∷ reverse (take i xs)) (sym is)

pub none_from : {X : Type 0} (o : Option X) → ((x : X) → o ≢ Some x) → o ≡ None
none_from None h = refl
none_from (Some x) h = absurd (h x refl)

-- a function of the lines that are left, at the first of them
pub first_left : {X Y : Type 0} (F : List X → Y) (xs : List X) (i : ℕ) (x : X) → i < length xs → x ≡ get_or xs i x → F (drop i xs) ≡ F (x ∷ drop (i + 1) xs)
first_left F xs i x lt is = at_drop_more F xs i x lt ∙ ap (λ y. F (y ∷ drop (i + 1) xs)) (sym is)

-- a line without fault passes the fault on to the later lines
pub first_fault_pass : (before : List Line) (l : Line) (ls : List Line) → line_fault (context_of before) (model_names before) l ≡ None → first_fault before (l ∷ ls) ≡ first_fault (l ∷ before) ls
first_fault_pass before l ls e = rw e

pub first_fault_here : (before : List Line) (l : Line) (ls : List Line) (fault : BlifFault) → line_fault (context_of before) (model_names before) l ≡ Some fault → first_fault before (l ∷ ls) ≡ Some fault
first_fault_here before l ls fault e = rw e

-- what is counted is 0 before the first line
pub none_before : (count : Context → ℕ) (p : Context) → p ≡ context_of [] → count (context_of []) ≡ 0 → count p ≤ 0
none_before count p e zero = let none : count p ≡ 0 = ap count e ∙ zero in omega arith

pub no_rows : (context_of []).rows ≡ 0
unfolding context_of
no_rows = refl

pub no_models : (context_of []).models ≡ 0
unfolding context_of
no_models = refl

-- a line is at most one row more, and one model more
pub rows_cons : (l : Line) (before : List Line) → (context_of (l ∷ before)).rows ≤ (context_of before).rows + 1
unfolding context_of
rows_cons l before =
    elim (is_line Row l) as (λ b. cond b (row_count before + 1) (row_count before) ≤ row_count before + 1) [ true ↦ omega arith | false ↦ omega arith ]

pub models_cons : (l : Line) (before : List Line) → (context_of (l ∷ before)).models ≤ (context_of before).models + 1
unfolding context_of
models_cons l before =
    let ns = model_names before in
    elim (is_line Model l) as (λ b. length (cond b (ns ++ word_at l.words 1 ∷ []) ns) ≤ length ns + 1) [
      | true ↦ rw length_push (omega arith)
      | false ↦ omega arith
    ]
