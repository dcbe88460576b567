-- What holds of lines without fault.
use Rattle.std.proofs.Common.{◌≡◌, ℕ, ◌+◌, ◌<◌, ◌≤◌, Bool, true, false, cond, List, [], ◌∷◌, ◌++◌, length, refl, sym, ◌∙◌, subst, arith, append_assoc}
use Rattle.std.specs.Prelude.{Option, Some, None, map, bytes_eq, nat_lt, ◌==◌, not}
use Rattle.std.specs.List.{list_any, AllByRecursion, IsDistinct}
use Rattle.std.proofs.lemmas.List.{append-nil, length_push}
use Rattle.std.proofs.lemmas.Bool.{ltb-false, or_parts}
use Rattle.lid_base.specs.declared.line.Line.{Line}
use Rattle.lid_base.specs.declared.which.Which.TheVariants.{Models}
use Rattle.lid_blif.specs.declared.fault.BlifFault.TheVariants.{Arity, TooManyInputs, DuplicateModel, Limit}
use Rattle.lid_blif.specs.declared.fault.BlifFault.{BlifFault}
use Rattle.lid_blif.specs.declared.keyword.Keyword.{Keyword}
use Rattle.lid_blif.specs.declared.keyword.Keyword.TheVariants.{Model, Inputs, Outputs, Clock, Names, Latch, Subckt, End, Unknown, Row}
use Rattle.lid_blif.specs.declared.context.Context.{Context}
use Rattle.lid_base.specs.Words.{word_at}
use Rattle.lid_blif.specs.Words.{keyword_of, is_line, same_keyword, inputs_of, leading, is_inner}
use Rattle.lid_blif.specs.Designs.{IsNarrow}
use Rattle.lid_blif.specs.Faults.{context_of, model_names, Case, told, no_model_case, line_fault, first_fault}
use Rattle.lid_blif.specs.Designs.{models_of, model_of}
use Rattle.lid_design.specs.WellFormed.{model_name}
use Rattle.lid_blif.proofs.Contexts.{first_fault_pass, first_fault_here}

-- where no fault is told, no condition holds
pub told-none : (c : Case) (cases : List Case) → told (c ∷ cases) ≡ None → (c.0 ≡ false) × (told cases ≡ None)
told-none (true, fault) cases h = absurd (let e : Some fault ≡ None = h in cc)
told-none (false, fault) cases h = (refl, h)

-- the first line and the later lines have no fault
pub first_fault_none : (before : List Line) (l : Line) (ls : List Line) → first_fault before (l ∷ ls) ≡ None → (line_fault (context_of before) (model_names before) l ≡ None) × (first_fault (l ∷ before) ls ≡ None)
first_fault_none before l ls h = cases (line_fault (context_of before) (model_names before) l) refl
  where
    cases : (o : Option BlifFault) → line_fault (context_of before) (model_names before) l ≡ o → (line_fault (context_of before) (model_names before) l ≡ None) × (first_fault (l ∷ before) ls ≡ None)
    cases None e = (e, sym (first_fault_pass before l ls e) ∙ h)
    cases (Some fault) e = absurd (let both : Some fault ≡ None = sym (first_fault_here before l ls fault e) ∙ h in cc)

-- a cover line without fault has its output, and at most 64 inputs
pub names_clear : (context : Context) (names : List (List ℕ)) (l : Line) → line_fault context names l ≡ None → Names ≡ keyword_of l.words → (2 ≤ length l.words) × (inputs_of l.words ≤ 64)
unfolding line_fault
names_clear context names l h e =
    let clear = rw (← e) at h in
    let wide : List Case = (nat_lt 64 (inputs_of l.words), TooManyInputs l.number) ∷ [] in
    let short : List Case = (nat_lt (length l.words) 2, Arity l.number) ∷ wide in
    let inside = told-none (no_model_case context l.number) short clear in
    let long = told-none (nat_lt (length l.words) 2, Arity l.number) wide inside.1 in
    let few = told-none (nat_lt 64 (inputs_of l.words), TooManyInputs l.number) [] long.1 in
    (ltb-false (length l.words) 2 long.0, ltb-false 64 (inputs_of l.words) few.0)

pub narrow_lines : (before ls : List Line) → first_fault before ls ≡ None → AllByRecursion IsNarrow ls
narrow_lines before [] h = tt
narrow_lines before (l ∷ ls) h =
    let parts = first_fault_none before l ls h in
    (λ e. (names_clear (context_of before) (model_names before) l parts.0 e).1, narrow_lines (l ∷ before) ls parts.1)

-- a line outside a model, without fault, opens one
pub line_fault_opens : (k : Keyword) (l : Line) (context : Context) (names : List (List ℕ)) → k ≡ keyword_of l.words → context.inside ≡ false → line_fault context names l ≡ None → k ≡ Model
unfolding line_fault
line_fault_opens Model l context names e out h = refl
line_fault_opens Inputs l context names e out h = absurd (let clear = rw (← e, out) at h in cc)
line_fault_opens Outputs l context names e out h = absurd (let clear = rw (← e, out) at h in cc)
line_fault_opens Clock l context names e out h = absurd (let clear = rw (← e, out) at h in cc)
line_fault_opens Names l context names e out h = absurd (let clear = rw (← e, out) at h in cc)
line_fault_opens Latch l context names e out h = absurd (let clear = rw (← e, out) at h in cc)
line_fault_opens Subckt l context names e out h = absurd (let clear = rw (← e, out) at h in cc)
line_fault_opens End l context names e out h = absurd (let clear = rw (← e, out) at h in cc)
line_fault_opens Unknown l context names e out h = absurd (let clear = rw (← e, out) at h in cc)
line_fault_opens Row l context names e out h = absurd (let clear = rw (← e, out) at h in cc)

all_push : (p : List ℕ → Bool) (names : List (List ℕ)) (name : List ℕ) → AllByRecursion (λ y. p y ≡ false) names → p name ≡ false → AllByRecursion (λ y. p y ≡ false) (names ++ name ∷ [])
all_push p [] name h e = (e, tt)
all_push p (x ∷ xs) name h e = (h.0, all_push p xs name h.1 e)

distinct_push : (names : List (List ℕ)) (name : List ℕ) → IsDistinct bytes_eq names → list_any (λ other. bytes_eq other name) names ≡ false → IsDistinct bytes_eq (names ++ name ∷ [])
unfolding IsDistinct
distinct_push [] name d h = (tt, tt)
distinct_push (x ∷ xs) name d h =
    let parts = or_parts (bytes_eq x name) (list_any (λ other. bytes_eq other name) xs) h in
    (all_push (bytes_eq x) xs name d.0 parts.0, distinct_push xs name d.1 parts.1)

pub context_models : (before : List Line) → (context_of before).models ≡ length (model_names before)
unfolding context_of
context_models before = refl

-- keywords that are the same
pub same_as : (a b : Keyword) → same_keyword a b ≡ true → a ≡ b
same_as Model Model h = refl
same_as Inputs Inputs h = refl
same_as Outputs Outputs h = refl
same_as Clock Clock h = refl
same_as Names Names h = refl
same_as Latch Latch h = refl
same_as Subckt Subckt h = refl
same_as End End h = refl
same_as Unknown Unknown h = refl
same_as Row Row h = refl
same_as _ _ h = absurd (cc)

-- a `.model` line without fault has a new name, and does not exceed the limit
pub line_fault_new : (context : Context) (names : List (List ℕ)) (l : Line) → Model ≡ keyword_of l.words → line_fault context names l ≡ None → (list_any (λ other. bytes_eq other (word_at l.words 1)) names ≡ false) × (context.models + 1 ≤ 4096)
unfolding line_fault
line_fault_new context names l e h =
    let clear = rw (← e) at h in
    let many : List Case = (nat_lt 4096 (context.models + 1), Limit Models (context.models + 1)) ∷ [] in
    let known : List Case = (list_any (λ other. bytes_eq other (word_at l.words 1)) names, DuplicateModel l.number) ∷ many in
    let one = told-none (not (length l.words == 2), Arity l.number) known clear in
    let new = told-none (list_any (λ other. bytes_eq other (word_at l.words 1)) names, DuplicateModel l.number) many one.1 in
    let few = told-none (nat_lt 4096 (context.models + 1), Limit Models (context.models + 1)) [] new.1 in
    (new.0, ltb-false 4096 (context.models + 1) few.0)

-- distinct names, and not too many
pub record AreNames (names : List (List ℕ)) : Type 0 where
  pub distinct : IsDistinct bytes_eq names
  pub few : length names ≤ 4096

-- one line more
names_step : (before : List Line) (l : Line) (later : List (List ℕ)) → line_fault (context_of before) (model_names before) l ≡ None → AreNames (model_names before) → (AreNames (model_names (l ∷ before)) → AreNames (model_names (l ∷ before) ++ later)) → AreNames (model_names before ++ cond (is_line Model l) (word_at l.words 1 ∷ later) later)
names_step before l later clear names next = cases (is_line Model l) refl
  where
    cases : (b : Bool) → is_line Model l ≡ b → AreNames (model_names before ++ cond (is_line Model l) (word_at l.words 1 ∷ later) later)
    cases true e =
        let new = line_fault_new (context_of before) (model_names before) l (same_as Model (keyword_of l.words) e) clear in
        let more : AreNames (model_names before ++ word_at l.words 1 ∷ []) = record {
          distinct = distinct_push (model_names before) (word_at l.words 1) names.distinct new.0;
          few = rw length_push (omega (arith, new.1, context_models before));
        } in
        let grown : model_names (l ∷ before) ≡ model_names before ++ word_at l.words 1 ∷ [] = rw e in
        let all = rw grown at (next (rw grown more)) in
        let joined = rw append_assoc at all in
        rw e joined
    cases false e =
        let same : model_names (l ∷ before) ≡ model_names before = rw e in
        let all = rw same at (next (rw same names)) in
        rw e all

map_cond : {X Y : Type 0} (f : X → Y) (b : Bool) (x : X) (xs : List X) → map f (cond b (x ∷ xs) xs) ≡ cond b (f x ∷ map f xs) (map f xs)
map_cond f true x xs = refl
map_cond f false x xs = refl

-- the names of the models of some lines, after those of the lines before
pub names_of_models : (before ls : List Line) → first_fault before ls ≡ None → AreNames (model_names before) → AreNames (model_names before ++ map model_name (models_of ls))
unfolding model_of
names_of_models before [] h names = rw append-nil names
names_of_models before (l ∷ ls) h names =
    let parts = first_fault_none before l ls h in
    let step = names_step before l (map model_name (models_of ls)) parts.0 names (names_of_models (l ∷ before) ls parts.1) in
    subst (λ xs. AreNames (model_names before ++ xs)) (sym (map_cond model_name (is_line Model l) (model_of (word_at l.words 1) (leading is_inner ls)) (models_of ls))) step

-- there is a model
pub some_model : (l : Line) (ls : List Line) → first_fault [] (l ∷ ls) ≡ None → 0 < length (models_of (l ∷ ls))
unfolding context_of
some_model l ls h =
    let parts = first_fault_none [] l ls h in
    let opens = line_fault_opens (keyword_of l.words) l (context_of []) (model_names []) refl refl parts.0 in
    let first : is_line Model l ≡ true = rw opens in
    rw first (omega arith)
