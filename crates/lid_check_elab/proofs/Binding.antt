-- The nets that formals are bound to, and whole templates.
use Rattle.std.proofs.Common.{◌≡◌, ◌≢◌, ◌⊎◌, inl, inr, eqb, ℕ, ◌+◌, ◌<◌, ◌≤◌, nat_lt, Bool, true, false, not, cond, List, [], ◌∷◌, ◌++◌, length, map, find, position, Option, Some, None, option_and_then, slice_get, refl, sym, ◌∙◌, ap, subst, arith}
use Rattle.std.specs.Option.{option_map_or}
use Rattle.std.specs.List.{prefix_len, position_or_len, count_by}
use Rattle.std.specs.Str.{bytes_eq}
use Rattle.std.proofs.lemmas.Bool.{ltb-false}
use Rattle.std.proofs.lemmas.Bool.Decides.{eqb_tells}
use Rattle.std.proofs.lemmas.List.{length-map}
use Rattle.lid_design.specs.declared.Design.{Design}
use Rattle.lid_design.specs.declared.Model.{Model}
use Rattle.lid_design.specs.declared.Inst.{Inst}
use Rattle.lid_design.specs.declared.Bind.{Bind}
use Rattle.lid_design.specs.Models.{firsts, insts_of, number_named, number_from, instance_number, IsReached, formal_of}
use Rattle.lid_check_hierarchy.proofs.Fixpoints.{find_position}
use Rattle.lid_check_hierarchy.proofs.Numbers.{bytes_eq_comm}
use Rattle.lid_check_drivers.specs.Locals.{values_of, first_name_of, actual_for, model_locals}
use Rattle.lid_check_elab.specs.Parts.{ShowsDrivers, ArePlaces, places_bound, places_in_inst, IsTemplate, IsPicked, ArePicked}
use Rattle.lid_check_drivers.specs.Judged.{IsJudged}
use Rattle.lid_check_elab.specs.declared.driven.Driven.{Driven}
use Rattle.lid_check_elab.specs.declared.template.LocalDriver.{LocalDriver}
use Rattle.lid_check_elab.specs.declared.template.Template.{Template}
use Rattle.lid_check_drivers.proofs.Passing.{IsSoundInst}
use Rattle.lid_check_drivers.proofs.Wired.{Sub, sub_of, sound}
use Rattle.lid_check_drivers.proofs.Driven.{once_firsts}
use Rattle.lid_check_elab.proofs.Picking.{picked_by}
use Rattle.std.proofs.lemmas.List.Sums.{prefix_len-le-length}
use Rattle.lid_base.proofs.Places.{get_last, get_left}

prefix_map : {A B : Type 0} (f : A → B) (p : B → Bool) (xs : List A) → prefix_len p (map f xs) ≡ prefix_len (λ x. p (f x)) xs
prefix_map f p [] = refl
prefix_map f p (x ∷ xs) = ap (λ (n : ℕ). cond (p (f x)) (1 + n) 0) (prefix_map f p xs)

abbrev within : ℕ → ℕ → Option ℕ
within k len = cond (nat_lt k len) (Some k) None

position_map : {A B : Type 0} (f : A → B) (p : B → Bool) (xs : List A) → position p (map f xs) ≡ position (λ x. p (f x)) xs
position_map f p xs =
    ap (λ (k : ℕ). within k (length (map f xs))) (prefix_map f (λ x. not (p x)) xs)
    ∙ ap (within (prefix_len (λ x. not (p (f x))) xs)) (length-map xs f)

-- the actual of the first binding of a formal
abbrev pub actual_in : Option Bind → List ℕ
actual_in o = option_map_or (λ b. b.actual) o []

first_bound : (formal : List ℕ) (binds : List Bind) → first_name_of (values_of formal (map (λ (b : Bind). (b.formal, b.actual)) binds)) ≡ actual_in (find (λ b. bytes_eq formal b.formal) binds)
first_bound formal [] = refl
first_bound formal (b ∷ binds) =
    ap (λ (c : Bool). first_name_of (cond c (b.actual ∷ []) [] ++ rest)) (bytes_eq_comm b.formal formal)
    ∙ by (bytes_eq formal b.formal) (first_bound formal binds)
  where
    rest : List (List ℕ)
    rest = values_of formal (map (λ (b : Bind). (b.formal, b.actual)) binds)

    by : (c : Bool) → first_name_of rest ≡ actual_in (find (λ b. bytes_eq formal b.formal) binds) → first_name_of (cond c (b.actual ∷ []) [] ++ rest) ≡ actual_in (cond c (Some b) (find (λ b. bytes_eq formal b.formal) binds))
    by true later = refl
    by false later = later

-- by the place of the formal
pub actual_by : (inst : Inst) (formal : List ℕ) (o : Option ℕ) → position (bytes_eq formal) (map formal_of inst.binds) ≡ o → actual_for inst formal ≡ actual_in (option_and_then (slice_get inst.binds) o)
actual_by inst formal o place =
    first_bound formal inst.binds
    ∙ ap actual_in (find_position (λ b. bytes_eq formal b.formal) inst.binds)
    ∙ ap (λ (p : Option ℕ). actual_in (option_and_then (slice_get inst.binds) p)) (sym (position_map formal_of (bytes_eq formal) inst.binds) ∙ place)

pub position_past : (p : List ℕ → Bool) (xs : List (List ℕ)) → position p xs ≡ None → length xs ≡ position_or_len p xs
position_past p xs none = by (nat_lt (position_or_len p xs) (length xs)) refl none
  where
    short : position_or_len p xs ≤ length xs
    short = prefix_len-le-length (λ x. not (p x)) xs

    by : (b : Bool) → nat_lt (position_or_len p xs) (length xs) ≡ b → cond b (Some (position_or_len p xs)) None ≡ None → length xs ≡ position_or_len p xs
    by true e some = absurd (let f : Some (position_or_len p xs) ≡ None = some in cc)
    by false e is = let past = ltb-false (position_or_len p xs) (length xs) e in let s = short in omega arith

-- the model of an instance of a reached model is reached
pub sub_reached : (d : Design) (k : ℕ) → IsReached d k → (i j : ℕ) → instance_number d i k ≡ Some j → IsReached d j
unfolding number_from
sub_reached d k reached i j names = (i ∷ reached.0, ap (option_and_then (instance_number d i)) reached.1 ∙ names)

pub bound_in : (d : Design) (k i j : ℕ) (inst : Inst) → slice_get (insts_of d k) i ≡ Some inst → instance_number d i k ≡ Some j → places_in_inst d k inst ≡ places_bound d k j inst
bound_in d k i j inst at number =
    let named : number_named d inst.model ≡ Some j = ap (option_and_then (λ inst. number_named d inst.model)) (sym at) ∙ number in
    ap (λ (o : Option ℕ). option_map_or (λ j. places_bound d k j inst) o []) named

module _ (d : Design) (judged : IsJudged d) (k : ℕ) (reached : IsReached d k) (m : Model) (here : slice_get d.models k ≡ Some m) where
  -- an instance binds no formal twice
  pub formals_once : (i : ℕ) (inst : Inst) → slice_get (insts_of d k) i ≡ Some inst → firsts (map formal_of inst.binds) ≡ map formal_of inst.binds
  formals_once i inst at = once_firsts (map formal_of inst.binds) (λ formal is. ltb-false 1 (count_by (bytes_eq formal) (map formal_of inst.binds)) (judged_inst.once formal is))
    where
      own : slice_get m.insts i ≡ Some inst
      own = ap (λ (o : Option Model). slice_get (option_map_or (λ m. m.insts) o []) i) (sym here) ∙ at

      sub : Sub d inst
      sub = sub_of d judged k reached m here i inst own

      judged_inst : IsSoundInst d sub.model inst
      judged_inst = (sound d judged k reached m here).insts i inst sub.model own sub.named

  -- the places of the nets among those that are driven pick what drives them
  pub nets_picked : (all : List LocalDriver) (picks : List ℕ) (driven : Driven) → ShowsDrivers d k (model_locals d k) driven → all ≡ driven.locals.items → ArePlaces d k driven.nets.items picks → ArePicked d k all picks
  nets_picked all picks driven shows locals are = record {
    long = are.long;
    each = λ j pick net at there. subst (λ (ls : List LocalDriver). IsPicked d k ls pick net) (sym locals) (picked_by d judged k reached m here driven picks shows are j pick net at there);
  }

-- the template of a model is there
abbrev pub HasTemplate : Design → List Template → ℕ → Type 0
HasTemplate d ts k = (t : Template) × (slice_get ts k ≡ Some t) × IsTemplate d k t

-- one more template
pub templates_next : (d : Design) (ts new : List Template) (t : Template) (n : ℕ) → length ts ≡ n → new ≡ ts ++ t ∷ [] → (IsReached d n → IsTemplate d n t) → ((k : ℕ) → k < n → IsReached d k → HasTemplate d ts k) → (k : ℕ) → k < n + 1 → IsReached d k → HasTemplate d new k
templates_next d ts new t n long grown here older k below reached = by (eqb_tells k n)
  where
    last : slice_get new n ≡ Some t
    last = ap (λ (xs : List Template). slice_get xs n) grown ∙ ap (λ (m : ℕ). slice_get (ts ++ t ∷ []) m) (sym long) ∙ get_last ts t

    by : ((eqb k n ≡ true) × (k ≡ n)) ⊎ ((eqb k n ≡ false) × (k ≢ n)) → HasTemplate d new k
    by (inl same) = subst (HasTemplate d new) (sym same.1) (t, last, here (subst (IsReached d) same.1 reached))
    by (inr other) =
        let apart = other.1 in
        let found = older k (omega arith) reached in
        (found.0, ap (λ (xs : List Template). slice_get xs k) grown ∙ get_left ts (t ∷ []) k found.0 found.1, found.2)
