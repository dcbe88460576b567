-- The first of some faults, and what is told of them.
use Rattle.std.proofs.Common.{◌≡◌, List, [], ◌∷◌, map, Option, Some, None, refl, sym, ◌∙◌, ap}
use Rattle.lid_check_rules.specs.declared.fault.CheckFault.{CheckFault}
use Rattle.lid_check_rules.specs.declared.told.Told.{Told}
use Rattle.lid_check_rules.specs.Conditions.{or_fault, first_told}
use Rattle.lid_check_rules.specs.Told.{shown_of}

-- what is told first of two conditions
pub told_first : (a b : Option CheckFault) (o : Option Told) (told : Told) → o ≡ Some told → shown_of o ≡ a → shown_of (Some told) ≡ or_fault a b
told_first a b o told is tells = sym (ap (λ (x : Option CheckFault). or_fault x b) (sym tells ∙ ap shown_of is))

pub told_later : (a b : Option CheckFault) (o : Option Told) → o ≡ None → shown_of o ≡ a → b ≡ or_fault a b
told_later a b o is tells = sym (ap (λ (x : Option CheckFault). or_fault x b) (sym tells ∙ ap shown_of is))

pub none_both : (a b : Option CheckFault) → or_fault a b ≡ None → (a ≡ None) × (b ≡ None)
none_both None b none = (refl, none)
none_both (Some fault) b none = absurd (let e : Some fault ≡ None = none in cc)

pub or_assoc : (a b c : Option CheckFault) → or_fault (or_fault a b) c ≡ or_fault a (or_fault b c)
or_assoc None b c = refl
or_assoc (Some fault) b c = refl

-- lists of which the same is told, item by item
pub same_told : {A B : Type 0} (f : A → Option CheckFault) (g : B → Option CheckFault) (xs : List A) (ys : List B) → map f xs ≡ map g ys → first_told f xs ≡ first_told g ys
same_told f g xs ys same = first_map f xs ∙ ap first_some same ∙ sym (first_map g ys)
  where
    first_some : List (Option CheckFault) → Option CheckFault
    first_some told = first_told (λ (o : Option CheckFault). o) told

    first_map : {A : Type 0} (f : A → Option CheckFault) (xs : List A) → first_told f xs ≡ first_some (map f xs)
    first_map f [] = refl
    first_map f (x ∷ xs) = ap (or_fault (f x)) (first_map f xs)
