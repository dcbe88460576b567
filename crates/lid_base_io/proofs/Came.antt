-- Calls that are told, one after the other.
use Rattle.std.proofs.Common.{◌≡◌, ℕ, List, [], ◌++◌, length, take, drop, Option, Some, None, refl, sym, ◌∙◌, ap, subst, append_assoc, append-nil}
use Rattle.std.proofs.Math.Seq.{take-append_seam}
use Rattle.std.proofs.lemmas.List.{take-append-drop}
use Rattle.lid_base.specs.Outside.{Came, CamePrefix}
use Rattle.lid_base_io.specs.Calls.{CameAs}

pub none_came : {A : Type 0} (old : Option (List A)) → Came old old []
none_came None = tt
none_came (Some all) = (all, refl, sym (append-nil all))

pub both_came : {A : Type 0} (old now new : Option (List A)) (first second : List A) → Came old now first → Came now new second → Came old new (first ++ second)
both_came old now None first second a b = tt
both_came {A} old now (Some all) first second a b =
    let at : Came old (Some b.0) first = subst (λ (w : Option (List A)). Came old w first) b.1 a in
    (at.0, at.1, b.2 ∙ ap (λ (xs : List A). xs ++ second) at.2 ∙ append_assoc at.0 first second)

-- a list is some first of a list that begins with it
pub begins_with : {A : Type 0} (first rest all : List A) → first ++ rest ≡ all → first ≡ take (length first) all
begins_with {A} first rest all e = sym (subst (λ (xs : List A). take (length first) xs ≡ first) e (take-append_seam first rest))

pub part_came : {A : Type 0} (old new : Option (List A)) (first rest all : List A) → Came old new first → first ++ rest ≡ all → CamePrefix old new all
part_came {A} old new first rest all came e = (length first, subst (λ (xs : List A). Came old new xs) (begins_with first rest all e) came)

-- these calls came, and then some first of those, which the rest follows
pub first_and_some_came : {A : Type 0} (old now new : Option (List A)) (first second rest all : List A) → Came old now first → CamePrefix now new second → first ++ (second ++ rest) ≡ all → CamePrefix old new all
first_and_some_came {A} old now new first second rest all a b e =
    let k : ℕ = b.0 in
    part_came old new (first ++ take k second) (drop k second ++ rest) all (both_came old now new first (take k second) a b.1)
    (append_assoc first (take k second) (drop k second ++ rest)
    ∙ ap (λ (xs : List A). first ++ xs) (sym (append_assoc (take k second) (drop k second) rest) ∙ ap (λ (xs : List A). xs ++ rest) (take-append-drop k second))
    ∙ e)

-- some first of these calls came, which the rest follows
pub some_of_first_came : {A : Type 0} (old new : Option (List A)) (first rest all : List A) → CamePrefix old new first → first ++ rest ≡ all → CamePrefix old new all
some_of_first_came {A} old new first rest all a e = first_and_some_came old old new [] first rest all (none_came old) a e

-- calls so far and those that are left make all: some of these came
pub more_came : {A : Type 0} (old now new : Option (List A)) (all left rest calls : List A) → left ≡ calls ++ rest → CameAs old now (λ before. before ++ left ≡ all) → Came now new calls → CameAs old new (λ before. before ++ rest ≡ all)
more_came {A} old now new all left rest calls e so came =
    (so.0 ++ calls, both_came old now new so.0 calls so.1 came, append_assoc so.0 calls rest ∙ ap (λ (xs : List A). so.0 ++ xs) (sym e) ∙ so.2)

-- these came, and no more
pub some_came : {A : Type 0} (old now new : Option (List A)) (all left rest calls : List A) → left ≡ calls ++ rest → CameAs old now (λ before. before ++ left ≡ all) → Came now new calls → CamePrefix old new all
some_came {A} old now new all left rest calls e so came =
    let more = more_came old now new all left rest calls e so came in
    part_came old new more.0 rest all more.1 more.2

-- none is left
pub all_came : {A : Type 0} (old new : Option (List A)) (all left : List A) → left ≡ [] → CameAs old new (λ before. before ++ left ≡ all) → Came old new all
all_came {A} old new all left none so =
    subst (λ (xs : List A). Came old new xs) (sym (append-nil so.0) ∙ ap (λ (xs : List A). so.0 ++ xs) (sym none) ∙ so.2) so.1
