-- A set of names with one more.
use Rattle.std.proofs.Common.{◌≡◌, ℕ, Bool, true, false, cond, ◌||◌, List, [], ◌∷◌, ◌++◌, refl, sym, ◌∙◌}
use Rattle.std.specs.List.{list_any}
use Rattle.std.proofs.lemmas.List.Folds.{list_any-append}

cond_or : (a b : Bool) → cond a true b ≡ (b || (a || false))
cond_or true true = refl
cond_or true false = refl
cond_or false true = refl
cond_or false false = refl

pub list_any_push : (p : List ℕ → Bool) (names : List (List ℕ)) (name : List ℕ) → cond (p name) true (list_any p names) ≡ list_any p (names ++ name ∷ [])
list_any_push p names name = cond_or (p name) (list_any p names) ∙ sym (list_any-append p names (name ∷ []))
