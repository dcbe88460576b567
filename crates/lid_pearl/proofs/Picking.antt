-- Items that a test picks, as they are taken from a list one by one.
use Rattle.std.proofs.Common.{◌≡◌, Bool, List, [], ◌∷◌, ◌++◌, length, filter, refl, sym, ◌∙◌, ap, append_assoc, append-nil, arith}
use Rattle.std.proofs.lemmas.List.Elements.{filter-append}

pub nothing_left : {A : Type 0} (xs : List A) → length xs ≡ 0 → xs ≡ []
nothing_left [] none = refl
nothing_left (x ∷ xs) some = absurd (omega arith)

module _ {A : Type 0} (p : A → Bool) where
  pub picked_none : (old items whole : List A) → old ≡ [] → items ≡ whole → old ++ filter p items ≡ filter p whole
  picked_none old items whole none same = ap (λ (xs : List A). xs ++ filter p items) none ∙ ap (filter p) same

  -- what was picked and what is still to be picked stay the whole
  pub picked_on : (old new : List A) (x : A) (rest items whole : List A) → new ≡ old ++ filter p (x ∷ []) → items ≡ x ∷ rest → old ++ filter p items ≡ whole → new ++ filter p rest ≡ whole
  picked_on old new x rest items whole grown steps all =
      ap (λ (xs : List A). xs ++ filter p rest) grown
      ∙ append_assoc old (filter p (x ∷ [])) (filter p rest)
      ∙ ap (λ (xs : List A). old ++ xs) (sym (filter-append p (x ∷ []) rest))
      ∙ ap (λ (xs : List A). old ++ filter p xs) (sym steps)
      ∙ all

  pub picked_all : (old items whole : List A) → items ≡ [] → old ++ filter p items ≡ whole → old ≡ whole
  picked_all old items whole none all = sym (append-nil old) ∙ ap (λ (xs : List A). old ++ filter p xs) (sym none) ∙ all
