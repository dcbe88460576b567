-- First places among filtered names.
use Rattle.std.proofs.Common.{◌≡◌, ℕ, Bool, true, false, not, cond, List, [], ◌∷◌, filter, refl, sym, ◌∙◌, ap}
use Rattle.std.specs.Str.{bytes_eq}
use Rattle.std.proofs.lemmas.Slice.Eq.{bytes_eq-Decides}
use Rattle.lid_check_names.specs.Names.{firsts}
use Rattle.lid_check_names.proofs.Lists.{differs}

filters_commute : (p q : List ℕ → Bool) (xs : List (List ℕ)) → filter p (filter q xs) ≡ filter q (filter p xs)
filters_commute p q [] = refl
filters_commute p q (x ∷ xs) = by (p x) refl (q x) refl (filters_commute p q xs)
  where
    by : (a : Bool) → p x ≡ a → (b : Bool) → q x ≡ b → filter p (filter q xs) ≡ filter q (filter p xs) → filter p (cond b (x ∷ filter q xs) (filter q xs)) ≡ filter q (cond a (x ∷ filter p xs) (filter p xs))
    by true e true f later = ap (λ (c : Bool). cond c (x ∷ filter p (filter q xs)) (filter p (filter q xs))) e ∙ ap (λ (ns : List (List ℕ)). x ∷ ns) later ∙ sym (ap (λ (c : Bool). cond c (x ∷ filter q (filter p xs)) (filter q (filter p xs))) f)
    by true e false f later = later ∙ sym (ap (λ (c : Bool). cond c (x ∷ filter q (filter p xs)) (filter q (filter p xs))) f)
    by false e true f later = ap (λ (c : Bool). cond c (x ∷ filter p (filter q xs)) (filter p (filter q xs))) e ∙ later
    by false e false f later = later

-- names that a test takes all differ from one that it does not take
filter_absorbs : (p : List ℕ → Bool) (x : List ℕ) (xs : List (List ℕ)) → p x ≡ false → filter p (filter (differs x) xs) ≡ filter p xs
filter_absorbs p x [] h = refl
filter_absorbs p x (y ∷ ys) h = by (bytes_eq y x) refl (filter_absorbs p x ys h)
  where
    by : (b : Bool) → bytes_eq y x ≡ b → filter p (filter (differs x) ys) ≡ filter p ys → filter p (cond (not b) (y ∷ filter (differs x) ys) (filter (differs x) ys)) ≡ cond (p y) (y ∷ filter p ys) (filter p ys)
    by true e later = later ∙ sym (ap (λ (c : Bool). cond c (y ∷ filter p ys) (filter p ys)) (ap p ((bytes_eq-Decides y x).0 e) ∙ h))
    by false e later = ap (λ (ns : List (List ℕ)). cond (p y) (y ∷ ns) ns) later

-- first places among the names that a test takes
pub firsts_filter : (p : List ℕ → Bool) (xs : List (List ℕ)) → firsts (filter p xs) ≡ filter p (firsts xs)
firsts_filter p [] = refl
firsts_filter p (x ∷ xs) = by (p x) refl (firsts_filter p xs)
  where
    by : (a : Bool) → p x ≡ a → firsts (filter p xs) ≡ filter p (firsts xs) → firsts (cond a (x ∷ filter p xs) (filter p xs)) ≡ cond a (x ∷ filter p (filter (differs x) (firsts xs))) (filter p (filter (differs x) (firsts xs)))
    by true e later = ap (λ (ns : List (List ℕ)). x ∷ filter (differs x) ns) later ∙ ap (λ (ns : List (List ℕ)). x ∷ ns) (filters_commute (differs x) p (firsts xs))
    by false e later = later ∙ sym (filter_absorbs p x (firsts xs) e)
