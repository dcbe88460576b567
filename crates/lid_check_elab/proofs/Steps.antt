-- Steps of the loops.
use Rattle.std.proofs.Common.{◌≡◌, ℕ, suc, ◌+◌, ◌<◌, List, [], ◌∷◌, ◌++◌, length, map, drop, get_or, sym, ◌∙◌, ap, arith, append_assoc, drop-cons}
use Rattle.std.proofs.lemmas.List.{map-append}

-- one more item is pushed, of a list that is worked through
pub pushed_more : {A B : Type 0} (f : A → B) (g : ℕ → B) (done : List A) (x : A) (picks : List ℕ) (i : ℕ) (total : List B) → i < length picks → f x ≡ g (get_or picks i 0) → map f done ++ map g (drop i picks) ≡ total → map f (done ++ x ∷ []) ++ map g (drop (i + 1) picks) ≡ total
pushed_more {A} {B} f g done x picks i total below same before =
    let next : i + 1 ≡ suc i = omega arith in
    ap (λ (ys : List B). ys ++ map g (drop (i + 1) picks)) (map-append f done (x ∷ []))
    ∙ append_assoc (map f done) (f x ∷ []) (map g (drop (i + 1) picks))
    ∙ ap (λ (y : B). map f done ++ (y ∷ map g (drop (i + 1) picks))) same
    ∙ ap (λ (n : ℕ). map f done ++ (g (get_or picks i 0) ∷ map g (drop n picks))) next
    ∙ ap (λ (ns : List ℕ). map f done ++ map g ns) (sym (drop-cons picks i 0 below))
    ∙ before
