-- Sums and counts over lists.
use Rattle.std.proofs.Common.{◌≡◌, ℕ, ◌+◌, ◌<◌, ◌≤◌, Bool, cond, List, [], ◌∷◌, length, take, get_or, map, refl, ◌∙◌, ap, arith, inl, inr}
use Rattle.std.specs.List.{sum_by, count_by, flat_map}
use Rattle.std.proofs.lemmas.List.{get_or-take, take-take, length-take-le}
use Rattle.std.proofs.lemmas.List.Sums.{sum_by-cons, sum_by-append, sum_by_more_le}
use Rattle.std.specs.Str.{bytes_eq}
use Rattle.lid_base.specs.Lists.{Among}
use Rattle.lid_base.proofs.Lists.{bytes_same}

pub sum_same : {A : Type 0} (f g : A → ℕ) (xs : List A) → ((x : A) → f x ≡ g x) → sum_by f xs ≡ sum_by g xs
sum_same f g [] same = refl
sum_same f g (x ∷ xs) same =
    let a = sum_by-cons f x xs in
    let b = sum_by-cons g x xs in
    let h = same x in
    let t = sum_same f g xs same in
    omega arith

pub sum_le : {A : Type 0} (f g : A → ℕ) (xs : List A) → ((x : A) → Among x xs → f x ≤ g x) → sum_by f xs ≤ sum_by g xs
sum_le f g [] less = omega arith
sum_le f g (x ∷ xs) less =
    let a = sum_by-cons f x xs in
    let b = sum_by-cons g x xs in
    let h = less x (inl refl) in
    let t = sum_le f g xs (λ y among. less y (inr among)) in
    omega arith

pub sum_map : {A B : Type 0} (f : B → ℕ) (g : A → B) (xs : List A) → sum_by f (map g xs) ≡ sum_by (λ x. f (g x)) xs
sum_map f g [] = refl
sum_map f g (x ∷ xs) =
    let a = sum_by-cons f (g x) (map g xs) in
    let b = sum_by-cons (λ x. f (g x)) x xs in
    let c = sum_map f g xs in
    omega arith

pub sum_flat : {A B : Type 0} (f : A → ℕ) (g : B → List A) (h : B → ℕ) (ps : List B) → ((p : B) → Among p ps → sum_by f (g p) ≡ h p) → sum_by f (flat_map g ps) ≡ sum_by h ps
sum_flat f g h [] each = refl
sum_flat f g h (p ∷ ps) each =
    let one = sum_by-append f (g p) (flat_map g ps) in
    let here = each p (inl refl) in
    let later = sum_flat f g h ps (λ x among. each x (inr among)) in
    let whole = sum_by-cons h p ps in
    omega arith

pub sum_one : {A : Type 0} (f : A → ℕ) (xs : List A) (x : A) → Among x xs → f x ≤ sum_by f xs
sum_one f [] x among = absurd among
sum_one f (y ∷ ys) x (inl same) = let whole = sum_by-cons f y ys in let e = ap f same in omega arith
sum_one f (y ∷ ys) x (inr later) = let whole = sum_by-cons f y ys in let e = sum_one f ys x later in omega arith

-- the items before a place and the one at it are among those before a later place
pub sum_part : (f : ℕ → ℕ) (xs : List ℕ) (c d : ℕ) → c < d → d ≤ length xs → sum_by f (take c xs) + f (get_or xs c 0) ≤ sum_by f (take d xs)
sum_part f xs c d less most =
    let whole : sum_by f (take c (take d xs)) + f (get_or (take d xs) c 0) ≤ sum_by f (take d xs) = sum_by_more_le f (take d xs) c 0 (let l = length-take-le d xs most in omega arith) in
    let first : sum_by f (take c (take d xs)) ≡ sum_by f (take c xs) = ap (sum_by f) (take-take c d xs (omega arith)) in
    let next : f (get_or (take d xs) c 0) ≡ f (get_or xs c 0) = ap f (get_or-take d xs c 0 less) in
    omega arith

pub count_cons : {A : Type 0} (p : A → Bool) (x : A) (xs : List A) → count_by p (x ∷ xs) ≡ cond (p x) 1 0 + count_by p xs
count_cons p x xs = sum_by-cons (λ y. cond (p y) 1 0) x xs

-- a name is counted where it stands
pub count_here : (x : List ℕ) (xs : List (List ℕ)) → count_by (bytes_eq x) (x ∷ xs) ≡ 1 + count_by (bytes_eq x) xs
count_here x xs = count_cons (bytes_eq x) x xs ∙ ap (λ (b : Bool). cond b 1 0 + count_by (bytes_eq x) xs) (bytes_same x x refl)
