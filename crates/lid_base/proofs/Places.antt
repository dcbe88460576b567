-- Items of lists by their places.
use Rattle.std.proofs.Common.{◌≡◌, ◌⊎◌, ℕ, zero, suc, ◌+◌, ◌<◌, List, [], ◌∷◌, ◌++◌, length, get_or, set, map, Some, None, slice_get, refl, sym, ◌∙◌, ap, subst, inl, inr, arith}
use Rattle.std.proofs.lemmas.Option.{same_Some, slice_get_read}

pub item_at : {A : Type 0} (xs : List A) (i : ℕ) → i < length xs → (x : A) × (slice_get xs i ≡ Some x)
item_at [] i h = absurd (omega arith)
item_at (x ∷ xs) zero h = (x, refl)
item_at (x ∷ xs) (suc i) h = item_at xs i (omega arith)

-- the item that a read below the length gives
pub item_read : {A : Type 0} (xs : List A) (i : ℕ) (x : A) → i < length xs → x ≡ get_or xs i x → slice_get xs i ≡ Some x
item_read xs i x within read = slice_get_read xs (length xs) i x refl within read

-- joined lists
pub get_left : {A : Type 0} (xs ys : List A) (i : ℕ) (x : A) → slice_get xs i ≡ Some x → slice_get (xs ++ ys) i ≡ Some x
get_left [] ys i x here = absurd (let e : None ≡ Some x = here in cc)
get_left (y ∷ xs) ys zero x here = here
get_left (y ∷ xs) ys (suc i) x here = get_left xs ys i x here

pub get_right : {A : Type 0} (xs ys : List A) (i : ℕ) → slice_get (xs ++ ys) (length xs + i) ≡ slice_get ys i
get_right [] ys i = let same : 0 + i ≡ i = omega arith in ap (slice_get ys) same
get_right (x ∷ xs) ys i =
    let next : suc (length xs) + i ≡ suc (length xs + i) = omega arith in
    ap (slice_get (x ∷ xs ++ ys)) next ∙ get_right xs ys i

pub get_past : {A : Type 0} (xs ys : List A) (y : A) → slice_get (xs ++ y ∷ ys) (length xs) ≡ Some y
get_past [] ys y = refl
get_past (x ∷ xs) ys y = get_past xs ys y

pub get_last : {A : Type 0} (xs : List A) (y : A) → slice_get (xs ++ y ∷ []) (length xs) ≡ Some y
get_last xs y = get_past xs [] y

-- an item of a list that was appended to is an older one or the last
pub get_push : {A : Type 0} (xs : List A) (y : A) (i : ℕ) (x : A) → slice_get (xs ++ y ∷ []) i ≡ Some x → (slice_get xs i ≡ Some x) ⊎ ((i ≡ length xs) × (x ≡ y))
get_push [] y zero x here = inr (refl, same_Some x y (sym here))
get_push [] y (suc i) x here = absurd (let e : None ≡ Some x = here in cc)
get_push (z ∷ xs) y zero x here = inl here
get_push (z ∷ xs) y (suc i) x here = elim (get_push xs y i x here) [ inl older ↦ inl older | inr last ↦ inr (ap suc last.0, last.1) ]

-- what holds of each item at its place holds after one more
pub each_push : {A : Type 0} (P : ℕ → A → Type 0) (xs : List A) (x : A) → ((i : ℕ) (y : A) → slice_get xs i ≡ Some y → P i y) → P (length xs) x → (i : ℕ) (y : A) → slice_get (xs ++ x ∷ []) i ≡ Some y → P i y
each_push {A} P xs x each here i y at = elim (get_push xs x i y at) [
  | inl older ↦ each i y older
  | inr last ↦ subst (λ (k : ℕ). P k y) (sym last.0) (subst (λ (z : A). P (length xs) z) (sym last.1) here)
]

pub pushed_each : {A : Type 0} (P : ℕ → A → Type 0) (xs news : List A) (x : A) (n : ℕ) → news ≡ xs ++ x ∷ [] → n ≡ length xs → ((i : ℕ) (y : A) → slice_get xs i ≡ Some y → P i y) → P n x → (i : ℕ) (y : A) → slice_get news i ≡ Some y → P i y
pushed_each {A} P xs news x n is place each last i y here =
    each_push P xs x each (subst (λ (m : ℕ). P m x) place last) i y (ap (λ (ys : List A). slice_get ys i) (sym is) ∙ here)

-- writes
pub set_here : {A : Type 0} (xs : List A) (i : ℕ) (x y : A) → slice_get (set xs i x) i ≡ Some y → x ≡ y
set_here [] i x y e = absurd (let f : None ≡ Some y = e in cc)
set_here (z ∷ xs) zero x y e = same_Some x y e
set_here (z ∷ xs) (suc i) x y e = set_here xs i x y e

pub set_there : {A : Type 0} (xs : List A) (i j : ℕ) (x : A) → (j ≡ i → ⊥) → slice_get (set xs i x) j ≡ slice_get xs j
set_there [] i j x other = refl
set_there (z ∷ xs) zero zero x other = absurd (other refl)
set_there (z ∷ xs) zero (suc j) x other = refl
set_there (z ∷ xs) (suc i) zero x other = refl
set_there (z ∷ xs) (suc i) (suc j) x other = set_there xs i j x (λ e. other (ap suc e))

-- maps
pub get_map : {A B : Type 0} (f : A → B) (xs : List A) (i : ℕ) (x : A) → slice_get xs i ≡ Some x → slice_get (map f xs) i ≡ Some (f x)
get_map f [] i x here = absurd (let e : None ≡ Some x = here in cc)
get_map f (y ∷ xs) zero x here = ap (λ z. Some (f z)) (same_Some y x here)
get_map f (y ∷ xs) (suc i) x here = get_map f xs i x here

pub map_get : {A B : Type 0} (f : A → B) (xs : List A) (i : ℕ) (y : B) → slice_get (map f xs) i ≡ Some y → (x : A) × (slice_get xs i ≡ Some x) × (y ≡ f x)
map_get f [] i y here = absurd (let e : None ≡ Some y = here in cc)
map_get f (x ∷ xs) zero y here = (x, refl, sym (same_Some (f x) y here))
map_get f (x ∷ xs) (suc i) y here = map_get f xs i y here
