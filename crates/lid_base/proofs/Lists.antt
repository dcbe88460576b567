-- Items of lists, by what they are and by their places.
use Rattle.std.proofs.Common.{◌≡◌, ◌⊎◌, ℕ, zero, suc, ◌+◌, ◌<◌, Bool, true, false, not, cond, List, [], ◌∷◌, ◌++◌, length, take, append_assoc, append-nil, get_or, map, filter, Option, Some, None, slice_get, option_and_then, inl, inr, refl, sym, ◌∙◌, ap, subst, arith, ◌≤◌, drop}
use Rattle.std.specs.List.{AllByRecursion, flat_map, enumerate_from, list_any}
use Rattle.std.specs.Str.{bytes_eq}
use Rattle.std.proofs.Math.Seq.{take-append_seam}
use Rattle.std.proofs.lemmas.Bool.{or_from, or_left, or_right, or_cases}
use Rattle.std.proofs.lemmas.Slice.Eq.{bytes_eq-Decides}
use Rattle.lid_base.specs.Lists.{Among, ExtendsByPart}
use Rattle.std.specs.Prelude.{find}
use Rattle.std.proofs.lemmas.Grind.{flat_map-append}

pub among_left : {A : Type 0} (x : A) (xs ys : List A) → Among x xs → Among x (xs ++ ys)
among_left x [] ys i = absurd i
among_left x (z ∷ zs) ys (inl e) = inl e
among_left x (z ∷ zs) ys (inr i) = inr (among_left x zs ys i)

pub among_right : {A : Type 0} (x : A) (xs ys : List A) → Among x ys → Among x (xs ++ ys)
among_right x [] ys i = i
among_right x (z ∷ zs) ys i = inr (among_right x zs ys i)

-- one of two joined lists
pub among_append : {A : Type 0} (x : A) (xs ys : List A) → Among x (xs ++ ys) → Among x xs ⊎ Among x ys
among_append x [] ys among = inr among
among_append x (y ∷ xs) ys (inl same) = inl (inl same)
among_append x (y ∷ xs) ys (inr later) = by (among_append x xs ys later)
  where
    by : Among x xs ⊎ Among x ys → Among x (y ∷ xs) ⊎ Among x ys
    by (inl here) = inl (inr here)
    by (inr there) = inr there

pub among_last : {A : Type 0} (x : A) (xs : List A) → Among x (xs ++ x ∷ [])
among_last x xs = among_right x xs (x ∷ []) (inl refl)

pub among_push : {A : Type 0} (x y : A) (xs : List A) → Among x (xs ++ y ∷ []) → Among x xs ⊎ (x ≡ y)
among_push x y [] (inl same) = inr same
among_push x y [] (inr none) = absurd none
among_push x y (z ∷ xs) (inl same) = inl (inl same)
among_push x y (z ∷ xs) (inr later) = elim (among_push x y xs later) [ inl here ↦ inl (inr here) | inr same ↦ inr same ]

-- an item of a list by its place
pub among_at : {A : Type 0} (xs : List A) (i : ℕ) (d : A) → i < length xs → Among (get_or xs i d) xs
among_at [] i d h = absurd (omega arith)
among_at (x ∷ xs) zero d h = inl refl
among_at (x ∷ xs) (suc i) d h = inr (among_at xs i d (omega arith))

pub among_filter : {A : Type 0} (p : A → Bool) (x : A) (xs : List A) → Among x xs → p x ≡ true → Among x (filter p xs)
among_filter p x [] among h = absurd among
among_filter {A} p x (y ∷ ys) among h = by (p y) refl among (λ later. among_filter p x ys later h)
  where
    by : (b : Bool) → p y ≡ b → (x ≡ y) ⊎ Among x ys → (Among x ys → Among x (filter p ys)) → Among x (cond b (y ∷ filter p ys) (filter p ys))
    by true e (inl same) next = inl same
    by true e (inr later) next = inr (next later)
    by false e (inl same) next = absurd (let f : p y ≡ true = ap p (sym same) ∙ h in cc)
    by false e (inr later) next = next later

pub filter_among : {A : Type 0} (p : A → Bool) (x : A) (xs : List A) → Among x (filter p xs) → Among x xs × (p x ≡ true)
filter_among p x [] among = absurd among
filter_among {A} p x (y ∷ ys) among = by (p y) refl among (filter_among p x ys)
  where
    later_on : Among x ys × (p x ≡ true) → Among x (y ∷ ys) × (p x ≡ true)
    later_on found = (inr found.0, found.1)

    by : (b : Bool) → p y ≡ b → Among x (cond b (y ∷ filter p ys) (filter p ys)) → (Among x (filter p ys) → Among x ys × (p x ≡ true)) → Among x (y ∷ ys) × (p x ≡ true)
    by true e (inl same) next = (inl same, ap p same ∙ e)
    by true e (inr later) next = later_on (next later)
    by false e later next = later_on (next later)

pub among_map : {A B : Type 0} (f : A → B) (x : A) (xs : List A) → Among x xs → Among (f x) (map f xs)
among_map f x [] among = absurd among
among_map f x (y ∷ ys) (inl same) = inl (ap f same)
among_map f x (y ∷ ys) (inr later) = inr (among_map f x ys later)

pub map_among : {A B : Type 0} (f : A → B) (y : B) (xs : List A) → Among y (map f xs) → (x : A) × Among x xs × (y ≡ f x)
map_among f y [] among = absurd among
map_among f y (x ∷ xs) (inl same) = (x, inl refl, same)
map_among f y (x ∷ xs) (inr later) = let found = map_among f y xs later in (found.0, inr found.1, found.2)

pub among_flat : {A B : Type 0} (f : A → List B) (x : A) (y : B) (xs : List A) → Among x xs → Among y (f x) → Among y (flat_map f xs)
among_flat f x y [] among h = absurd among
among_flat {A} {B} f x y (z ∷ zs) (inl same) h = among_left y (f z) (flat_map f zs) (subst (λ (w : A). Among y (f w)) same h)
among_flat f x y (z ∷ zs) (inr later) h = among_right y (f z) (flat_map f zs) (among_flat f x y zs later h)

pub flat_among : {A B : Type 0} (f : A → List B) (y : B) (xs : List A) → Among y (flat_map f xs) → (x : A) × Among x xs × Among y (f x)
flat_among f y [] among = absurd among
flat_among {A} {B} f y (x ∷ xs) among = by (among_append y (f x) (flat_map f xs) among) (flat_among f y xs)
  where
    by : Among y (f x) ⊎ Among y (flat_map f xs) → (Among y (flat_map f xs) → (z : A) × Among z xs × Among y (f z)) → (z : A) × Among z (x ∷ xs) × Among y (f z)
    by (inl here) next = (x, inl refl, here)
    by (inr later) next = let found = next later in (found.0, inr found.1, found.2)

pub get_among : {A : Type 0} (xs : List A) (i : ℕ) (x : A) → slice_get xs i ≡ Some x → Among x xs
get_among [] i x here = absurd (let e : None ≡ Some x = here in cc)
get_among (y ∷ xs) zero x here = inl (let e : Some y ≡ Some x = here in cc)
get_among (y ∷ xs) (suc i) x here = inr (get_among xs i x here)

pub among_get : {A : Type 0} (xs : List A) (x : A) → Among x xs → (i : ℕ) × (slice_get xs i ≡ Some x)
among_get [] x among = absurd among
among_get (y ∷ xs) x (inl same) = (zero, ap Some (sym same))
among_get (y ∷ xs) x (inr later) = let found = among_get xs x later in (suc found.0, found.1)

pub among_enumerate : {A : Type 0} (first i : ℕ) (xs : List A) (x : A) → slice_get xs i ≡ Some x → Among (first + i, x) (enumerate_from first xs)
among_enumerate first i [] x here = absurd (let e : None ≡ Some x = here in cc)
among_enumerate {A} first zero (y ∷ xs) x here =
    let same : x ≡ y = (let e : Some y ≡ Some x = here in cc) in
    let number : first + 0 ≡ first = omega arith in
    inl (let e = same in let n = number in cc)
among_enumerate {A} first (suc i) (y ∷ xs) x here =
    let number : (first + 1) + i ≡ first + suc i = omega arith in
    inr (subst (λ (n : ℕ). Among (n, x) (enumerate_from (first + 1) xs)) number (among_enumerate (first + 1) i xs x here))

pub enumerate_among : {A : Type 0} (first : ℕ) (xs : List A) (p : ℕ × A) → Among p (enumerate_from first xs) → (i : ℕ) × (p.0 ≡ first + i) × (slice_get xs i ≡ Some p.1)
enumerate_among first [] p among = absurd among
enumerate_among {A} first (x ∷ xs) p (inl same) =
    let number : p.0 ≡ first + 0 = (let e : p.0 ≡ first = ap (λ (q : ℕ × A). q.0) same in omega arith) in
    (zero, number, ap (λ (q : ℕ × A). Some q.1) (sym same))
enumerate_among {A} first (x ∷ xs) p (inr later) =
    let found = enumerate_among (first + 1) xs p later in
    let number : p.0 ≡ first + suc found.0 = (let e = found.1 in omega arith) in
    (suc found.0, number, found.2)

-- what holds of all items holds of one
pub all_among : {A : Type 0} (P : A → Type 0) (xs : List A) (x : A) → AllByRecursion P xs → Among x xs → P x
all_among P [] x all among = absurd among
all_among P (y ∷ ys) x all (inl same) = subst P (sym same) all.0
all_among P (y ∷ ys) x all (inr later) = all_among P ys x all.1 later

pub all_append : {A : Type 0} (P : A → Type 0) (xs ys : List A) → AllByRecursion P xs → AllByRecursion P ys → AllByRecursion P (xs ++ ys)
all_append P [] ys left right = right
all_append P (x ∷ xs) ys left right = (left.0, all_append P xs ys left.1 right)

pub all_at : {A : Type 0} (P : A → Type 0) (xs : List A) (i : ℕ) (x : A) → AllByRecursion P xs → slice_get xs i ≡ Some x → P x
all_at P [] i x all h = absurd (let e : None ≡ Some x = h in cc)
all_at P (y ∷ ys) zero x all h = subst P (let e : Some y ≡ Some x = h in cc) all.0
all_at P (y ∷ ys) (suc i) x all h = all_at P ys i x all.1 h

pub all_push : {A : Type 0} (P : A → Type 0) (xs : List A) (x : A) → AllByRecursion P xs → P x → AllByRecursion P (xs ++ x ∷ [])
all_push P [] x all p = (p, tt)
all_push P (y ∷ ys) x all p = (all.0, all_push P ys x all.1 p)

pub none_passes : {X : Type 0} (p : X → Bool) (xs : List X) → AllByRecursion (λ x. p x ≡ false) xs → list_any p xs ≡ false
none_passes p [] h = refl
none_passes p (x ∷ xs) h = or_from (p x) (list_any p xs) h.0 (none_passes p xs h.1)

pub then_some : {A B : Type 0} (o : Option A) (f : A → Option B) (b : B) → option_and_then f o ≡ Some b → (a : A) × (o ≡ Some a) × (f a ≡ Some b)
then_some None f b h = absurd (let e : None ≡ Some b = h in cc)
then_some (Some a) f b h = (a, refl, h)

pub same_bytes : (xs ys : List ℕ) → bytes_eq xs ys ≡ true → xs ≡ ys
same_bytes xs ys h = (bytes_eq-Decides xs ys).0 h

pub bytes_same : (xs ys : List ℕ) → xs ≡ ys → bytes_eq xs ys ≡ true
bytes_same xs ys h = (bytes_eq-Decides xs ys).1 h

pub not_false : (b : Bool) → not b ≡ false → b ≡ true
not_false true h = refl
not_false false h = absurd (let e : true ≡ false = h in cc)

pub last_case : {A : Type 0} {P : Type 0} (x : A) (xs : List A) (k : A) → Among x (xs ++ k ∷ []) → (Among x xs → P) → (x ≡ k → P) → P
last_case x [] k (inl e) here last = last e
last_case x [] k (inr none) here last = absurd none
last_case x (y ∷ ys) k (inl e) here last = here (inl e)
last_case x (y ∷ ys) k (inr among) here last = last_case x ys k among (λ later. here (inr later)) last

pub filter_same : {A : Type 0} (p q : A → Bool) (xs : List A) → ((x : A) → p x ≡ q x) → filter p xs ≡ filter q xs
filter_same p q [] same = refl
filter_same {A} p q (x ∷ xs) same =
    ap (λ (b : Bool). cond b (x ∷ filter p xs) (filter p xs)) (same x) ∙ ap (λ (ys : List A). cond (q x) (x ∷ ys) ys) (filter_same p q xs same)

-- some first items of a list were appended, and these are left
pub record IsPartway {A : Type 0} (old new more left : List A) : Type 0 where
  pub done : List A
  pub added : new ≡ old ++ done
  pub whole : done ++ left ≡ more

pub partway_next : {A : Type 0} (old new next more : List A) (x : A) (left : List A) → IsPartway old new more (x ∷ left) → next ≡ new ++ x ∷ [] → IsPartway old next more left
partway_next {A} old new next more x left so e = record {
  done = so.done ++ x ∷ [];
  added = e ∙ ap (λ (ys : List A). ys ++ x ∷ []) so.added ∙ append_assoc old so.done (x ∷ []);
  whole = append_assoc so.done (x ∷ []) left ∙ so.whole;
}

pub partway_done : {A : Type 0} (old new more : List A) → IsPartway old new more [] → new ≡ old ++ more
partway_done {A} old new more so = so.added ∙ ap (λ (ys : List A). old ++ ys) (sym (append-nil so.done) ∙ so.whole)

pub partway_part : {A : Type 0} (old new more left : List A) → IsPartway old new more left → ExtendsByPart old new more
partway_part {A} old new more left so =
    let cut : take (length so.done) more ≡ so.done = subst (λ (ys : List A). take (length so.done) ys ≡ so.done) so.whole (take-append_seam so.done left) in
    (length so.done, so.added ∙ ap (λ (ys : List A). old ++ ys) (sym cut))

pub among_one : {A : Type 0} (x y : A) → Among x (y ∷ []) → x ≡ y
among_one x y (inl same) = same
among_one x y (inr none) = absurd none

-- a list that is not empty has an item
pub some_item : {A : Type 0} (xs : List A) → 0 < length xs → (x : A) × Among x xs
some_item [] h = absurd (omega arith)
some_item (x ∷ xs) h = (x, inl refl)

pub among_alone : {A : Type 0} (xs : List A) (x : A) → length xs ≤ 1 → Among x xs → xs ≡ x ∷ []
among_alone [] x few among = absurd among
among_alone {A} (y ∷ []) x few (inl same) = ap (λ (z : A). z ∷ []) (sym same)
among_alone (y ∷ []) x few (inr none) = absurd none
among_alone (y ∷ z ∷ ys) x few among = absurd (omega arith)

-- a list of one item where a test passes, and of none where it fails
pub among_if : {A : Type 0} (b : Bool) (x : A) → b ≡ true → Among x (cond b (x ∷ []) [])
among_if true x h = inl refl
among_if false x h = absurd (let e : false ≡ true = h in cc)

pub if_among : {A : Type 0} (b : Bool) (x y : A) → Among x (cond b (y ∷ []) []) → (b ≡ true) × (x ≡ y)
if_among true x y (inl same) = (refl, same)
if_among true x y (inr none) = absurd none
if_among false x y none = absurd none

pub among_take : {A : Type 0} (xs : List A) (i : ℕ) (x : A) → Among x (take i xs) → Among x xs
among_take xs zero x among = absurd among
among_take [] (suc i) x among = absurd among
among_take (y ∷ ys) (suc i) x (inl same) = inl same
among_take (y ∷ ys) (suc i) x (inr later) = inr (among_take ys i x later)

pub found_among : {A : Type 0} (p : A → Bool) (xs : List A) (x : A) → find p xs ≡ Some x → Among x xs
found_among p [] x h = absurd (let e : None ≡ Some x = h in cc)
found_among {A} p (y ∷ ys) x h = by (p y) h (found_among p ys x)
  where
    by : (b : Bool) → cond b (Some y) (find p ys) ≡ Some x → (find p ys ≡ Some x → Among x ys) → Among x (y ∷ ys)
    by true e later = inl (let f : Some y ≡ Some x = e in cc)
    by false e later = inr (later e)

pub any_true : {A : Type 0} (p : A → Bool) (xs : List A) (x : A) → Among x xs → p x ≡ true → list_any p xs ≡ true
any_true p [] x among h = absurd among
any_true p (y ∷ ys) x (inl same) h = or_left (p y) (list_any p ys) (ap p (sym same) ∙ h)
any_true p (y ∷ ys) x (inr later) h = or_right (p y) (list_any p ys) (any_true p ys x later h)

pub any_some : {A : Type 0} (p : A → Bool) (xs : List A) → list_any p xs ≡ true → (x : A) × Among x xs × (p x ≡ true)
any_some p [] none = absurd (let e : false ≡ true = none in cc)
any_some {A} p (x ∷ xs) some = by (or_cases (p x) (list_any p xs) some) (any_some p xs)
  where
    by : (p x ≡ true) ⊎ (list_any p xs ≡ true) → (list_any p xs ≡ true → (y : A) × Among y xs × (p y ≡ true)) → (y : A) × Among y (x ∷ xs) × (p y ≡ true)
    by (inl here) next = (x, inl refl, here)
    by (inr later) next = let found = next later in (found.0, inr found.1, found.2)

-- a filter
pub filter_le : {A : Type 0} (p : A → Bool) (xs : List A) → length (filter p xs) ≤ length xs
filter_le p [] = omega arith
filter_le p (x ∷ xs) =
    let later = filter_le p xs in
    elim (p x) as (λ b. length (cond b (x ∷ filter p xs) (filter p xs)) ≤ suc (length xs)) [ true ↦ omega arith | false ↦ omega arith ]

pub filter_whole : {A : Type 0} (p : A → Bool) (xs : List A) → ((x : A) → Among x xs → p x ≡ true) → filter p xs ≡ xs
filter_whole p [] all = refl
filter_whole {A} p (x ∷ xs) all =
    ap (λ (b : Bool). cond b (x ∷ filter p xs) (filter p xs)) (all x (inl refl)) ∙ ap (λ (ys : List A). x ∷ ys) (filter_whole p xs (λ y among. all y (inr among)))

-- functions that agree on the items
pub map_same : {A B : Type 0} (f g : A → B) (xs : List A) → ((x : A) → Among x xs → f x ≡ g x) → map f xs ≡ map g xs
map_same f g [] same = refl
map_same f g (x ∷ xs) same =
    let head = same x (inl refl) in
    let tail = map_same f g xs (λ y among. same y (inr among)) in
    cc

pub map_twice : {A B C : Type 0} (f : B → C) (g : A → B) (xs : List A) → map f (map g xs) ≡ map (λ x. f (g x)) xs
map_twice f g [] = refl
map_twice {A} {B} {C} f g (x ∷ xs) = ap (λ (ys : List C). f (g x) ∷ ys) (map_twice f g xs)

pub flat_same : {A B : Type 0} (f g : A → List B) (xs : List A) → ((x : A) → f x ≡ g x) → flat_map f xs ≡ flat_map g xs
flat_same f g [] same = refl
flat_same f g (x ∷ xs) same =
    let head = same x in
    let tail = flat_same f g xs same in
    cc

pub flat_flat : {A B C : Type 0} (g : B → List C) (f : A → List B) (xs : List A) → flat_map g (flat_map f xs) ≡ flat_map (λ x. flat_map g (f x)) xs
flat_flat g f [] = refl
flat_flat {A} {B} {C} g f (x ∷ xs) = flat_map-append g (f x) (flat_map f xs) ∙ ap (λ (zs : List C). flat_map g (f x) ++ zs) (flat_flat g f xs)

-- a list that was written whole over one of its length
pub refilled : {A : Type 0} (n : ℕ) (new old : List A) → length new ≡ n → take n (new ++ drop (length new) old) ≡ new
refilled {A} n new old long = ap (λ (m : ℕ). take m (new ++ drop (length new) old)) (sym long) ∙ take-append_seam new (drop (length new) old)

-- two pieces that were appended one after the other
pub appended : {A : Type 0} (old mid new xs ys : List A) → mid ≡ old ++ xs → new ≡ mid ++ ys → new ≡ old ++ (xs ++ ys)
appended {A} old mid new xs ys first next = next ∙ ap (λ (zs : List A). zs ++ ys) first ∙ append_assoc old xs ys
