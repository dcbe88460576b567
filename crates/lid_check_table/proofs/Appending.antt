-- Numbers that are appended for the names of a list.
use Rattle.std.proofs.Common.{◌≡◌, ℕ, ◌+◌, ◌<◌, ◌≤◌, Bool, true, false, cond, List, [], ◌∷◌, ◌++◌, length, length-append, take, drop, get_or, map, filter, flat_map, Some, slice_get, refl, sym, ◌∙◌, ap, subst, append_assoc, arith}
use Rattle.std.proofs.lemmas.List.{append-nil, map-append, take_more, drop_more, length-map}
use Rattle.std.proofs.lemmas.List.Elements.{filter-append}
use Rattle.lid_base.proofs.Places.{get_map}
use Rattle.lid_check_table.specs.Tables.{AreNumbersOf, Appends}

-- there are as many numbers as names
pub as_many : (names own : List (List ℕ)) (numbers : List ℕ) → AreNumbersOf names own numbers → length numbers ≡ length own
as_many names own numbers are =
    let left : length (map (slice_get names) numbers) ≡ length numbers = length-map numbers (slice_get names) in
    let right : length (map Some own) ≡ length own = length-map own Some in
    sym left ∙ ap length are ∙ right

-- the number at the place of a name leads to it
pub number_there : (names own : List (List ℕ)) (numbers : List ℕ) (i k : ℕ) (name : List ℕ) → AreNumbersOf names own numbers → slice_get own i ≡ Some name → slice_get numbers i ≡ Some k → slice_get names k ≡ Some name
number_there names own numbers i k name are here there =
    let left = get_map (slice_get names) numbers i k there in
    let right = get_map Some own i name here in
    let both = sym left ∙ ap (λ os. slice_get os i) are ∙ right in
    cc

pub none_appended : (names : List (List ℕ)) (old : List ℕ) → Appends names old old []
none_appended names old = sym (append-nil (map (slice_get names) old))

pub all_appended : (names own : List (List ℕ)) (old new numbers : List ℕ) → new ≡ old ++ numbers → AreNumbersOf names own numbers → Appends names old new own
all_appended names own old new numbers joined are =
    ap (map (slice_get names)) joined ∙ map-append (slice_get names) old numbers ∙ ap (λ os. map (slice_get names) old ++ os) are

pub one_appended : (names : List (List ℕ)) (old new : List ℕ) (k : ℕ) (name : List ℕ) → new ≡ old ++ k ∷ [] → slice_get names k ≡ Some name → Appends names old new (name ∷ [])
one_appended names old new k name pushed here = all_appended names (name ∷ []) old new (k ∷ []) pushed (ap (λ o. o ∷ []) here)

pub then_appended : (names : List (List ℕ)) (a b c : List ℕ) (xs ys : List (List ℕ)) → Appends names a b xs → Appends names b c ys → Appends names a c (xs ++ ys)
then_appended names a b c xs ys first second =
    second
    ∙ ap (λ os. os ++ map Some ys) first
    ∙ append_assoc (map (slice_get names) a) (map Some xs) (map Some ys)
    ∙ ap (λ os. map (slice_get names) a ++ os) (sym (map-append Some xs ys))

-- numbers that are appended to none
pub begun_by : (names list : List (List ℕ)) (old new : List ℕ) → old ≡ [] → Appends names old new list → AreNumbersOf names list new
begun_by names list old new none appended = appended ∙ ap (λ ks. map (slice_get names) ks ++ map Some list) none

-- a loop that appends what each of some items stands for
pub more_appended : {A : Type 0} (g : List A → List (List ℕ)) (f : A → List (List ℕ)) → ((xs : List A) (x : A) → g (xs ++ x ∷ []) ≡ g xs ++ f x) → (names : List (List ℕ)) (a b c : List ℕ) (xs : List A) (i : ℕ) (x : A) → x ≡ get_or xs i x → i < length xs → Appends names a b (g (take i xs)) → Appends names b c (f x) → Appends names a c (g (take (i + 1) xs))
more_appended g f grows names a b c xs i x is below first second =
    subst (Appends names a c) (sym (ap g (take_more xs i x below) ∙ grows (take i xs) (get_or xs i x) ∙ ap (λ y. g (take i xs) ++ f y) (sym is)))
    (then_appended names a b c (g (take i xs)) (f x) first second)

-- those of a list that a test takes, with one more
pub filter_grows : {A : Type 0} (p : A → Bool) (xs : List A) (x : A) → filter p (xs ++ x ∷ []) ≡ filter p xs ++ cond (p x) (x ∷ []) []
filter_grows p xs x = filter-append p xs (x ∷ [])

-- what stands for those of some items that a test takes, with one more
pub picked_grows : {A : Type 0} (p : A → Bool) (f : A → List ℕ) (xs : List A) (x : A) → map f (filter p (xs ++ x ∷ [])) ≡ map f (filter p xs) ++ cond (p x) (f x ∷ []) []
picked_grows {A} p f xs x =
    ap (map f) (filter_grows p xs x)
    ∙ map-append f (filter p xs) (cond (p x) (x ∷ []) [])
    ∙ ap (λ ys. map f (filter p xs) ++ ys) (by (p x))
  where
    by : (b : Bool) → map f (cond b (x ∷ []) []) ≡ cond b (f x ∷ []) []
    by true = refl
    by false = refl

-- numbers of two joined lists are cut where the first ends
pub cut_first : (names xs ys : List (List ℕ)) (numbers : List ℕ) → AreNumbersOf names (xs ++ ys) numbers → AreNumbersOf names xs (take (length xs) numbers)
cut_first names [] ys numbers are = refl
cut_first names (x ∷ xs) ys [] are = absurd (let f : [] ≡ Some x ∷ map Some (xs ++ ys) = are in cc)
cut_first names (x ∷ xs) ys (k ∷ ks) are =
    let f : slice_get names k ∷ map (slice_get names) ks ≡ Some x ∷ map Some (xs ++ ys) = are in
    let head : slice_get names k ≡ Some x = cc in
    let rest : map (slice_get names) ks ≡ map Some (xs ++ ys) = cc in
    let tail : map (slice_get names) (take (length xs) ks) ≡ map Some xs = cut_first names xs ys ks rest in
    cc

pub cut_rest : (names xs ys : List (List ℕ)) (numbers : List ℕ) → AreNumbersOf names (xs ++ ys) numbers → AreNumbersOf names ys (drop (length xs) numbers)
cut_rest names [] ys numbers are = are
cut_rest names (x ∷ xs) ys [] are = absurd (let f : [] ≡ Some x ∷ map Some (xs ++ ys) = are in cc)
cut_rest names (x ∷ xs) ys (k ∷ ks) are =
    let f : slice_get names k ∷ map (slice_get names) ks ≡ Some x ∷ map Some (xs ++ ys) = are in
    let rest : map (slice_get names) ks ≡ map Some (xs ++ ys) = cc in
    cut_rest names xs ys ks rest

-- the numbers of what items stand for begin with those of what the first stands for
pub record IsCut (names own rest : List (List ℕ)) (numbers : List ℕ) : Type 0 where
  pub long : length own ≤ length numbers
  pub front : AreNumbersOf names own (take (length own) numbers)
  pub back : AreNumbersOf names rest (drop (length own) numbers)

pub flat_cut : {A : Type 0} (f : A → List (List ℕ)) (names : List (List ℕ)) (xs : List A) (i : ℕ) (x : A) (numbers : List ℕ) → x ≡ get_or xs i x → i < length xs → AreNumbersOf names (flat_map f (drop i xs)) numbers → IsCut names (f x) (flat_map f (drop (i + 1) xs)) numbers
flat_cut f names xs i x numbers is below are =
    let rest = flat_map f (drop (i + 1) xs) in
    let whole : flat_map f (drop i xs) ≡ f x ++ rest = ap (flat_map f) (drop_more xs i x below) ∙ ap (λ y. f y ++ rest) (sym is) in
    let both : AreNumbersOf names (f x ++ rest) numbers = subst (λ (ns : List (List ℕ)). AreNumbersOf names ns numbers) whole are in
    record {
      long = omega (arith, as_many names (f x ++ rest) numbers both, length-append (f x) rest);
      front = cut_first names (f x) rest numbers both;
      back = cut_rest names (f x) rest numbers both;
    }
