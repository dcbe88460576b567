-- Lists of names that grow by a name, and lists of borrowed names.
use denote.Ref.{Bor}
use Rattle.std.proofs.Common.{◌≡◌, ℕ, zero, suc, ◌+◌, ◌<◌, ◌&&◌, nat_lt, Some, None, length, take, get_or, subst, arith, zero-add, add-zero, Bool, true, false, not, ◌||◌, cond, if◌then◌else◌, List, [], ◌∷◌, ◌++◌, map, filter, position, Option, refl, sym, ◌∙◌, ap}
use Rattle.std.specs.List.{list_any, count_by, prefix_len}
use Rattle.std.specs.Str.{bytes_eq}
use Rattle.std.proofs.lemmas.List.{map-append, append-nil, take_more, length-map}
use Rattle.std.proofs.lemmas.Bool.{lt-ltb}
use Rattle.std.proofs.Math.Bool.{or-false, and-false}
use Rattle.std.proofs.lemmas.List.Elements.{filter-append}
use Rattle.std.proofs.lemmas.List.Folds.{list_any-append}
use Rattle.std.proofs.lemmas.List.Sums.{sum_by-append}
use Rattle.lid_base.proofs.Lists.{same_bytes}
use Rattle.lid_check_names.specs.declared.held.HeldName.{HeldName}
use Rattle.lid_check_names.specs.Names.{is_among, firsts, with_name, texts, bytes_of}

abbrev pub differs : List ℕ → List ℕ → Bool
differs name other = not (bytes_eq other name)

-- a name that differs from x stands among some names exactly where it does among those without x
is_among_without : (n x : List ℕ) (names : List (List ℕ)) → bytes_eq n x ≡ false → is_among n (filter (differs x) names) ≡ is_among n names
is_among_without n x [] other = refl
is_among_without n x (y ∷ ys) other = by (bytes_eq y x) refl (bytes_eq n y) refl (is_among_without n x ys other)
  where
    by : (b : Bool) → bytes_eq y x ≡ b → (a : Bool) → bytes_eq n y ≡ a → is_among n (filter (differs x) ys) ≡ is_among n ys → is_among n (cond (not b) (y ∷ filter (differs x) ys) (filter (differs x) ys)) ≡ (bytes_eq n y || is_among n ys)
    by true e true h later = absurd (let f : bytes_eq n x ≡ true = ap (bytes_eq n) (sym (same_bytes y x e)) ∙ h in cc)
    by true e false h later = later ∙ ap (λ (a : Bool). a || is_among n ys) (sym h)
    by false e a h later = ap (λ (b : Bool). bytes_eq n y || b) later

-- a name stands among the first places exactly where it stands in the list
pub is_among_firsts : (n : List ℕ) (names : List (List ℕ)) → is_among n (firsts names) ≡ is_among n names
is_among_firsts n [] = refl
is_among_firsts n (x ∷ xs) = by (bytes_eq n x) refl (is_among_firsts n xs)
  where
    by : (b : Bool) → bytes_eq n x ≡ b → is_among n (firsts xs) ≡ is_among n xs → (bytes_eq n x || is_among n (filter (differs x) (firsts xs))) ≡ (bytes_eq n x || is_among n xs)
    by true e later = ap (λ (a : Bool). a || is_among n (filter (differs x) (firsts xs))) e ∙ ap (λ (a : Bool). a || is_among n xs) (sym e)
    by false e later = ap (λ (a : Bool). bytes_eq n x || a) (is_among_without n x (firsts xs) e ∙ later)

-- names without x, that grow by a name
grown_same : (names : List (List ℕ)) (n x : List ℕ) (a : Bool) → bytes_eq n x ≡ true → filter (differs x) (cond a names (names ++ n ∷ [])) ≡ filter (differs x) names
grown_same names n x true e = refl
grown_same names n x false e =
    let last : filter (differs x) (n ∷ []) ≡ [] = ap (λ (b : Bool). cond (not b) (n ∷ []) []) e in
    filter-append (differs x) names (n ∷ []) ∙ ap (λ (ns : List (List ℕ)). filter (differs x) names ++ ns) last ∙ append-nil (filter (differs x) names)

grown_other : (names : List (List ℕ)) (n x : List ℕ) (a : Bool) → bytes_eq n x ≡ false → filter (differs x) (cond a names (names ++ n ∷ [])) ≡ cond a (filter (differs x) names) (filter (differs x) names ++ n ∷ [])
grown_other names n x true e = refl
grown_other names n x false e =
    let last : filter (differs x) (n ∷ []) ≡ n ∷ [] = ap (λ (b : Bool). cond (not b) (n ∷ []) []) e in
    filter-append (differs x) names (n ∷ []) ∙ ap (λ (ns : List (List ℕ)). filter (differs x) names ++ ns) last

cons_cond : (a : Bool) (x : List ℕ) (xs ys : List (List ℕ)) → x ∷ cond a xs ys ≡ cond a (x ∷ xs) (x ∷ ys)
cons_cond true x xs ys = refl
cons_cond false x xs ys = refl

-- the first places of a list that grows by a name
pub firsts_more : (names : List (List ℕ)) (n : List ℕ) → firsts (names ++ n ∷ []) ≡ with_name (firsts names) n
firsts_more [] n = refl
firsts_more (x ∷ xs) n = ap (λ (ns : List (List ℕ)). x ∷ filter (differs x) ns) (firsts_more xs n) ∙ by (bytes_eq n x) refl
  where
    by : (b : Bool) → bytes_eq n x ≡ b → x ∷ filter (differs x) (with_name (firsts xs) n) ≡ cond (b || is_among n (filter (differs x) (firsts xs))) (x ∷ filter (differs x) (firsts xs)) (x ∷ filter (differs x) (firsts xs) ++ n ∷ [])
    by true e = ap (λ (ns : List (List ℕ)). x ∷ ns) (grown_same (firsts xs) n x (is_among n (firsts xs)) e)
    by false e =
        ap (λ (ns : List (List ℕ)). x ∷ ns) (grown_other (firsts xs) n x (is_among n (firsts xs)) e)
        ∙ cons_cond (is_among n (firsts xs)) x (filter (differs x) (firsts xs)) (filter (differs x) (firsts xs) ++ n ∷ [])
        ∙ ap (λ (a : Bool). cond a (x ∷ filter (differs x) (firsts xs)) (x ∷ filter (differs x) (firsts xs) ++ n ∷ [])) (sym (is_among_without n x (firsts xs) e))

pub is_among_held : (n : List ℕ) (held : List HeldName) → list_any (λ (w : HeldName). bytes_eq n (bytes_of w)) held ≡ is_among n (map bytes_of held)
is_among_held n [] = refl
is_among_held n (w ∷ held) = ap (λ (b : Bool). bytes_eq n (bytes_of w) || b) (is_among_held n held)

prefix_held : (n : List ℕ) (held : List HeldName) → prefix_len (λ (w : HeldName). not (bytes_eq n (bytes_of w))) held ≡ prefix_len (λ (m : List ℕ). not (bytes_eq n m)) (map bytes_of held)
prefix_held n [] = refl
prefix_held n (w ∷ held) = ap (λ (k : ℕ). cond (not (bytes_eq n (bytes_of w))) (1 + k) 0) (prefix_held n held)

abbrev pub within : ℕ → ℕ → Option ℕ
within k len = cond (nat_lt k len) (Some k) None

pub position_held : (n : List ℕ) (held : List HeldName) → position (λ (w : HeldName). bytes_eq n (bytes_of w)) held ≡ position (bytes_eq n) (map bytes_of held)
position_held n held =
    let long : length (map bytes_of held) ≡ length held = length-map held _ in
    ap (λ (k : ℕ). within k (length held)) (prefix_held n held)
    ∙ ap (within (prefix_len (λ (m : List ℕ). not (bytes_eq n m)) (map bytes_of held))) (sym long)

pub texts_append : (xs ys : List (Bor (List ℕ))) → texts (xs ++ ys) ≡ texts xs ++ texts ys
texts_append xs ys = map-append _ xs ys

-- a set that grows by a name
pub held_insert : (held : List HeldName) (w : HeldName) → map bytes_of (if list_any (λ (v : HeldName). bytes_eq (bytes_of w) (bytes_of v)) held then held else held ++ w ∷ []) ≡ with_name (map bytes_of held) (bytes_of w)
held_insert held w = by (list_any (λ (v : HeldName). bytes_eq (bytes_of w) (bytes_of v)) held) (is_among (bytes_of w) (map bytes_of held)) (is_among_held (bytes_of w) held)
  where
    by : (a b : Bool) → a ≡ b → map bytes_of (cond a held (held ++ w ∷ [])) ≡ cond b (map bytes_of held) (map bytes_of held ++ bytes_of w ∷ [])
    by true true e = refl
    by true false e = cc
    by false true e = cc
    by false false e = map-append bytes_of held (w ∷ [])

-- one more borrowed name of a list
pub texts_more : (refs : List (Bor (List ℕ))) (i : ℕ) (d : Bor (List ℕ)) → i < length refs → texts (take (i + 1) refs) ≡ texts (take i refs) ++ (get_or refs i d).now ∷ []
texts_more refs i d h = ap texts (take_more refs i d h) ∙ texts_append (take i refs) (get_or refs i d ∷ [])

-- the set of the first names of a list, after one more of them
pub collected : (set new : List (List ℕ)) (refs : List (Bor (List ℕ))) (i : ℕ) (d : Bor (List ℕ)) → i < length refs → set ≡ firsts (texts (take i refs)) → new ≡ with_name set (get_or refs i d).now → new ≡ firsts (texts (take (i + 1) refs))
collected set new refs i d h whole added =
    added
    ∙ ap (λ (ns : List (List ℕ)). with_name ns (get_or refs i d).now) whole
    ∙ sym (firsts_more (texts (take i refs)) (get_or refs i d).now)
    ∙ ap firsts (sym (texts_more refs i d h))

pub is_among_append : (n : List ℕ) (xs ys : List (List ℕ)) → is_among n (xs ++ ys) ≡ (is_among n xs || is_among n ys)
is_among_append n xs ys = list_any-append (bytes_eq n) xs ys

pub count_append : (n : List ℕ) (xs ys : List (List ℕ)) → count_by (bytes_eq n) (xs ++ ys) ≡ count_by (bytes_eq n) xs + count_by (bytes_eq n) ys
count_append n xs ys = sum_by-append _ xs ys

pub is_among_with_name : (n : List ℕ) (names : List (List ℕ)) (m : List ℕ) → is_among n (with_name names m) ≡ (is_among n names || bytes_eq n m)
is_among_with_name n names m = by (is_among m names) refl (bytes_eq n m) refl
  where
    by : (a : Bool) → is_among m names ≡ a → (b : Bool) → bytes_eq n m ≡ b → is_among n (cond a names (names ++ m ∷ [])) ≡ (is_among n names || b)
    by true h true e = subst (λ (k : List ℕ). is_among k names ≡ (is_among k names || true)) (sym (same_bytes n m e)) (let i : is_among m names ≡ true = h in cc)
    by true h false e = sym (or-false (is_among n names))
    by false h b e = is_among_append n names (m ∷ []) ∙ ap (λ (c : Bool). is_among n names || c) (or-false (bytes_eq n m) ∙ e)

-- a name stands in a list exactly where it stands there at least once
pub among_counted : (n : List ℕ) (names : List (List ℕ)) → is_among n names ≡ nat_lt 0 (count_by (bytes_eq n) names)
among_counted n [] = refl
among_counted n (x ∷ xs) = by (bytes_eq n x) (among_counted n xs) ∙ ap (nat_lt 0) (sym (count_append n (x ∷ []) xs))
  where
    by : (b : Bool) → is_among n xs ≡ nat_lt 0 (count_by (bytes_eq n) xs) → (b || is_among n xs) ≡ nat_lt 0 ((0 + (if b then 1 else 0)) + count_by (bytes_eq n) xs)
    by true later = sym (lt-ltb 0 ((0 + 1) + count_by (bytes_eq n) xs) (omega arith))
    by false later = later ∙ ap (nat_lt 0) (sym (zero-add (count_by (bytes_eq n) xs)))

-- the names that came, and those that came again, after one more name
module _ (all twice names : List (List ℕ)) (m : List ℕ) (came : (n : List ℕ) → is_among n all ≡ nat_lt 0 (count_by (bytes_eq n) names)) (again : (n : List ℕ) → is_among n twice ≡ nat_lt 1 (count_by (bytes_eq n) names)) where
  counted : (n : List ℕ) → count_by (bytes_eq n) (names ++ m ∷ []) ≡ count_by (bytes_eq n) names + (if bytes_eq n m then 1 else 0)
  counted n =
      let one : count_by (bytes_eq n) (m ∷ []) ≡ (if bytes_eq n m then 1 else 0) = zero-add (if bytes_eq n m then 1 else 0) in
      count_append n names (m ∷ []) ∙ ap (λ (k : ℕ). count_by (bytes_eq n) names + k) one

  pub came_more : (n : List ℕ) → is_among n (with_name all m) ≡ nat_lt 0 (count_by (bytes_eq n) (names ++ m ∷ []))
  came_more n =
      is_among_with_name n all m
      ∙ ap (λ (a : Bool). a || bytes_eq n m) (came n)
      ∙ by (bytes_eq n m) (count_by (bytes_eq n) names)
      ∙ ap (nat_lt 0) (sym (counted n))
    where
      by : (b : Bool) (k : ℕ) → (nat_lt 0 k || b) ≡ nat_lt 0 (k + (if b then 1 else 0))
      by true zero = refl
      by true (suc k) =
          let left : nat_lt 0 (suc k) ≡ true = lt-ltb 0 (suc k) (omega arith) in
          ap (λ (a : Bool). a || true) left ∙ sym (lt-ltb 0 (suc k + 1) (omega arith))
      by false k = or-false (nat_lt 0 k) ∙ ap (nat_lt 0) (sym (add-zero k))

  pub again_more : (n : List ℕ) → is_among n (if is_among m all then with_name twice m else twice) ≡ nat_lt 1 (count_by (bytes_eq n) (names ++ m ∷ []))
  again_more n =
      ap (λ (a : Bool). is_among n (cond a (with_name twice m) twice)) (came m)
      ∙ split (nat_lt 0 (count_by (bytes_eq m) names))
      ∙ ap (λ (a : Bool). a || (nat_lt 0 (count_by (bytes_eq m) names) && bytes_eq n m)) (again n)
      ∙ by (bytes_eq n m) refl
      ∙ ap (nat_lt 1) (sym (counted n))
    where
      split : (a : Bool) → is_among n (cond a (with_name twice m) twice) ≡ (is_among n twice || (a && bytes_eq n m))
      split true = is_among_with_name n twice m
      split false = sym (or-false (is_among n twice))

      numbers : (k : ℕ) → (nat_lt 1 k || (nat_lt 0 k && true)) ≡ nat_lt 1 (k + 1)
      numbers zero = refl
      numbers (suc zero) = refl
      numbers (suc (suc k)) =
          let left : nat_lt 1 (suc (suc k)) ≡ true = lt-ltb 1 (suc (suc k)) (omega arith) in
          let right : nat_lt 1 (suc (suc k) + 1) ≡ true = lt-ltb 1 (suc (suc k) + 1) (omega arith) in
          ap (λ (a : Bool). a || (nat_lt 0 (suc (suc k)) && true)) left ∙ sym right

      by : (b : Bool) → bytes_eq n m ≡ b → (nat_lt 1 (count_by (bytes_eq n) names) || (nat_lt 0 (count_by (bytes_eq m) names) && b)) ≡ nat_lt 1 (count_by (bytes_eq n) names + (if b then 1 else 0))
      by true e =
          ap (λ (k : List ℕ). nat_lt 1 (count_by (bytes_eq n) names) || (nat_lt 0 (count_by (bytes_eq k) names) && true)) (sym (same_bytes n m e))
          ∙ numbers (count_by (bytes_eq n) names)
      by false e =
          ap (λ (a : Bool). nat_lt 1 (count_by (bytes_eq n) names) || a) (and-false (nat_lt 0 (count_by (bytes_eq m) names)))
          ∙ or-false (nat_lt 1 (count_by (bytes_eq n) names))
          ∙ ap (nat_lt 1) (sym (add-zero (count_by (bytes_eq n) names)))
