-- Marks that are set by the numbers of names are those of the names.
use Rattle.std.proofs.Common.{◌≡◌, ℕ, zero, suc, ◌+◌, nat_lt, count_by, Bool, true, false, ◌||◌, if◌then◌else◌, cond, List, [], ◌∷◌, ◌++◌, length, map, filter, not, replicate, get_or, set, Some, None, slice_get, refl, sym, ◌∙◌, ap, subst, append_assoc, zero-add, add-zero, arith}
use Rattle.std.proofs.lemmas.List.{append-nil}
use Rattle.std.proofs.lemmas.Bool.{lt-ltb}
use Rattle.std.proofs.lemmas.Option.{same_Some}
use Rattle.std.proofs.Math.Bool.{or-false, or_comm}
use Rattle.std.specs.Str.{bytes_eq}
use Rattle.lid_base.specs.Lists.{Among, AreOnce}
use Rattle.lid_base.proofs.Lists.{filter_among, get_among, same_bytes, bytes_same, map_same}
use Rattle.lid_base.proofs.Once.{once_filter}
use Rattle.lid_base.proofs.Places.{get_map}
use Rattle.lid_design.specs.Models.{is_twice, firsts}
use Rattle.lid_check_names.specs.Names.{is_among}
use Rattle.lid_check_names.proofs.Lists.{differs, is_among_append, count_append, among_counted}
use Rattle.lid_check_table.specs.Tables.{AreNumbersOf}
use Rattle.lid_check_table.specs.Marks.{marks_of, again_of, marked_at, again_at, again_at_all}

apart : (n x : List ℕ) → (n ≡ x → ⊥) → bytes_eq n x ≡ false
apart n x other = by (bytes_eq n x) refl
  where
    by : (b : Bool) → bytes_eq n x ≡ b → b ≡ false
    by true e = absurd (other (same_bytes n x e))
    by false e = refl

-- each of the first places is another name
pub firsts_once : (xs : List (List ℕ)) → AreOnce (firsts xs)
firsts_once [] = tt
firsts_once (x ∷ xs) = (new, once_filter (differs x) (firsts xs) (firsts_once xs))
  where
    new : Among x (filter (differs x) (firsts xs)) → ⊥
    new there =
        let kept : not (bytes_eq x x) ≡ true = (filter_among (differs x) x (firsts xs) there).1 in
        let same : bytes_eq x x ≡ true = bytes_same x x refl in
        let f : false ≡ true = ap not (sym same) ∙ kept in
        cc

-- of names that stand once, what holds of one alone is written at its place
pub set_map : (f g : List ℕ → Bool) (names : List (List ℕ)) (k : ℕ) (x : List ℕ) → AreOnce names → slice_get names k ≡ Some x → ((n : List ℕ) → bytes_eq n x ≡ false → f n ≡ g n) → set (map f names) k (g x) ≡ map g names
set_map f g [] k x once here same = absurd (let e : None ≡ Some x = here in cc)
set_map f g (y ∷ ys) zero x once here same =
    let is : y ≡ x = same_Some y x here in
    ap (λ (b : Bool). b ∷ map f ys) (ap g (sym is)) ∙ ap (λ bs. g y ∷ bs) (map_same f g ys (λ n among. same n (apart n x (λ e. once.0 (subst (λ (z : List ℕ). Among z ys) (e ∙ sym is) among)))))
set_map f g (y ∷ ys) (suc k) x once here same =
    ap (λ (b : Bool). b ∷ set (map f ys) k (g x)) (same y (apart y x (λ e. once.0 (subst (λ (z : List ℕ). Among z ys) (sym e) (get_among ys k x here)))))
    ∙ ap (λ bs. g y ∷ bs) (set_map f g ys k x once.1 here same)

-- no name stands in an empty list
pub none_marked : (names : List (List ℕ)) → replicate (length names) false ≡ marks_of names []
none_marked [] = refl
none_marked (n ∷ ns) = ap (λ bs. false ∷ bs) (none_marked ns)

pub none_again : (names : List (List ℕ)) → replicate (length names) false ≡ again_of names []
none_again [] = refl
none_again (n ∷ ns) = ap (λ bs. false ∷ bs) (none_again ns)

read_at : (bs : List Bool) (k : ℕ) (b : Bool) → slice_get bs k ≡ Some b → get_or bs k false ≡ b
read_at [] k b here = absurd (let e : None ≡ Some b = here in cc)
read_at (c ∷ bs) zero b here = same_Some c b here
read_at (c ∷ bs) (suc k) b here = read_at bs k b here

module _ (names : List (List ℕ)) (once : AreOnce names) where
  -- one more name
  mark_more : (list : List (List ℕ)) (k : ℕ) (x : List ℕ) → slice_get names k ≡ Some x → set (marks_of names list) k true ≡ marks_of names (list ++ x ∷ [])
  mark_more list k x here =
      let same : bytes_eq x x ≡ true = bytes_same x x refl in
      let there : is_among x (list ++ x ∷ []) ≡ true = is_among_append x list (x ∷ []) ∙ ap (λ (b : Bool). is_among x list || (b || false)) same ∙ or_true (is_among x list) in
      ap (set (marks_of names list) k) (sym there)
      ∙ set_map (λ n. is_among n list) (λ n. is_among n (list ++ x ∷ [])) names k x once here (λ n other. sym (is_among_append n list (x ∷ []) ∙ ap (λ (b : Bool). is_among n list || (b || false)) other ∙ or-false (is_among n list)))
    where
      or_true : (b : Bool) → (b || true) ≡ true
      or_true true = refl
      or_true false = refl

  counted : (n x : List ℕ) (list : List (List ℕ)) (b : Bool) → bytes_eq n x ≡ b → count_by (bytes_eq n) (list ++ x ∷ []) ≡ count_by (bytes_eq n) list + (if b then 1 else 0)
  counted n x list b is =
      let one : count_by (bytes_eq n) (x ∷ []) ≡ (if bytes_eq n x then 1 else 0) = zero-add (if bytes_eq n x then 1 else 0) in
      count_append n list (x ∷ []) ∙ ap (λ (k : ℕ). count_by (bytes_eq n) list + k) (one ∙ ap (λ (c : Bool). if c then 1 else 0) is)

  other_same : (list : List (List ℕ)) (x n : List ℕ) → bytes_eq n x ≡ false → is_twice list n ≡ is_twice (list ++ x ∷ []) n
  other_same list x n other = ap (nat_lt 1) (sym (counted n x list false other ∙ add-zero (count_by (bytes_eq n) list)))

  again_more : (list : List (List ℕ)) (k : ℕ) (x : List ℕ) → slice_get names k ≡ Some x → again_at (marks_of names list) (again_of names list) k ≡ again_of names (list ++ x ∷ [])
  again_more list k x here = ap (λ (b : Bool). cond b (set (again_of names list) k true) (again_of names list)) read ∙ by (is_among x list) refl
    where
      same : bytes_eq x x ≡ true
      same = bytes_same x x refl

      read : get_or (marks_of names list) k false ≡ is_among x list
      read = read_at (marks_of names list) k (is_among x list) (get_map (λ n. is_among n list) names k x here)

      by : (b : Bool) → is_among x list ≡ b → cond b (set (again_of names list) k true) (again_of names list) ≡ again_of names (list ++ x ∷ [])
      by true there =
          ap (set (again_of names list) k) (sym (ap (nat_lt 1) (counted x x list true same) ∙ twice (count_by (bytes_eq x) list) (sym (among_counted x list) ∙ there)))
          ∙ set_map (is_twice list) (is_twice (list ++ x ∷ [])) names k x once here (other_same list x)
        where
          twice : (c : ℕ) → nat_lt 0 c ≡ true → nat_lt 1 (c + 1) ≡ true
          twice zero h = absurd (let f : false ≡ true = h in cc)
          twice (suc c) h = lt-ltb 1 (suc c + 1) (omega arith)
      by false new = map_same (is_twice list) (is_twice (list ++ x ∷ [])) names (λ n among. each n (bytes_eq n x) refl)
        where
          first : (c : ℕ) → nat_lt 0 c ≡ false → nat_lt 1 c ≡ nat_lt 1 (c + 1)
          first zero h = refl
          first (suc c) h = absurd (let t : nat_lt 0 (suc c) ≡ true = lt-ltb 0 (suc c) (omega arith) in let f : false ≡ true = sym h ∙ t in cc)

          each : (n : List ℕ) (b : Bool) → bytes_eq n x ≡ b → is_twice list n ≡ is_twice (list ++ x ∷ []) n
          each n false other = other_same list x n other
          each n true is =
              let e : n ≡ x = same_bytes n x is in
              ap (is_twice list) e
              ∙ first (count_by (bytes_eq x) list) (sym (among_counted x list) ∙ new)
              ∙ sym (ap (nat_lt 1) (counted x x list true same))
              ∙ ap (is_twice (list ++ x ∷ [])) (sym e)

  pub marks_all : (list more : List (List ℕ)) (ks : List ℕ) → AreNumbersOf names more ks → marked_at (marks_of names list) ks ≡ marks_of names (list ++ more)
  marks_all list [] [] h = ap (marks_of names) (sym (append-nil list))
  marks_all list [] (k ∷ ks) h = absurd (let f : slice_get names k ∷ map (slice_get names) ks ≡ [] = h in cc)
  marks_all list (x ∷ xs) [] h = absurd (let f : [] ≡ Some x ∷ map Some xs = h in cc)
  marks_all list (x ∷ xs) (k ∷ ks) h =
      let f : slice_get names k ∷ map (slice_get names) ks ≡ Some x ∷ map Some xs = h in
      let here : slice_get names k ≡ Some x = cc in
      let rest : map (slice_get names) ks ≡ map Some xs = cc in
      ap (λ (bs : List Bool). marked_at bs ks) (mark_more list k x here) ∙ marks_all (list ++ x ∷ []) xs ks rest ∙ ap (marks_of names) (append_assoc list (x ∷ []) xs)

  pub again_all : (list more : List (List ℕ)) (ks : List ℕ) → AreNumbersOf names more ks → again_at_all (marks_of names list) (again_of names list) ks ≡ again_of names (list ++ more)
  again_all list [] [] h = ap (again_of names) (sym (append-nil list))
  again_all list [] (k ∷ ks) h = absurd (let f : slice_get names k ∷ map (slice_get names) ks ≡ [] = h in cc)
  again_all list (x ∷ xs) [] h = absurd (let f : [] ≡ Some x ∷ map Some xs = h in cc)
  again_all list (x ∷ xs) (k ∷ ks) h =
      let f : slice_get names k ∷ map (slice_get names) ks ≡ Some x ∷ map Some xs = h in
      let here : slice_get names k ≡ Some x = cc in
      let rest : map (slice_get names) ks ≡ map Some xs = cc in
      ap (λ (bs : List Bool). again_at_all bs (again_at (marks_of names list) (again_of names list) k) ks) (mark_more list k x here)
      ∙ ap (λ (bs : List Bool). again_at_all (marks_of names (list ++ x ∷ [])) bs ks) (again_more list k x here)
      ∙ again_all (list ++ x ∷ []) xs ks rest
      ∙ ap (again_of names) (append_assoc list (x ∷ []) xs)

-- the mark of the number of a name
pub mark_here : (f : List ℕ → Bool) (names : List (List ℕ)) (marks : List Bool) (k : ℕ) (name : List ℕ) → marks ≡ map f names → slice_get names k ≡ Some name → get_or marks k false ≡ f name
mark_here f names marks k name are here =
    ap (λ (bs : List Bool). get_or bs k false) are ∙ read_at (map f names) k (f name) (get_map f names k name here)

-- names are marked alike in whatever order two lists of them are joined
pub marks_swapped : (names xs ys : List (List ℕ)) → marks_of names (xs ++ ys) ≡ marks_of names (ys ++ xs)
marks_swapped names xs ys =
    map_same (λ n. is_among n (xs ++ ys)) (λ n. is_among n (ys ++ xs)) names
    (λ n among. is_among_append n xs ys ∙ or_comm (is_among n xs) (is_among n ys) ∙ sym (is_among_append n ys xs))

pub again_swapped : (names xs ys : List (List ℕ)) → again_of names (xs ++ ys) ≡ again_of names (ys ++ xs)
again_swapped names xs ys = map_same (is_twice (xs ++ ys)) (is_twice (ys ++ xs)) names (λ n among. ap (nat_lt 1) (counted_alike n))
  where
    counted_alike : (n : List ℕ) → count_by (bytes_eq n) (xs ++ ys) ≡ count_by (bytes_eq n) (ys ++ xs)
    counted_alike n =
        let left = count_append n xs ys in
        let right = count_append n ys xs in
        omega arith
