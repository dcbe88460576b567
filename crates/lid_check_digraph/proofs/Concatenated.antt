-- Lists that stand one after another: the one at a place, a list that is begun, and a number more in the last.
use Rattle.std.proofs.Common.{◌≡◌, ℕ, zero, suc, ◌+◌, ◌-◌, ◌<◌, ◌≤◌, ◌⊎◌, inl, inr, List, [], ◌∷◌, ◌++◌, length, get_or, take, drop, refl, sym, ◌∙◌, ap, subst, arith}
use Rattle.std.proofs.Math.Seq.{take-append_seam, drop-length}
use Rattle.std.proofs.lemmas.List.{get_or_append_left, get_or_default, get_or_past, get_or_push, length-append, length-drop, drop-append-le, take-append-le, take_all, take_rest}
use Rattle.lid_base.specs.Each.{from_each}
use Rattle.lid_base.proofs.Each.{each_length, each_at, each_one_more, each_same, take_each}
use Rattle.lid_check_digraph.specs.Graphs.{reads_at}
use Rattle.lid_check_digraph.specs.Concatenated.{end_at, list_at, lists_of, AreStarts}

below_or_not : (k n : ℕ) → (k < n) ⊎ (n ≤ k)
below_or_not k zero = inr (omega arith)
below_or_not zero (suc n) = inl (omega arith)
below_or_not (suc k) (suc n) = elim (below_or_not k n) [ inl h ↦ inl (omega arith) | inr h ↦ inr (omega arith) ]

module _ (all starts : List ℕ) where
  pub end_bounds : AreStarts all starts → (k : ℕ) → k < length starts → end_at all starts k ≤ length all
  end_bounds are k there = elim (below_or_not (k + 1) (length starts)) [ inl more ↦ subst (λ (x : ℕ). x ≤ length all) (get_or_default starts (k + 1) 0 (length all) more) (are.within (k + 1) more) | inr last ↦ (let e = get_or_past starts (k + 1) (length all) last in omega arith) ]

  pub list_is : (k : ℕ) → k < length starts → reads_at (lists_of all starts) k ≡ list_at all starts k
  list_is k there = (let e : 0 + k ≡ k = omega arith in each_at (list_at all starts) 0 (length starts) k [] there ∙ ap (λ (j : ℕ). list_at all starts j) e)

  pub lists_length : length (lists_of all starts) ≡ length starts
  lists_length = each_length (list_at all starts) 0 (length starts)

  -- a list is begun
  begun_end : (k : ℕ) → k < length starts → end_at all (starts ++ length all ∷ []) k ≡ end_at all starts k
  begun_end k there = elim (below_or_not (k + 1) (length starts)) [ inl more ↦ get_or_append_left starts (length all ∷ []) (length all) (k + 1) more | inr last ↦ get_or_push starts (length all) (length all) (k + 1) (omega arith) ∙ sym (get_or_past starts (k + 1) (length all) last) ]

  begun_list : (k : ℕ) → k < length starts → list_at all (starts ++ length all ∷ []) k ≡ list_at all starts k
  begun_list k there =
      let start : get_or (starts ++ length all ∷ []) k 0 ≡ get_or starts k 0 = get_or_append_left starts (length all ∷ []) 0 k there in
      let end = begun_end k there in
      ap (λ (s : ℕ). take (end_at all (starts ++ length all ∷ []) k - s) (drop s all)) start
      ∙ ap (λ (e : ℕ). take (e - get_or starts k 0) (drop (get_or starts k 0) all)) end

  begun_last : list_at all (starts ++ length all ∷ []) (length starts) ≡ []
  begun_last =
      let start : get_or (starts ++ length all ∷ []) (length starts) 0 ≡ length all = get_or_push starts (length all) 0 (length starts) refl in
      let none : drop (length all) all ≡ [] = drop-length all in
      let e = end_at all (starts ++ length all ∷ []) (length starts) in
      ap (λ (s : ℕ). take (e - s) (drop s all)) start ∙ (ap (λ (xs : List ℕ). take (e - length all) xs) none ∙ take_all (e - length all) [] (omega arith))

  pub begun : lists_of all (starts ++ length all ∷ []) ≡ lists_of all starts ++ [] ∷ []
  begun =
      let f = list_at all (starts ++ length all ∷ []) in
      let n = length starts in
      ap (λ (m : ℕ). from_each f 0 m) (length-append starts (length all ∷ []))
      ∙ (each_one_more f n
      ∙ (ap (λ (xs : List (List ℕ)). xs ++ f n ∷ []) (each_same f (list_at all starts) 0 n (λ j h. begun_list j (omega arith)))
      ∙ ap (λ (x : List ℕ). lists_of all starts ++ x ∷ []) begun_last))

  -- the last list gets more numbers
  module _ (new : List ℕ) where
    more_long : length (all ++ new) ≡ length all + length new
    more_long = length-append all new

    more_end : (k : ℕ) → k + 1 < length starts → end_at (all ++ new) starts k ≡ end_at all starts k
    more_end k more = get_or_default starts (k + 1) (length (all ++ new)) (length all) more

    more_list : AreStarts all starts → (k : ℕ) → k + 1 < length starts → list_at (all ++ new) starts k ≡ list_at all starts k
    more_list are k more =
        let s = get_or starts k 0 in
        let e = end_at all starts k in
        let bound = end_bounds are k (omega arith) in
        let in_all = are.within k (omega arith) in
        let dropped : length (drop s all) ≡ length all - s = length-drop s all in
        ap (λ (end : ℕ). take (end - s) (drop s (all ++ new))) (more_end k more)
        ∙ (ap (λ (xs : List ℕ). take (e - s) xs) (drop-append-le s all new in_all)
        ∙ take-append-le (e - s) (drop s all) new (omega arith))

    more_last : AreStarts all starts → (k : ℕ) → k + 1 ≡ length starts → list_at (all ++ new) starts k ≡ list_at all starts k ++ new
    more_last are k is =
        let s = get_or starts k 0 in
        let in_all = are.within k (omega arith) in
        let dropped : length (drop s all) ≡ length all - s = length-drop s all in
        let longer : length (drop s all ++ new) ≡ length (drop s all) + length new = length-append (drop s all) new in
        let long = more_long in
        let new_end : end_at (all ++ new) starts k ≡ length all + length new = get_or_past starts (k + 1) (length (all ++ new)) (omega arith) ∙ long in
        let old_end : end_at all starts k ≡ length all = get_or_past starts (k + 1) (length all) (omega arith) in
        let old : list_at all starts k ≡ drop s all = ap (λ (e : ℕ). take (e - s) (drop s all)) old_end ∙ take_rest all s in
        ap (λ (end : ℕ). take (end - s) (drop s (all ++ new))) new_end
        ∙ (ap (λ (xs : List ℕ). take (length all + length new - s) xs) (drop-append-le s all new in_all)
        ∙ (take_all (length all + length new - s) (drop s all ++ new) (omega arith)
        ∙ ap (λ (xs : List ℕ). xs ++ new) (sym old)))

    pub more : AreStarts all starts → (lists : List (List ℕ)) (last : List ℕ) → lists_of all starts ≡ lists ++ last ∷ [] → lists_of (all ++ new) starts ≡ lists ++ (last ++ new) ∷ []
    more are lists last is =
        let m = length lists in
        let f = list_at all starts in
        let g = list_at (all ++ new) starts in
        let count : length starts ≡ m + 1 = sym lists_length ∙ (ap length is ∙ length-append lists (last ∷ [])) in
        let front : from_each f 0 m ≡ lists = sym (take_each f 0 (length starts) m (omega arith)) ∙ (ap (take m) is ∙ take-append_seam lists (last ∷ [])) in
        let end : f m ≡ last = sym (list_is m (omega arith)) ∙ (ap (λ (xs : List (List ℕ)). reads_at xs m) is ∙ get_or_push lists last [] m refl) in
        ap (λ (n : ℕ). from_each g 0 n) count
        ∙ (each_one_more g m
        ∙ (ap (λ (xs : List (List ℕ)). xs ++ g m ∷ []) (each_same g f 0 m (λ j h. more_list are j (omega arith)) ∙ front)
        ∙ ap (λ (xs : List ℕ). lists ++ xs ∷ []) (more_last are m (sym count) ∙ ap (λ (xs : List ℕ). xs ++ new) end)))
