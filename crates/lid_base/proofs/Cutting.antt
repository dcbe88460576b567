-- Cutting a list at the first byte that passes a test, and the words that are left.
use Rattle.std.proofs.Common.{◌≡◌, ℕ, ◌+◌, ◌-◌, ◌<◌, ◌≤◌, ◌==◌, Bool, true, false, not, List, [], ◌∷◌, length, take, drop, filter, Some, None, All, refl, sym, ap, suc, zero, eq-zero-or-pos, get_or-drop, add-zero, length-drop, length-take, lt-ltb, subst, ◌∙◌, inl, inr, nat_lt, ltb-true, ltb-false, slice_index, position, arith}
use Rattle.std.specs.List.{slice_split, position_or_len, before_first, after_first, suffix_len}
use Rattle.std.proofs.lemmas.Bool.{cases_Bool, cond-true, cond-false, false≢true}
use Rattle.std.proofs.lemmas.List.{take_rest, take_all}
use Rattle.std.proofs.lemmas.List.Elements.{All-head, All-tail}
use Rattle.std.proofs.lemmas.List.Splits.{slice_split_none, slice_split_first, slice_split-cons_yes}
use Rattle.std.proofs.lemmas.List.Sums.{fails_before_first, passes_at_first, position_or_len_is, suffix_len-take_no}
use Rattle.lid_base.specs.Lines.{is_separator, ends_in_mark, is_word, words_in, trimmed}
use Rattle.lid_base.proofs.Lists.{not_false}

not_true : (b : Bool) → not b ≡ true → b ≡ false
not_true true e = cc
not_true false e = refl

-- what `position` answers
pub record Found (p : ℕ → Bool) (xs : List ℕ) (n : ℕ) : Type 0 where
  pub is : n ≡ position_or_len p xs
  pub within : n < length xs

module _ (p : ℕ → Bool) (xs : List ℕ) where
  pub position_some : (n : ℕ) → Some n ≡ position p xs → Found p xs n
  position_some n e =
      elim (cases_Bool (nat_lt (position_or_len p xs) (length xs))) [
        | inl yes' ↦
            let at : Some n ≡ Some (position_or_len p xs) = e ∙ cond-true _ _ _ yes' in
            let same : n ≡ position_or_len p xs = cc in
            let lt : position_or_len p xs < length xs = ltb-true _ _ yes' in
            record { is = same; within = omega arith }
        | inr no' ↦ let at : Some n ≡ None = e ∙ cond-false _ _ _ no' in absurd (cc)
      ]

  pub position_none : None ≡ position p xs → All (λ x. p x ≡ false) xs
  position_none e =
      elim (cases_Bool (nat_lt (position_or_len p xs) (length xs))) [
        | inl yes' ↦ let at : None ≡ Some (position_or_len p xs) = e ∙ cond-true _ _ _ yes' in absurd (cc)
        | inr no' ↦ let le : length xs ≤ position_or_len p xs = ltb-false _ _ no' in λ k d h. fails_before_first p xs k d (omega arith)
      ]

  -- the parts, cut at the first byte that passes
  pub split_found : (n : ℕ) → Found p xs n → slice_split p xs ≡ take n xs ∷ slice_split p (take (length xs - (n + 1)) (drop (n + 1) xs))
  split_found n f =
      let lt : position_or_len p xs < length xs = subst (λ (m : ℕ). m < length xs) f.is f.within in
      let whole : slice_split p xs ≡ before_first p xs ∷ slice_split p (after_first p xs) = slice_split_first p xs 0 lt in
      rw take_rest
      (subst (λ (m : ℕ). slice_split p xs ≡ take m xs ∷ slice_split p (drop (m + 1) xs)) (sym f.is) whole)

  pub before_found : (n : ℕ) → Found p xs n → take n xs ≡ before_first p xs
  before_found n f = ap (λ (m : ℕ). take m xs) f.is

  pub before_none : All (λ x. p x ≡ false) xs → xs ≡ before_first p xs
  before_none h =
      let e : position_or_len p xs ≡ length xs = position_or_len_is p xs (length xs) 0 (omega arith) (λ k l. h k 0 l) (λ l. absurd (omega arith)) in
      sym (take_all _ _ (omega arith))

-- the last byte
pub ends_in_mark_last : (bs : List ℕ) → 0 < length bs → (slice_index bs (length bs - 1) == 92) ≡ ends_in_mark bs
ends_in_mark_last [] h = absurd (omega arith)
ends_in_mark_last (b ∷ []) h = refl
ends_in_mark_last (b ∷ c ∷ bs) h =
    let e : length (b ∷ c ∷ bs) - 1 ≡ suc (length (c ∷ bs) - 1) = omega arith in
    ap (λ (k : ℕ). slice_index (b ∷ c ∷ bs) k == 92) e ∙ ends_in_mark_last (c ∷ bs) (omega arith)

-- a cut from the end that stops at a byte that is no separator
pub trimmed_at : (bs : List ℕ) (n : ℕ) → n ≤ length bs → n + suffix_len is_separator bs ≡ length bs + suffix_len is_separator (take n bs) → (0 < n → is_separator (slice_index bs (n - 1)) ≡ false) → take n bs ≡ trimmed bs
unfolding trimmed
trimmed_at bs n le inv stop =
    let none : suffix_len is_separator (take n bs) ≡ 0 =
    elim (eq-zero-or-pos n) [
      | inl e ↦ ap (λ (m : ℕ). suffix_len is_separator (take m bs)) e
      | inr pos' ↦ suffix_len-take_no is_separator bs n 0 pos' le (stop pos')
    ] in
    let e : n ≡ length bs - suffix_len is_separator bs = omega arith in
    ap (λ (m : ℕ). take m bs) e

-- separators at the front are skipped
words_in_cons_yes : (x : ℕ) (xs : List ℕ) → is_separator x ≡ true → words_in (x ∷ xs) ≡ words_in xs
unfolding words_in
words_in_cons_yes x xs e = ap (filter is_word) (slice_split-cons_yes is_separator x xs e)

words_in_nil : words_in [] ≡ []
unfolding words_in
words_in_nil = refl

pub words_in_none : (xs : List ℕ) → All (λ x. not (is_separator x) ≡ false) xs → words_in xs ≡ []
words_in_none [] h = words_in_nil
words_in_none (x ∷ xs) h =
    let e : is_separator x ≡ true = not_false (is_separator x) (All-head (λ y. not (is_separator y) ≡ false) x xs h) in
    words_in_cons_yes x xs e ∙ words_in_none xs (All-tail (λ y. not (is_separator y) ≡ false) x xs h)

words_in_skip : (n : ℕ) (xs : List ℕ) → n ≤ length xs → ((k : ℕ) → k < n → not (is_separator (slice_index xs k)) ≡ false) → words_in (drop n xs) ≡ words_in xs
words_in_skip zero xs le h = refl
words_in_skip (suc n) [] le h = absurd (omega arith)
words_in_skip (suc n) (x ∷ xs) le h =
    let e : is_separator x ≡ true = not_false (is_separator x) (h 0 (omega arith)) in
    words_in_skip n xs (omega arith) (λ k l. h (suc k) (omega arith)) ∙ sym (words_in_cons_yes x xs e)

-- the bytes from the first word on
record StartsWord (bs rest : List ℕ) : Type 0 where
  words : words_in rest ≡ words_in bs
  some : 0 < length rest
  first : is_separator (slice_index rest 0) ≡ false

starts_word : (bs : List ℕ) (start : ℕ) (rest : List ℕ) → Found (λ b. not (is_separator b)) bs start → rest ≡ drop start bs → StartsWord bs rest
starts_word bs start rest f e =
    let isnt : (k : ℕ) → k < start → not (is_separator (slice_index bs k)) ≡ false =
    λ k l. fails_before_first (λ b. not (is_separator b)) bs k 0 (subst (λ (m : ℕ). k < m) f.is l) in
    let lt : position_or_len (λ b. not (is_separator b)) bs < length bs = subst (λ (m : ℕ). m < length bs) f.is f.within in
    let at : not (is_separator (slice_index bs start)) ≡ true =
    subst (λ (m : ℕ). not (is_separator (slice_index bs m)) ≡ true) (sym f.is) (passes_at_first (λ b. not (is_separator b)) bs 0 lt) in
    let within : start < length bs = f.within in
    let here : slice_index rest 0 ≡ slice_index bs start = ap (λ (l : List ℕ). slice_index l 0) e ∙ get_or-drop start bs 0 0 ∙ ap (λ (m : ℕ). slice_index bs m) (add-zero start) in
    record {
      words = ap words_in e ∙ words_in_skip start bs (omega arith) isnt;
      some = subst (λ (l : List ℕ). 0 < length l) (sym e) (omega (arith, length-drop start bs));
      first = ap is_separator here ∙ not_true (is_separator (slice_index bs start)) at;
    }

words_in_first : (rest word : List ℕ) (parts : List (List ℕ)) → slice_split is_separator rest ≡ word ∷ parts → 0 < length word → words_in rest ≡ word ∷ filter is_word parts
unfolding words_in
words_in_first rest word parts e h = ap (filter is_word) e ∙ cond-true (is_word word) _ _ (lt-ltb 0 (length word) h)

pub next_none : (bs : List ℕ) (start : ℕ) (rest : List ℕ) → Found (λ b. not (is_separator b)) bs start → rest ≡ drop start bs → All (λ x. is_separator x ≡ false) rest → words_in bs ≡ rest ∷ words_in []
unfolding words_in
next_none bs start rest f e h =
    let s = starts_word bs start rest f e in
    sym s.words ∙ words_in_first rest rest [] (slice_split_none is_separator rest h) s.some

pub next_some : (bs : List ℕ) (start : ℕ) (rest : List ℕ) (n : ℕ) → Found (λ b. not (is_separator b)) bs start → rest ≡ drop start bs → Found is_separator rest n
    → words_in bs ≡ take n rest ∷ words_in (take (length rest - (n + 1)) (drop (n + 1) rest))
unfolding words_in
next_some bs start rest n f e g =
    let s = starts_word bs start rest f e in
    let lt : position_or_len is_separator rest < length rest = subst (λ (m : ℕ). m < length rest) g.is g.within in
    let at : is_separator (slice_index rest n) ≡ true = subst (λ (m : ℕ). is_separator (slice_index rest m) ≡ true) (sym g.is) (passes_at_first is_separator rest 0 lt) in
    let some : 0 < n =
    elim (eq-zero-or-pos n) [
      | inl z ↦ absurd (false≢true (sym s.first ∙ ap (λ (m : ℕ). is_separator (slice_index rest m)) (sym z) ∙ at))
      | inr pos' ↦ pos'
    ] in
    sym s.words ∙ words_in_first rest (take n rest) _ (split_found is_separator rest n g) (omega (arith, g.within, length-take n rest))
