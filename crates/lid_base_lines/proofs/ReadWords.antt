-- The words of a text without fault are spelled.
use Rattle.std.proofs.Common.{◌≡◌, ℕ, zero, suc, ◌-◌, ◌<◌, ◌≤◌, ◌==◌, Bool, true, false, cond, List, [], ◌∷◌, length, get_or, take, map, filter, refl, sym, subst, ◌∙◌, inl, inr, arith}
use Rattle.std.specs.Prelude.{Option, None, Some, not, ◌&&◌, ◌||◌, nat_lt, nat_le}
use Rattle.std.specs.List.{AllByRecursion, list_any, slice_split, onto_first, before_first, position_or_len, flat_map, suffix_len}
use Rattle.std.proofs.lemmas.Bool.{cases_Bool, cond-true, cond-false, or_parts, not-false, ltb-true, ltb-false, and_parts, and_from, le-leb, leb-true, not_from_false, or_cases, eqb-false}
use Rattle.std.proofs.lemmas.List.Splits.{slice_split-cons_yes, slice_split-cons_no}
use Rattle.std.proofs.lemmas.List.Sums.{fails_before_first}
use Rattle.lid_base.specs.declared.line.TextFault.{TextFault}
use Rattle.lid_base.specs.declared.line.TextFault.TheVariants.{BadByte, NameTooLong}
use Rattle.lid_base.specs.Lines.{is_hash, is_separator, is_allowed, ends_in_mark, content_of, trimmed, goes_on, without_mark, is_word, words_in, words_of, has_bad_byte, has_long_word, has_words, onto_first_join, joins_of, line_of, physical_lines, logical_lines, line_fault, first_fault, text_fault}
use Rattle.lid_base.proofs.Lists.{all_append}
use Rattle.lid_base_lines.specs.Spelled.{is_word_byte, IsSpelled, AreSpelled}
use Rattle.lid_base.proofs.Alls.{all_false, all_take, all_both, all_weaker}

take_index : (P : ℕ → Type 0) (n : ℕ) (xs : List ℕ) → ((k : ℕ) → k < n → P (get_or xs k 0)) → AllByRecursion P (take n xs)
take_index P zero xs h = tt
take_index P (suc n) [] h = tt
take_index P (suc n) (x ∷ xs) h = (h 0 (omega arith), take_index P n xs (λ k l. h (suc k) (omega arith)))

pub before_fails : (p : ℕ → Bool) (xs : List ℕ) → AllByRecursion (λ b. p b ≡ false) (before_first p xs)
before_fails p xs = take_index (λ b. p b ≡ false) (position_or_len p xs) xs (λ k l. fails_before_first p xs k 0 l)

-- the parts of a list, cut where a test passes
onto : (P : ℕ → Type 0) (x : ℕ) (parts : List (List ℕ)) → P x → AllByRecursion (AllByRecursion P) parts → AllByRecursion (AllByRecursion P) (onto_first x parts)
onto P x [] h k = ((h, tt), tt)
onto P x (part ∷ parts) h k = ((h, k.0), k.1)

split_all : (P : ℕ → Type 0) (p : ℕ → Bool) (xs : List ℕ) → AllByRecursion P xs → AllByRecursion (AllByRecursion (λ x. P x × (p x ≡ false))) (slice_split p xs)
split_all P p [] h = (tt, tt)
split_all P p (x ∷ xs) h =
    let later = split_all P p xs h.1 in
    elim (cases_Bool (p x)) [
      | inl yes' ↦ subst (AllByRecursion (AllByRecursion (λ y. P y × (p y ≡ false)))) (sym (slice_split-cons_yes p x xs yes')) (tt, later)
      | inr no' ↦ subst (AllByRecursion (AllByRecursion (λ y. P y × (p y ≡ false)))) (sym (slice_split-cons_no p x xs no')) (onto (λ y. P y × (p y ≡ false)) x (slice_split p xs) (h.0, no') later)
    ]

some_words : (P : List ℕ → Type 0) (parts : List (List ℕ)) → AllByRecursion P parts → AllByRecursion (λ w. P w × (0 < length w)) (filter is_word parts)
some_words P [] h = tt
some_words P (w ∷ ws) h =
    let later = some_words P ws h.1 in
    elim (cases_Bool (is_word w)) [
      | inl yes' ↦ subst (AllByRecursion (λ v. P v × (0 < length v))) (sym (cond-true (is_word w) (w ∷ filter is_word ws) (filter is_word ws) yes')) ((h.0, ltb-true 0 (length w) yes'), later)
      | inr no' ↦ subst (AllByRecursion (λ v. P v × (0 < length v))) (sym (cond-false (is_word w) (w ∷ filter is_word ws) (filter is_word ws) no')) later
    ]

-- a byte that is allowed, no separator and no hash
abbrev IsGood : ℕ → Type 0
IsGood b = (not (is_allowed b) ≡ false) × (is_hash b ≡ false)

word_byte : (b : ℕ) → IsGood b × (is_separator b ≡ false) → is_word_byte b ≡ true
word_byte b h =
    let good = h.0 in
    let allowed : is_allowed b ≡ true = not-false (is_allowed b) good.0 in
    let parts = or_parts (b == 32) ((b == 9) || (b == 13)) h.1 in
    let apart : b ≡ 32 → ⊥ = eqb-false b 32 parts.0 in
    elim (or_cases (is_separator b) (nat_le 32 b && nat_le b 126) allowed) [
      | inl s ↦ absurd (let both : true ≡ false = sym s ∙ h.1 in cc)
      | inr r ↦
          let range = and_parts (nat_le 32 b) (nat_le b 126) r in
          let low : 32 ≤ b = leb-true 32 b range.0 in
          let more : 33 ≤ b = omega arith in
          and_from (nat_le 33 b && nat_le b 126) (not (is_hash b)) (and_from (nat_le 33 b) (nat_le b 126) (le-leb 33 b more) range.1) (not_from_false (is_hash b) good.1)
    ]

without_all : (P : ℕ → Type 0) (xs : List ℕ) → AllByRecursion P xs → AllByRecursion P (without_mark xs)
without_all P xs h = elim (ends_in_mark xs) as (λ b. AllByRecursion P (cond b (take (length xs - 1) xs) xs)) [ true ↦ all_take P (length xs - 1) xs h | false ↦ h ]

abbrev IsCut : List ℕ → Type 0
IsCut w = AllByRecursion (λ b. IsGood b × (is_separator b ≡ false)) w

words_cut : (xs : List ℕ) → AllByRecursion IsGood xs → AllByRecursion (λ w. IsCut w × (0 < length w)) (words_in xs)
unfolding words_in
words_cut xs h = some_words IsCut (slice_split is_separator xs) (split_all IsGood is_separator xs h)

module _ (longest : ℕ) where
  spelled : (w : List ℕ) → ((IsCut w × (0 < length w)) × (ends_in_mark w ≡ false)) × (nat_lt longest (length w) ≡ false) → IsSpelled longest w
  spelled w h = let cut = h.0 in let said = cut.0 in record { some = said.1; short = ltb-false longest (length w) h.1; bytes = all_weaker (λ b. IsGood b × (is_separator b ≡ false)) (λ b. is_word_byte b ≡ true) w word_byte said.0; unmarked = cut.1 }

  -- a physical line without fault
  line_spelled : (line : List ℕ) → has_bad_byte line ≡ false → has_long_word longest line ≡ false → AllByRecursion (IsSpelled longest) (words_of line)
  unfolding has_bad_byte has_long_word content_of trimmed words_of
  line_spelled line good short =
      let content = content_of line in
      let parts = or_parts (list_any (λ b. not (is_allowed b)) content) (list_any ends_in_mark (words_of line)) good in
      let bytes = all_both (λ b. not (is_allowed b) ≡ false) (λ b. is_hash b ≡ false) content (all_false (λ b. not (is_allowed b)) content parts.0) (before_fails is_hash line) in
      let kept = without_all IsGood (trimmed content) (all_take IsGood (length content - suffix_len is_separator content) content bytes) in
      let cut = words_cut (without_mark (trimmed content)) kept in
      let unmarked = all_false ends_in_mark (words_of line) parts.1 in
      let few = all_false (λ w. nat_lt longest (length w)) (words_of line) short in
      let all = all_both (λ w. (IsCut w × (0 < length w)) × (ends_in_mark w ≡ false)) (λ w. nat_lt longest (length w) ≡ false) (words_of line) (all_both (λ w. IsCut w × (0 < length w)) (λ w. ends_in_mark w ≡ false) (words_of line) cut unmarked) few in
      all_weaker (λ w. ((IsCut w × (0 < length w)) × (ends_in_mark w ≡ false)) × (nat_lt longest (length w) ≡ false)) (IsSpelled longest) (words_of line) spelled all

  abbrev IsClean : ℕ × List ℕ → Type 0
  IsClean p = AllByRecursion (IsSpelled longest) (words_of p.1)

  no_fault_cons : (p : ℕ × List ℕ) (ps : List (ℕ × List ℕ)) → first_fault longest (p ∷ ps) ≡ None → (line_fault longest p ≡ None) × (first_fault longest ps ≡ None)
  no_fault_cons p ps h = by (line_fault longest p) refl
    where
      by : (o : Option TextFault) → line_fault longest p ≡ o → (line_fault longest p ≡ None) × (first_fault longest ps ≡ None)
      by None e = (e, rw e at h)
      by (Some fault) e = absurd (let clear = rw e at h in cc)

  line_clean : (p : ℕ × List ℕ) → line_fault longest p ≡ None → IsClean p
  line_clean p h =
      elim (cases_Bool (has_bad_byte p.1)) [
        | inl yes' ↦ absurd (let e : Some (BadByte p.0) ≡ None = sym (cond-true (has_bad_byte p.1) (Some (BadByte p.0)) _ yes') ∙ h in cc)
        | inr good ↦
            let rest : cond (has_long_word longest p.1) (Some (NameTooLong p.0)) None ≡ None = sym (cond-false (has_bad_byte p.1) (Some (BadByte p.0)) _ good) ∙ h in
            elim (cases_Bool (has_long_word longest p.1)) [
              | inl long ↦ absurd (let e : Some (NameTooLong p.0) ≡ None = sym (cond-true (has_long_word longest p.1) (Some (NameTooLong p.0)) None long) ∙ rest in cc)
              | inr short ↦ line_spelled p.1 good short
            ]
      ]

  lines_clean : (ps : List (ℕ × List ℕ)) → first_fault longest ps ≡ None → AllByRecursion IsClean ps
  lines_clean [] h = tt
  lines_clean (p ∷ ps) h = let parts = no_fault_cons p ps h in (line_clean p parts.0, lines_clean ps parts.1)

  onto_join : (p : ℕ × List ℕ) (joins : List (List (ℕ × List ℕ))) → IsClean p → AllByRecursion (AllByRecursion IsClean) joins → AllByRecursion (AllByRecursion IsClean) (onto_first_join p joins)
  onto_join p [] h k = ((h, tt), tt)
  onto_join p (join ∷ joins) h k = ((h, k.0), k.1)

  joins_clean : (ps : List (ℕ × List ℕ)) → AllByRecursion IsClean ps → AllByRecursion (AllByRecursion IsClean) (joins_of ps)
  joins_clean [] h = tt
  joins_clean (p ∷ ps) h =
      let later = joins_clean ps h.1 in
      elim (goes_on p.1) as (λ b. AllByRecursion (AllByRecursion IsClean) (cond b (onto_first_join p (joins_of ps)) ((p ∷ []) ∷ joins_of ps))) [ true ↦ onto_join p (joins_of ps) h.0 later | false ↦ ((h.0, tt), later) ]

  join_words : (join : List (ℕ × List ℕ)) → AllByRecursion IsClean join → AllByRecursion (IsSpelled longest) (flat_map (λ p. words_of p.1) join)
  join_words [] h = tt
  join_words (p ∷ ps) h = all_append (IsSpelled longest) (words_of p.1) (flat_map (λ q. words_of q.1) ps) h.0 (join_words ps h.1)

  kept_lines : (joins : List (List (ℕ × List ℕ))) → AllByRecursion (AllByRecursion IsClean) joins → AllByRecursion (λ l. AreSpelled longest l.words) (filter has_words (map line_of joins))
  kept_lines [] h = tt
  kept_lines (join ∷ joins) h =
      let later = kept_lines joins h.1 in
      let words = join_words join h.0 in
      elim (cases_Bool (has_words (line_of join))) [
        | inl yes' ↦ subst (AllByRecursion (λ l. AreSpelled longest l.words)) (sym (cond-true (has_words (line_of join)) (line_of join ∷ filter has_words (map line_of joins)) (filter has_words (map line_of joins)) yes')) (record { some = ltb-true 0 _ yes'; all = words }, later)
        | inr no' ↦ subst (AllByRecursion (λ l. AreSpelled longest l.words)) (sym (cond-false (has_words (line_of join)) (line_of join ∷ filter has_words (map line_of joins)) (filter has_words (map line_of joins)) no')) later
      ]

  -- each word of each line of a text without fault is spelled
  pub text_words : (bytes : List ℕ) → text_fault longest bytes ≡ None → AllByRecursion (λ l. AreSpelled longest l.words) (logical_lines bytes)
  unfolding logical_lines text_fault
  text_words bytes h = kept_lines (joins_of (physical_lines bytes)) (joins_clean (physical_lines bytes) (lines_clean (physical_lines bytes) h))
