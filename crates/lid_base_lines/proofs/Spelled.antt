-- Spelled words, and lines of them: what the reader finds in such a line.
use Rattle.std.proofs.Common.{◌≡◌, ℕ, suc, ◌+◌, ◌-◌, ◌<◌, ◌≤◌, ◌==◌, true, false, ◌||◌, List, [], ◌∷◌, ◌++◌, length, get_or, take, filter, All, refl, sym, ap, subst, ◌∙◌, append-nil, arith, lt-ltb}
use Rattle.std.specs.Prelude.{◌&&◌, not, nat_lt, nat_le}
use Rattle.std.specs.List.{AllByRecursion, list_any, slice_split, suffix_len, join_with_byte}
use Rattle.std.proofs.lemmas.Bool.{cond-true, cond-false, and_parts, not-true, leb-true, ne_eqb, or_from, or_right, not_from_true, le-ltb, le-leb, and_from}
use Rattle.std.proofs.lemmas.List.{take_all, length-append}
use Rattle.std.proofs.lemmas.List.Elements.{All-from_recursion}
use Rattle.std.proofs.lemmas.List.Splits.{slice_split_none, slice_split_at}
use Rattle.lid_base.specs.Lines.{is_newline, is_hash, is_separator, is_allowed, ends_in_mark, content_of, trimmed, goes_on, without_mark, is_word, words_in, words_of, has_bad_byte, has_long_word}
use Rattle.lid_base.proofs.Cutting.{before_none, ends_in_mark_last, trimmed_at}
use Rattle.lid_base.proofs.Lists.{all_append, none_passes}
use Rattle.lid_base_lines.specs.Texts.{Words, spaced}
use Rattle.lid_base_lines.specs.Spelled.{is_word_byte, IsSpelled, AreSpelled}
use Rattle.lid_base_lines.proofs.Pieces.{join_spaced}
use Rattle.lid_base.proofs.Alls.{all_weaker}

-- what holds of each byte of a line
pub record IsInLine (b : ℕ) : Type 0 where
  pub newline : is_newline b ≡ false
  pub hash : is_hash b ≡ false
  pub allowed : not (is_allowed b) ≡ false

pub record IsInWord (b : ℕ) : Type 0 where
  pub line : IsInLine b
  pub separator : is_separator b ≡ false

in_word : (b : ℕ) → is_word_byte b ≡ true → IsInWord b
in_word b h =
    let parts = and_parts (nat_le 33 b && nat_le b 126) (not (is_hash b)) h in
    let range = and_parts (nat_le 33 b) (nat_le b 126) parts.0 in
    let low : 33 ≤ b = leb-true 33 b range.0 in
    let high : b ≤ 126 = leb-true b 126 range.1 in
    let small : 32 ≤ b = omega arith in
    let printed = and_from (nat_le 32 b) (nat_le b 126) (le-leb 32 b small) (le-leb b 126 high) in
    record {
      line = record {
        newline = ne_eqb b 10 (λ e. absurd (omega arith));
        hash = not-true (is_hash b) parts.1;
        allowed = not_from_true (is_allowed b) (or_right (is_separator b) (nat_le 32 b && nat_le b 126) printed);
      };
      separator = or_from (b == 32) ((b == 9) || (b == 13)) (ne_eqb b 32 (λ e. absurd (omega arith))) (or_from (b == 9) (b == 13) (ne_eqb b 9 (λ e. absurd (omega arith))) (ne_eqb b 13 (λ e. absurd (omega arith))));
    }

blank : IsInLine 32
blank = record { newline = refl; hash = refl; allowed = refl }

-- the last byte
abbrev pub last_byte : List ℕ → ℕ
last_byte bytes = get_or bytes (length bytes - 1) 0

-- neither a separator nor a mark
pub record EndsWell (b : ℕ) : Type 0 where
  pub separator : is_separator b ≡ false
  pub mark : (b == 92) ≡ false

last_append : (xs ys : List ℕ) → 0 < length ys → last_byte (xs ++ ys) ≡ last_byte ys
last_append [] ys h = refl
last_append (x ∷ xs) ys h =
    let e : length (x ∷ (xs ++ ys)) - 1 ≡ suc (length (xs ++ ys) - 1) = omega (arith, length-append xs ys) in
    ap (λ (k : ℕ). get_or (x ∷ (xs ++ ys)) k 0) e ∙ last_append xs ys h

module _ (longest : ℕ) where
  word_bytes : (word : List ℕ) → IsSpelled longest word → AllByRecursion IsInWord word
  word_bytes word s = all_weaker (λ b. is_word_byte b ≡ true) IsInWord word in_word s.bytes

  line_bytes : (word : List ℕ) (words : Words) → IsSpelled longest word → AllByRecursion (IsSpelled longest) words → AllByRecursion IsInLine (word ++ spaced words)
  line_bytes word [] s h = rw append-nil (all_weaker IsInWord IsInLine word (λ b i. i.line) (word_bytes word s))
  line_bytes word (next ∷ words) s h =
      all_append IsInLine word (32 ∷ (next ++ spaced words)) (all_weaker IsInWord IsInLine word (λ b i. i.line) (word_bytes word s)) (blank, line_bytes next words h.0 h.1)

  no_separator : (word : List ℕ) → IsSpelled longest word → All (λ b. is_separator b ≡ false) word
  no_separator word s = All-from_recursion (λ b. is_separator b ≡ false) word (all_weaker IsInWord (λ b. is_separator b ≡ false) word (λ b i. i.separator) (word_bytes word s))

  line_split : (word : List ℕ) (words : Words) → IsSpelled longest word → AllByRecursion (IsSpelled longest) words → slice_split is_separator (word ++ spaced words) ≡ word ∷ words
  line_split word [] s h = rw append-nil (slice_split_none is_separator word (no_separator word s))
  line_split word (next ∷ words) s h =
      slice_split_at is_separator word 32 (next ++ spaced words) (no_separator word s) refl
      ∙ ap (λ (parts : List (List ℕ)). word ∷ parts) (line_split next words h.0 h.1)

  all_words : (words : Words) → AllByRecursion (IsSpelled longest) words → filter is_word words ≡ words
  all_words [] h = refl
  all_words (word ∷ words) h = cond-true (is_word word) _ _ (lt-ltb 0 (length word) h.0.some) ∙ ap (λ (ws : Words). word ∷ ws) (all_words words h.1)

  word_last : (word : List ℕ) → IsSpelled longest word → EndsWell (last_byte word)
  word_last word s =
      let some : 0 < length word = s.some in
      record {
        separator = no_separator word s (length word - 1) 0 (omega arith);
        mark = ends_in_mark_last word some ∙ s.unmarked;
      }

  line_last : (word : List ℕ) (words : Words) → IsSpelled longest word → AllByRecursion (IsSpelled longest) words → EndsWell (last_byte (word ++ spaced words))
  line_last word [] s h = rw append-nil (word_last word s)
  line_last word (next ∷ words) s h =
      let some : 0 < length (next ++ spaced words) = omega (arith, length-append next (spaced words), h.0.some) in
      let more : 0 < length (32 ∷ (next ++ spaced words)) = omega arith in
      let e = last_append word (32 ∷ (next ++ spaced words)) more ∙ last_append (32 ∷ []) (next ++ spaced words) some in
      subst EndsWell (sym e) (line_last next words h.0 h.1)

  -- what the reader finds in a line
  pub record IsLineOf (said : Words) (bytes : List ℕ) : Type 0 where
    pub newline : All (λ b. is_newline b ≡ false) bytes
    pub ends : goes_on bytes ≡ false
    pub words : words_of bytes ≡ said
    pub good : has_bad_byte bytes ≡ false
    pub short : has_long_word longest bytes ≡ false

  module _ (words : Words) (bytes : List ℕ) (all : AllByRecursion IsInLine bytes) (last : EndsWell (last_byte bytes)) (some : 0 < length bytes) (split : slice_split is_separator bytes ≡ words) (spelled : AllByRecursion (IsSpelled longest) words) where
    content : content_of bytes ≡ bytes
    unfolding content_of
    content = sym (before_none is_hash bytes (All-from_recursion (λ b. is_hash b ≡ false) bytes (all_weaker IsInLine (λ b. is_hash b ≡ false) bytes (λ b i. i.hash) all)))

    trims : trimmed bytes ≡ bytes
    trims =
        let whole : take (length bytes) bytes ≡ bytes = take_all (length bytes) bytes (omega arith) in
        sym (trimmed_at bytes (length bytes) (omega arith) (ap (λ (xs : List ℕ). length bytes + suffix_len is_separator xs) (sym whole)) (λ h. last.separator)) ∙ whole

    unmarked : ends_in_mark bytes ≡ false
    unmarked = sym (ends_in_mark_last bytes some) ∙ last.mark

    pub of_line : words_of bytes ≡ words
    unfolding words_of words_in
    of_line =
        let bare : without_mark bytes ≡ bytes = cond-false (ends_in_mark bytes) _ _ unmarked in
        ap (λ (xs : List ℕ). words_in (without_mark xs)) (ap trimmed content ∙ trims)
        ∙ ap words_in bare
        ∙ ap (filter is_word) split
        ∙ all_words words spelled

    pub is_line_of : IsLineOf words bytes
    unfolding goes_on has_bad_byte has_long_word
    is_line_of = record {
      newline = All-from_recursion (λ b. is_newline b ≡ false) bytes (all_weaker IsInLine (λ b. is_newline b ≡ false) bytes (λ b i. i.newline) all);
      ends = ap ends_in_mark (ap trimmed content ∙ trims) ∙ unmarked;
      words = of_line;
      good = or_from _ _
          (ap (list_any (λ b. not (is_allowed b))) content ∙ none_passes (λ b. not (is_allowed b)) bytes (all_weaker IsInLine (λ b. not (is_allowed b) ≡ false) bytes (λ b i. i.allowed) all))
          (ap (list_any ends_in_mark) of_line ∙ none_passes ends_in_mark words (all_weaker (IsSpelled longest) (λ w. ends_in_mark w ≡ false) words (λ w s. s.unmarked) spelled));
      short = ap (list_any (λ w. nat_lt longest (length w))) of_line ∙ none_passes (λ w. nat_lt longest (length w)) words (all_weaker (IsSpelled longest) (λ w. nat_lt longest (length w) ≡ false) words (λ w s. le-ltb longest (length w) s.short) spelled);
    }

  -- a line of spelled words is read as these words
  pub line_of_words : (words : Words) → AreSpelled longest words → IsLineOf words (join_with_byte 32 words)
  line_of_words [] s = absurd (let h : 0 < 0 = s.some in omega arith)
  line_of_words (word ∷ words) s =
      let some : 0 < length (word ++ spaced words) = omega (arith, length-append word (spaced words), s.all.0.some) in
      subst (IsLineOf (word ∷ words)) (sym (join_spaced word words)) (is_line_of (word ∷ words) (word ++ spaced words) (line_bytes word words s.all.0 s.all.1) (line_last word words s.all.0 s.all.1) some (line_split word words s.all.0 s.all.1) s.all)
