-- The logical lines of a text of spelled lines are these lines, numbered from 1.
use Rattle.std.proofs.Common.{◌≡◌, ℕ, ◌+◌, ◌<◌, false, List, [], ◌∷◌, ◌++◌, length, map, filter, refl, ap, ◌∙◌, append-nil, append_assoc, lt-ltb}
use Rattle.std.specs.Prelude.{None}
use Rattle.std.specs.List.{AllByRecursion, slice_split, enumerate_from, join_with_byte}
use Rattle.std.proofs.lemmas.Bool.{cond-true, cond-false}
use Rattle.std.proofs.lemmas.List.Splits.{slice_split_at}
use Rattle.lid_base.specs.declared.line.Line.{Line}
use Rattle.lid_base.specs.Lines.{is_newline, goes_on, words_of, content_of, trimmed, words_in, has_bad_byte, has_long_word, has_words, onto_first_join, joins_of, line_of, lines_of, physical_lines, logical_lines, first_fault, text_fault}
use Rattle.lid_base_lines.specs.Texts.{Words, line_text, lines_text, numbered_lines}
use Rattle.lid_base_lines.specs.Spelled.{AreSpelled}
use Rattle.lid_base_lines.proofs.Spelled.{line_of_words}

-- the physical lines, the last of which is empty
abbrev physical : List Words → List (List ℕ)
physical [] = [] ∷ []
physical (words ∷ lines) = join_with_byte 32 words ∷ physical lines

module _ (longest : ℕ) where
  text_split : (lines : List Words) → AllByRecursion (AreSpelled longest) lines → slice_split is_newline (lines_text lines) ≡ physical lines
  unfolding line_text
  text_split [] h = refl
  text_split (words ∷ lines) h =
      let bytes = join_with_byte 32 words in
      ap (slice_split is_newline) (append_assoc bytes (10 ∷ []) (lines_text lines))
      ∙ slice_split_at is_newline bytes 10 (lines_text lines) (line_of_words longest words h.0).newline refl
      ∙ ap (λ (parts : List (List ℕ)). bytes ∷ parts) (text_split lines h.1)

  nothing_goes_on : goes_on [] ≡ false
  unfolding goes_on content_of trimmed
  nothing_goes_on = refl

  nothing_said : words_of [] ≡ []
  unfolding words_of content_of trimmed words_in
  nothing_said = refl

  nothing_bad : has_bad_byte [] ≡ false
  unfolding has_bad_byte words_of content_of trimmed words_in
  nothing_bad = refl

  nothing_long : has_long_word longest [] ≡ false
  unfolding has_long_word words_of content_of trimmed words_in
  nothing_long = refl

  kept_line : (n : ℕ) (words : Words) (bytes : List ℕ) (later : List Line) → 0 < length words → words_of bytes ≡ words → filter has_words (line_of ((n, bytes) ∷ []) ∷ later) ≡ record { number = n; words = words } ∷ filter has_words later
  kept_line n words bytes later some e =
      let same : words_of bytes ++ [] ≡ words = append-nil (words_of bytes) ∙ e in
      rw same (cond-true _ _ _ (lt-ltb 0 (length words) some))

  text_lines : (n : ℕ) (lines : List Words) → AllByRecursion (AreSpelled longest) lines → lines_of (enumerate_from n (physical lines)) ≡ numbered_lines n lines
  text_lines n [] h = rw (nothing_goes_on, nothing_said)
  text_lines n (words ∷ lines) h =
      let bytes = join_with_byte 32 words in
      let l = line_of_words longest words h.0 in
      let later = enumerate_from (n + 1) (physical lines) in
      let split : joins_of ((n, bytes) ∷ later) ≡ ((n, bytes) ∷ []) ∷ joins_of later = cond-false (goes_on bytes) (onto_first_join (n, bytes) (joins_of later)) (((n, bytes) ∷ []) ∷ joins_of later) l.ends in
      ap (λ (js : List (List (ℕ × List ℕ))). filter has_words (map line_of js)) split
      ∙ kept_line n words bytes (map line_of (joins_of later)) h.0.some l.words
      ∙ ap (λ (ls : List Line). record { number = n; words = words } ∷ ls) (text_lines (n + 1) lines h.1)

  no_fault : (n : ℕ) (lines : List Words) → AllByRecursion (AreSpelled longest) lines → first_fault longest (enumerate_from n (physical lines)) ≡ None
  no_fault n [] h = rw (nothing_bad, nothing_long)
  no_fault n (words ∷ lines) h =
      let l = line_of_words longest words h.0 in
      let good = l.good in
      let short = l.short in
      rw (good, short) (no_fault (n + 1) lines h.1)

  pub text_law : (lines : List Words) → AllByRecursion (AreSpelled longest) lines → logical_lines (lines_text lines) ≡ numbered_lines 1 lines
  unfolding logical_lines physical_lines
  text_law lines h = ap (λ (parts : List (List ℕ)). lines_of (enumerate_from 1 parts)) (text_split lines h) ∙ text_lines 1 lines h

  pub text_clean : (lines : List Words) → AllByRecursion (AreSpelled longest) lines → text_fault longest (lines_text lines) ≡ None
  unfolding text_fault physical_lines
  text_clean lines h = ap (λ (parts : List (List ℕ)). first_fault longest (enumerate_from 1 parts)) (text_split lines h) ∙ no_fault 1 lines h
