-- Parts of a text, and the words that lie in them.
use Rattle.std.proofs.Common.{cond, ◌≡◌, ℕ, ◌+◌, ◌-◌, ◌≤◌, true, false, List, [], ◌∷◌, ◌++◌, length, take, drop, refl, ap, ◌∙◌, sym, arith, length-append, length-drop, length-take, subst, append_assoc}
use Rattle.std.proofs.lemmas.Bool.{cond-true, cond-false}
use Rattle.std.proofs.lemmas.List.{take-map, drop-map, take-take, take_min, drop-take, drop-drop, drop_all, take_rest, length-take-le, length-map, map-append}
use Rattle.std.proofs.lemmas.List.Sums.{count_by-le-length}
use Rattle.std.proofs.lemmas.List.Splits.{length-slice_split}
use Rattle.std.specs.List.{slice_split}
use Rattle.lid_base.specs.Lines.{is_separator, is_word, ends_in_mark, content_of, trimmed, without_mark, words_in, words_of}
use Rattle.lid_base.proofs.Lists.{filter_le}
use Rattle.lid_blif.specs.declared.line.Word.{Word}
use Rattle.lid_blif.specs.Places.{bytes_between, bytes_of_word, bytes_of_words}

pub bytes_of_front : (text : List ℕ) (words : List Word) (count : ℕ) → bytes_of_words text (take count words) ≡ take count (bytes_of_words text words)
bytes_of_front text words count = sym (take-map (bytes_of_word text) count words)

pub bytes_of_back : (text : List ℕ) (words : List Word) (count : ℕ) → bytes_of_words text (drop count words) ≡ drop count (bytes_of_words text words)
bytes_of_back text words count = sym (drop-map (bytes_of_word text) count words)

-- what is left of a part
part_left : (text : List ℕ) (from to n : ℕ) → from + n ≤ to → drop n (bytes_between text from to) ≡ bytes_between text (from + n) to
part_left text from to n h =
    let bytes = drop from text in
    ap (λ m. drop n (take m bytes)) (let e : to - from ≡ n + (to - (from + n)) = omega arith in e)
    ∙ drop-take n (to - (from + n)) bytes
    ∙ ap (take (to - (from + n))) (drop-drop n from text)

-- a part of a part
pub part_of_part : (text : List ℕ) (from to start end : ℕ) → start ≤ end → from + end ≤ to → bytes_between (bytes_between text from to) start end ≡ bytes_between text (from + start) (from + end)
part_of_part text from to start end le h =
    ap (take (end - start)) (part_left text from to start (omega arith))
    ∙ take-take (end - start) (to - (from + start)) (drop (from + start) text) (omega arith)
    ∙ ap (λ m. take m (drop (from + start) text)) (let e : end - start ≡ from + end - (from + start) = omega arith in e)

pub part_length : (text : List ℕ) (from to : ℕ) → to ≤ length text → length (bytes_between text from to) ≡ to - from
part_length text from to h = length-take-le (to - from) (drop from text) (omega (arith, length-drop from text))

-- the word that lies where a part lies
pub word_of_part : (text : List ℕ) (from to : ℕ) → to ≤ length text → take (length (bytes_between text from to)) (drop from text) ≡ bytes_between text from to
word_of_part text from to h = ap (λ n. take n (drop from text)) (part_length text from to h)

-- bytes have at most one word more than bytes
pub words_in_le : (bytes : List ℕ) → length (words_in bytes) ≤ length bytes + 1
unfolding words_in
words_in_le bytes =
    omega (arith, filter_le is_word (slice_split is_separator bytes), length-slice_split is_separator bytes, count_by-le-length is_separator bytes)

-- the first word of some bytes, which ends at their end or at a separator
pub word_to_end : (bytes rest : List ℕ) (start : ℕ) → rest ≡ drop start bytes → words_in bytes ≡ rest ∷ words_in [] → words_in bytes ≡ bytes_between bytes start (length bytes) ∷ words_in (drop (length bytes) bytes)
word_to_end bytes rest start e h =
    h ∙ ap (λ (word : List ℕ). word ∷ words_in []) (e ∙ sym (take_rest bytes start))
    ∙ ap (λ (left : List ℕ). bytes_between bytes start (length bytes) ∷ words_in left) (sym (drop_all (length bytes) bytes (omega arith)))

pub word_to_separator : (bytes rest : List ℕ) (start n : ℕ) → rest ≡ drop start bytes → words_in bytes ≡ take n rest ∷ words_in (take (length rest - (n + 1)) (drop (n + 1) rest))
    → words_in bytes ≡ bytes_between bytes start (start + n) ∷ words_in (drop (start + n + 1) bytes)
word_to_separator bytes rest start n e h =
    let word : take n rest ≡ bytes_between bytes start (start + n) =
    ap (take n) e ∙ ap (λ m. take m (drop start bytes)) (let same : n ≡ start + n - start = omega arith in same) in
    let left : take (length rest - (n + 1)) (drop (n + 1) rest) ≡ drop (start + n + 1) bytes =
    take_rest rest (n + 1) ∙ ap (drop (n + 1)) e ∙ drop-drop (n + 1) start bytes ∙ ap (λ m. drop m bytes) (let same : start + (n + 1) ≡ start + n + 1 = omega arith in same) in
    h ∙ ap (λ (first : List ℕ). first ∷ words_in (take (length rest - (n + 1)) (drop (n + 1) rest))) word
    ∙ ap (λ (after : List ℕ). bytes_between bytes start (start + n) ∷ words_in after) left

-- a front of a list
front_le : (front whole : List ℕ) → take (length front) whole ≡ front → length front ≤ length whole
front_le front whole h = omega (arith, ap length h, length-take (length front) whole)

front_less : (front whole : List ℕ) (n : ℕ) → take (length front) whole ≡ front → n ≤ length front → take n whole ≡ take n front
front_less front whole n h le = sym (take-take n (length front) whole le) ∙ ap (take n) h

front_of_front : (front middle whole : List ℕ) → take (length front) middle ≡ front → take (length middle) whole ≡ middle → take (length front) whole ≡ front
front_of_front front middle whole h g = front_less middle whole (length front) g (front_le front middle h) ∙ h

taken_front : (n : ℕ) (whole : List ℕ) → take (length (take n whole)) whole ≡ take n whole
taken_front n whole = ap (λ m. take m whole) (length-take n whole) ∙ take_min n whole

content_front : (line : List ℕ) → take (length (content_of line)) line ≡ content_of line
unfolding content_of
content_front line = taken_front _ line

trimmed_front : (bytes : List ℕ) → take (length (trimmed bytes)) bytes ≡ trimmed bytes
unfolding trimmed
trimmed_front bytes = taken_front _ bytes

kept_front : (line kept : List ℕ) → kept ≡ trimmed (content_of line) → take (length kept) line ≡ kept
kept_front line kept e =
    subst (λ (bytes : List ℕ). take (length bytes) line ≡ bytes) (sym e)
    (front_of_front (trimmed (content_of line)) (content_of line) line (trimmed_front (content_of line)) (content_front line))

pub kept_le : (line kept : List ℕ) → kept ≡ trimmed (content_of line) → length kept ≤ length line
kept_le line kept e = front_le kept line (kept_front line kept e)

-- the words of a line, up to where they go
pub words_marked : (line kept : List ℕ) → kept ≡ trimmed (content_of line) → ends_in_mark kept ≡ true → words_in (take (length kept - 1) line) ≡ words_of line
unfolding words_of
words_marked line kept e marked =
    ap words_in
    (front_less kept line (length kept - 1) (kept_front line kept e) (omega arith)
    ∙ sym (cond-true (ends_in_mark kept) (take (length kept - 1) kept) kept marked)
    ∙ ap without_mark e)

pub words_unmarked : (line kept : List ℕ) → kept ≡ trimmed (content_of line) → ends_in_mark kept ≡ false → words_in (take (length kept) line) ≡ words_of line
unfolding words_of
words_unmarked line kept e unmarked =
    ap words_in (kept_front line kept e ∙ sym (cond-false (ends_in_mark kept) (take (length kept - 1) kept) kept unmarked) ∙ ap without_mark e)

-- words that were pushed
pub words_length : (text : List ℕ) (words : List Word) → length (bytes_of_words text words) ≡ length words
words_length text words = length-map words (bytes_of_word text)

pub grown_length : (text : List ℕ) (old new : List Word) (more : List (List ℕ)) → bytes_of_words text new ≡ bytes_of_words text old ++ more → length new ≡ length old + length more
grown_length text old new more h = omega (arith, words_length text old, words_length text new, ap length h, length-append (bytes_of_words text old) more)

pub pushed : (text : List ℕ) (old new : List Word) (start end : ℕ) (left : List (List ℕ)) → end ≤ length text → new ≡ old ++ record { start = start; len = length (bytes_between text start end) } ∷ []
    → bytes_of_words text new ++ left ≡ bytes_of_words text old ++ bytes_between text start end ∷ left
pushed text old new start end left within h =
    let word : Word = record { start = start; len = length (bytes_between text start end) } in
    ap (λ (words : List Word). bytes_of_words text words ++ left) h
    ∙ ap (λ (words : List (List ℕ)). words ++ left) (map-append (bytes_of_word text) old (word ∷ []))
    ∙ append_assoc (bytes_of_words text old) (bytes_of_word text word ∷ []) left
    ∙ ap (λ (bytes : List ℕ). bytes_of_words text old ++ bytes ∷ left) (word_of_part text start end within)

-- the words of a part, cut behind the first
pub first_of_part : (text : List ℕ) (from to start end next : ℕ) → start ≤ end → end ≤ next → from + next ≤ to → words_in (bytes_between text from to) ≡ bytes_between (bytes_between text from to) start end ∷ words_in (drop next (bytes_between text from to))
    → words_in (bytes_between text from to) ≡ bytes_between text (from + start) (from + end) ∷ words_in (bytes_between text (from + next) to)
first_of_part text from to start end next le behind within first =
    first
    ∙ ap (λ (word : List ℕ). word ∷ words_in (drop next (bytes_between text from to))) (part_of_part text from to start end le (omega arith))
    ∙ ap (λ (bytes : List ℕ). bytes_between text (from + start) (from + end) ∷ words_in bytes) (part_left text from to next within)

without_mark_le : (bytes : List ℕ) → length (without_mark bytes) ≤ length bytes
without_mark_le bytes =
    elim (ends_in_mark bytes) as (λ b. length (cond b (take (length bytes - 1) bytes) bytes) ≤ length bytes) [
      | true ↦ omega (arith, length-take (length bytes - 1) bytes)
      | false ↦ omega arith
    ]

words_of_le : (line : List ℕ) → length (words_of line) ≤ length line + 1
unfolding words_of
words_of_le line =
    let kept = trimmed (content_of line) in
    omega (arith, words_in_le (without_mark kept), without_mark_le kept, kept_le line kept refl)

-- the words of the lines so far are at most as many as the bytes gone over
pub words_few : (text : List ℕ) (old new : List Word) (from to : ℕ) → from ≤ to → to ≤ length text → length old ≤ from → bytes_of_words text new ≡ bytes_of_words text old ++ words_of (bytes_between text from to) → length new ≤ to + 1
words_few text old new from to le within few h =
    omega (arith, grown_length text old new (words_of (bytes_between text from to)) h, words_of_le (bytes_between text from to), part_length text from to within)
