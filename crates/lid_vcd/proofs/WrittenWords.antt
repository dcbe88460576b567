-- The words of a text of lines, and of one that goes on.
use Rattle.std.proofs.Common.{◌≡◌, ℕ, ◌+◌, ◌<◌, Bool, true, false, cond, List, [], ◌∷◌, ◌++◌, length, map, refl, sym, ap, ◌∙◌, append-nil, append_assoc, arith}
use Rattle.std.specs.List.{AllByRecursion, join_with_byte}
use Rattle.lid_base.specs.Lines.{is_newline, is_separator}
use Rattle.lid_base_lines.specs.Texts.{Words, line_text, lines_text}
use Rattle.lid_vcd_form.specs.Words.{separates, word_before, words_on, placed_words}
use Rattle.lid_vcd_form.proofs.Cuts.{grows}

-- a word has a byte, and none that separates words
pub record IsWord (word : List ℕ) : Type 0 where
  pub some : 0 < length word
  pub bytes : AllByRecursion (λ b. separates b ≡ false) word

pub record IsLine (line : Words) : Type 0 where
  pub some : 0 < length line
  pub words : AllByRecursion IsWord line

-- a word on a line
abbrev pub on_line : ℕ → List ℕ → ℕ × List ℕ
on_line n word = (n, word)

-- the words of lines, numbered from this on
abbrev pub placed_lines : ℕ → List Words → List (ℕ × List ℕ)
placed_lines n [] = []
placed_lines n (words ∷ lines) = map (on_line n) words ++ placed_lines (n + 1) lines

-- bytes that do not separate words belong to the word
grow : (n : ℕ) (front word rest : List ℕ) → AllByRecursion (λ b. separates b ≡ false) word → words_on n front (word ++ rest) ≡ words_on n (front ++ word) rest
grow n front [] rest h = ap (λ (w : List ℕ). words_on n w rest) (sym (append-nil front))
grow n front (b ∷ bs) rest h =
    grows n front b (bs ++ rest) h.0 ∙ grow n (front ++ b ∷ []) bs rest h.1 ∙ ap (λ (w : List ℕ). words_on n w rest) (append_assoc front (b ∷ []) bs)

word_told : (n : ℕ) (word : List ℕ) (words : List (ℕ × List ℕ)) → 0 < length word → word_before n word words ≡ (n, word) ∷ words
word_told n [] words some = absurd (omega arith)
word_told n (b ∷ bs) words some = refl

-- a word and a blank; a word and a newline
before_blank : (n : ℕ) (word rest : List ℕ) → IsWord word → words_on n [] (word ++ 32 ∷ rest) ≡ (n, word) ∷ words_on n [] rest
before_blank n word rest so = grow n [] word (32 ∷ rest) so.bytes ∙ word_told n word (words_on n [] rest) so.some

before_newline : (n : ℕ) (word rest : List ℕ) → IsWord word → words_on n [] (word ++ 10 ∷ rest) ≡ (n, word) ∷ words_on (n + 1) [] rest
before_newline n word rest so = grow n [] word (10 ∷ rest) so.bytes ∙ word_told n word (words_on (n + 1) [] rest) so.some

-- words with a blank after each
abbrev pub spaced : Words → List ℕ
spaced [] = []
spaced (word ∷ words) = word ++ 32 ∷ spaced words

pub spaced_read : (n : ℕ) (words : Words) → AllByRecursion IsWord words → words_on n [] (spaced words) ≡ map (on_line n) words
spaced_read n [] all = refl
spaced_read n (word ∷ words) all = before_blank n word (spaced words) all.0 ∙ ap (λ (ws : List (ℕ × List ℕ)). (n, word) ∷ ws) (spaced_read n words all.1)

-- the number of the line on which bytes end that begin on this line
abbrev pub line_after : ℕ → List ℕ → ℕ
line_after n [] = n
line_after n (b ∷ bs) = line_after (cond (is_newline b) (n + 1) n) bs

before_all : (n : ℕ) (word : List ℕ) (xs ys : List (ℕ × List ℕ)) → word_before n word (xs ++ ys) ≡ word_before n word xs ++ ys
before_all n [] xs ys = refl
before_all n (b ∷ bs) xs ys = refl

-- the words of a text that goes on after a blank are its own, and those of what comes after that
pub both_read : (n : ℕ) (word bytes rest : List ℕ) → words_on n word (bytes ++ 32 ∷ rest) ≡ words_on n word bytes ++ words_on (line_after n bytes) [] rest
both_read n word [] rest = before_all n word [] (words_on n [] rest)
both_read n word (b ∷ bs) rest = by (is_newline b) (is_separator b) (both_read (n + 1) [] bs rest) (both_read n [] bs rest) (both_read n (word ++ b ∷ []) bs rest)
  where
    by : (x y : Bool)
        → words_on (n + 1) [] (bs ++ 32 ∷ rest) ≡ words_on (n + 1) [] bs ++ words_on (line_after (n + 1) bs) [] rest
        → words_on n [] (bs ++ 32 ∷ rest) ≡ words_on n [] bs ++ words_on (line_after n bs) [] rest
        → words_on n (word ++ b ∷ []) (bs ++ 32 ∷ rest) ≡ words_on n (word ++ b ∷ []) bs ++ words_on (line_after n bs) [] rest
        → cond x (word_before n word (words_on (n + 1) [] (bs ++ 32 ∷ rest))) (cond y (word_before n word (words_on n [] (bs ++ 32 ∷ rest))) (words_on n (word ++ b ∷ []) (bs ++ 32 ∷ rest)))
        ≡ cond x (word_before n word (words_on (n + 1) [] bs)) (cond y (word_before n word (words_on n [] bs)) (words_on n (word ++ b ∷ []) bs)) ++ words_on (line_after (cond x (n + 1) n) bs) [] rest
    by true y newline blank more = ap (word_before n word) newline ∙ before_all n word (words_on (n + 1) [] bs) (words_on (line_after (n + 1) bs) [] rest)
    by false true newline blank more = ap (word_before n word) blank ∙ before_all n word (words_on n [] bs) (words_on (line_after n bs) [] rest)
    by false false newline blank more = more

joined : (n : ℕ) (word : List ℕ) (words : Words) (rest : List ℕ) → AllByRecursion IsWord (word ∷ words) →
    words_on n [] (join_with_byte 32 (word ∷ words) ++ 10 ∷ rest) ≡ map (on_line n) (word ∷ words) ++ words_on (n + 1) [] rest
joined n word [] rest all = before_newline n word rest all.0
joined n word (next ∷ words) rest all =
    ap (words_on n []) (append_assoc word (32 ∷ join_with_byte 32 (next ∷ words)) (10 ∷ rest))
    ∙ before_blank n word (join_with_byte 32 (next ∷ words) ++ 10 ∷ rest) all.0
    ∙ ap (λ (ws : List (ℕ × List ℕ)). (n, word) ∷ ws) (joined n next words rest all.1)

line_read : (n : ℕ) (words : Words) (rest : List ℕ) → IsLine words → words_on n [] (line_text words ++ rest) ≡ map (on_line n) words ++ words_on (n + 1) [] rest
unfolding line_text
line_read n [] rest so = absurd (let h = so.some in omega arith)
line_read n (word ∷ words) rest so = ap (words_on n []) (append_assoc (join_with_byte 32 (word ∷ words)) (10 ∷ []) rest) ∙ joined n word words rest so.words

lines_read_from : (n : ℕ) (lines : List Words) → AllByRecursion IsLine lines → words_on n [] (lines_text lines) ≡ placed_lines n lines
lines_read_from n [] all = refl
lines_read_from n (words ∷ lines) all =
    line_read n words (lines_text lines) all.0 ∙ ap (λ (ws : List (ℕ × List ℕ)). map (on_line n) words ++ ws) (lines_read_from (n + 1) lines all.1)

-- the words of a text of lines are those of its lines
pub lines_read : (lines : List Words) → AllByRecursion IsLine lines → placed_words (lines_text lines) ≡ placed_lines 1 lines
unfolding placed_words
lines_read lines all = lines_read_from 1 lines all
