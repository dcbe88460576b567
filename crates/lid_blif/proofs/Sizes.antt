-- Sizes that cut words into lines, with one more word or one more size.
use Rattle.std.proofs.Common.{◌≡◌, ℕ, ◌+◌, ◌<◌, ◌≤◌, List, [], ◌∷◌, ◌++◌, length, take, drop, refl, arith, length-drop, nat_lt, true, false, lt-ltb, append_assoc}
use Rattle.std.proofs.lemmas.List.{take-append-le, drop-append-le, drop-drop, take_all}
use Rattle.lid_base.specs.Lines.{goes_on, words_of}
use Rattle.lid_base.specs.Joins.{closed_lines, open_lines}
use Rattle.lid_blif.specs.declared.cutting.LineSize.{LineSize}
use Rattle.lid_blif.specs.Joins.{lines_cut, words_counted}

-- words behind those that are counted are in no line
pub lines_cut_words : (sizes : List LineSize) (words more : List (List ℕ)) → words_counted sizes ≤ length words → lines_cut sizes (words ++ more) ≡ lines_cut sizes words
lines_cut_words [] words more h = refl
lines_cut_words (size ∷ sizes) words more h =
    let later : words_counted sizes ≤ length (drop size.count words) = rw length-drop (omega arith) in
    rw (take-append-le size.count words more (omega arith), drop-append-le size.count words more (omega arith), lines_cut_words sizes (drop size.count words) more later) refl

-- a further size cuts the words that are left
pub lines_cut_size : (sizes : List LineSize) (size : LineSize) (words : List (List ℕ)) → lines_cut (sizes ++ size ∷ []) words ≡ lines_cut sizes words ++ (record { number = size.number; words = take size.count (drop (words_counted sizes) words) } ∷ [])
lines_cut_size [] size words = refl
lines_cut_size (first ∷ sizes) size words = rw (lines_cut_size sizes size (drop first.count words), drop-drop) refl

pub words_counted_size : (sizes : List LineSize) (size : LineSize) → words_counted (sizes ++ size ∷ []) ≡ words_counted sizes + size.count
words_counted_size [] size = omega arith
words_counted_size (first ∷ sizes) size = omega (arith, words_counted_size sizes size)

-- the line that ends has the words that are left
pub closed_some : (sizes : List LineSize) (words : List (List ℕ)) (number start count : ℕ) → words_counted sizes ≡ start → start + count ≡ length words → 0 < count → lines_cut (sizes ++ record { number = number; count = count } ∷ []) words ≡ lines_cut sizes words ++ closed_lines number (drop start words)
closed_some sizes words number start count from whole some =
    let left : length (drop start words) ≡ count = rw length-drop (omega arith) in
    let all : take count (drop start words) ≡ drop start words = take_all count (drop start words) (omega arith) in
    let has : nat_lt 0 (length (drop start words)) ≡ true = lt-ltb 0 (length (drop start words)) (omega arith) in
    rw (lines_cut_size sizes (record { number = number; count = count }) words, from, all, has) refl

-- the lines with the words of one more physical line
module _ (sizes : List LineSize) (words : List (List ℕ)) (number start : ℕ) (p : ℕ × List ℕ) (ps : List (ℕ × List ℕ)) where
  abbrev pub grown : List (List ℕ)
  grown = words ++ words_of p.1

  done_same : words_counted sizes ≡ start → start ≤ length words → lines_cut sizes grown ≡ lines_cut sizes words
  done_same from within = lines_cut_words sizes words (words_of p.1) (omega arith)

  open_more : start ≤ length words → drop start grown ≡ drop start words ++ words_of p.1
  open_more within = drop-append-le start words (words_of p.1) within

  pub lines_go_on : words_counted sizes ≡ start → start ≤ length words → goes_on p.1 ≡ true → lines_cut sizes grown ++ open_lines number (drop start grown) ps ≡ lines_cut sizes words ++ open_lines number (drop start words) (p ∷ ps)
  lines_go_on from within goes = rw (done_same from within, open_more within, goes) refl

  pub lines_end : words_counted sizes ≡ start → start ≤ length words → goes_on p.1 ≡ false → (lines_cut sizes grown ++ closed_lines number (drop start grown)) ++ open_lines (p.0 + 1) [] ps ≡ lines_cut sizes words ++ open_lines number (drop start words) (p ∷ ps)
  lines_end from within ends = rw (done_same from within, open_more within, ends) (append_assoc (lines_cut sizes words) (closed_lines number (drop start words ++ words_of p.1)) (open_lines (p.0 + 1) [] ps))
