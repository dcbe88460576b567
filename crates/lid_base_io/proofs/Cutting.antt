-- The pieces of a text, cut by cut.
use Rattle.std.proofs.Common.{◌≡◌, ◌==◌, ℕ, zero, suc, ◌+◌, ◌*◌, ◌/◌, ◌<◌, ◌≤◌, min, true, false, List, [], ◌∷◌, ◌++◌, length, take, drop, refl, sym, ◌∙◌, ap, append_assoc, append-nil, arith}
use Rattle.std.proofs.Math.Seq.{take-add}
use Rattle.std.proofs.lemmas.List.{length-drop, length-append, take_min, drop_min, take_all, take-append-le, drop-append-le, drop-drop}
use Rattle.lid_base_io.specs.Calls.{pieces_in, cuts, pieces_of, full_pieces}
use Rattle.lid_base_io.specs.Transfer.{piece_bytes, whole_pieces, after_pieces}

-- the first piece of what is left, and those after it
pub pieces_next : (left : List ℕ) (n : ℕ) → 0 < length left → n ≡ min 65536 (length left) → pieces_of left ≡ take n left ∷ pieces_of (drop n left)
pieces_next left n some is =
    let count : pieces_in (length left) ≡ suc (pieces_in (length (drop 65536 left))) = omega (arith, length-drop 65536 left, some) in
    ap (λ (k : ℕ). cuts k left) count
    ∙ ap (λ (piece : List ℕ). piece ∷ pieces_of (drop 65536 left)) (sym (take_min 65536 left) ∙ ap (λ (k : ℕ). take k left) (sym is))
    ∙ ap (λ (rest : List ℕ). take n left ∷ pieces_of rest) (sym (drop_min 65536 left) ∙ ap (λ (k : ℕ). drop k left) (sym is))

-- a text of at most one piece
pub one_cut : (text : List ℕ) → 0 < length text → length text ≤ 65536 → pieces_of text ≡ text ∷ []
one_cut text some few =
    let count : pieces_in (length text) ≡ 1 = omega arith in
    ap (λ (k : ℕ). cuts k text) count ∙ ap (λ (piece : List ℕ). piece ∷ []) (take_all 65536 text few)

-- so many cuts, and then those that follow
cuts_add : (j k : ℕ) (text : List ℕ) → cuts (j + k) text ≡ cuts j text ++ cuts k (drop (j * 65536) text)
cuts_add zero k text = ap (λ (n : ℕ). cuts n text) (let e : zero + k ≡ k = omega arith in e)
cuts_add (suc j) k text =
    ap (λ (n : ℕ). cuts n text) (let e : suc j + k ≡ suc (j + k) = omega arith in e)
    ∙ ap (λ (rest : List (List ℕ)). take 65536 text ∷ rest)
    (cuts_add j k (drop 65536 text)
    ∙ ap (λ (rest : List ℕ). cuts j (drop 65536 text) ++ cuts k rest) (drop-drop (j * 65536) 65536 text ∙ ap (λ (n : ℕ). drop n text) (let e : 65536 + j * 65536 ≡ suc j * 65536 = omega arith in e)))

-- cuts of the first of two texts are those of both
cuts_first : (j : ℕ) (first second : List ℕ) → j * 65536 ≤ length first → cuts j (first ++ second) ≡ cuts j first
cuts_first zero first second within = refl
cuts_first (suc j) first second within =
    ap (λ (piece : List ℕ). piece ∷ cuts j (drop 65536 (first ++ second))) (take-append-le 65536 first second (omega arith))
    ∙ ap (λ (rest : List (List ℕ)). take 65536 first ∷ rest)
    (ap (λ (rest : List ℕ). cuts j rest) (drop-append-le 65536 first second (omega arith)) ∙ cuts_first j (drop 65536 first) second (omega (arith, within, length-drop 65536 first)))

-- the cuts of two texts: those of the first, and those of what they leave of it with the second
both_cut : (count : ℕ) (first second : List ℕ) (k : ℕ) → k ≡ length first / 65536 → cuts (k + count) (first ++ second) ≡ full_pieces first ++ cuts count (drop (k * 65536) first ++ second)
both_cut count first second k is =
    cuts_add k count (first ++ second)
    ∙ ap (λ (xs : List (List ℕ)). xs ++ cuts count (drop (k * 65536) (first ++ second))) (cuts_first k first second (omega arith) ∙ ap (λ (n : ℕ). cuts n first) is)
    ∙ ap (λ (rest : List ℕ). full_pieces first ++ cuts count rest) (drop-append-le (k * 65536) first second (omega arith))

-- the full pieces of two texts: those of the first, and those of what they leave of it with the second
pub full_split : (first second : List ℕ) → full_pieces (first ++ second) ≡ full_pieces first ++ full_pieces (after_pieces first ++ second)
unfolding after_pieces
full_split first second =
    let k : ℕ = length first / 65536 in
    let rest : List ℕ = drop (k * 65536) first ++ second in
    let count : length (first ++ second) / 65536 ≡ k + length rest / 65536 = omega (arith, length-append first second, length-append (drop (k * 65536) first) second, length-drop (k * 65536) first) in
    ap (λ (n : ℕ). cuts n (first ++ second)) count ∙ both_cut (length rest / 65536) first second k refl

-- the pieces of two texts: the full ones of the first, and those of what they leave of it with the second
pub pieces_split : (first second : List ℕ) → pieces_of (first ++ second) ≡ full_pieces first ++ pieces_of (after_pieces first ++ second)
unfolding after_pieces
pieces_split first second =
    let k : ℕ = length first / 65536 in
    let rest : List ℕ = drop (k * 65536) first ++ second in
    let count : pieces_in (length (first ++ second)) ≡ k + pieces_in (length rest) = omega (arith, length-append first second, length-append (drop (k * 65536) first) second, length-drop (k * 65536) first) in
    ap (λ (n : ℕ). cuts n (first ++ second)) count ∙ both_cut (pieces_in (length rest)) first second k refl

-- the pieces of a text: the full ones, and that of what they leave of it, where it is some
pub pieces_end : (text : List ℕ) → pieces_of text ≡ full_pieces text ++ pieces_of (after_pieces text)
pieces_end text =
    ap (λ (xs : List ℕ). pieces_of xs) (sym (append-nil text)) ∙ pieces_split text [] ∙ ap (λ (xs : List ℕ). full_pieces text ++ pieces_of xs) (append-nil (after_pieces text))

-- the whole pieces of two texts, and what they leave: those of the first, and those of what they leave of it with the
-- second
module _ (first second : List ℕ) where
  abbrev k : ℕ
  k = length first / 65536

  abbrev later : List ℕ
  later = drop (k * 65536) first ++ second

  bytes_split : piece_bytes (length (first ++ second)) ≡ k * 65536 + piece_bytes (length later)
  bytes_split = omega (arith, length-append first second, length-append (drop (k * 65536) first) second, length-drop (k * 65536) first)

  later_is : drop (k * 65536) (first ++ second) ≡ later
  later_is = drop-append-le (k * 65536) first second (omega arith)

  pub after_split : after_pieces (first ++ second) ≡ after_pieces (after_pieces first ++ second)
  unfolding after_pieces
  after_split =
      ap (λ (n : ℕ). drop n (first ++ second)) bytes_split
      ∙ sym (drop-drop (piece_bytes (length later)) (k * 65536) (first ++ second))
      ∙ ap (λ (xs : List ℕ). drop (piece_bytes (length later)) xs) later_is

  pub whole_split : whole_pieces (first ++ second) ≡ whole_pieces first ++ whole_pieces (after_pieces first ++ second)
  unfolding whole_pieces after_pieces
  whole_split =
      ap (λ (n : ℕ). take n (first ++ second)) bytes_split
      ∙ take-add (k * 65536) (piece_bytes (length later)) (first ++ second)
      ∙ ap (λ (xs : List ℕ). xs ++ take (piece_bytes (length later)) (drop (k * 65536) (first ++ second))) (take-append-le (k * 65536) first second (omega arith))
      ∙ ap (λ (xs : List ℕ). take (k * 65536) first ++ take (piece_bytes (length later)) xs) later_is

-- fewer bytes than a piece have no full pieces
pub none_full : (text : List ℕ) → length text < 65536 → full_pieces text ≡ []
none_full text short = ap (λ (n : ℕ). cuts n text) (let e : length text / 65536 ≡ 0 = omega arith in e)

-- a piece is its own full piece
pub one_full : (text : List ℕ) → length text ≡ 65536 → full_pieces text ≡ text ∷ []
one_full text full =
    ap (λ (n : ℕ). cuts n text) (let e : length text / 65536 ≡ 1 = omega arith in e)
    ∙ ap (λ (piece : List ℕ). piece ∷ []) (take_all 65536 text (omega arith))

-- there is something left
pub some_left : (n : ℕ) → (n == 0) ≡ false → 0 < n
some_left zero e = absurd (let f : true ≡ false = e in cc)
some_left (suc n) e = omega arith

-- a piece is cut from what is left
pub piece_cut : (left piece rest : List ℕ) (n : ℕ) → 0 < length left → n ≡ min 65536 (length left) → piece ≡ take n left → rest ≡ drop n left → pieces_of left ≡ (piece ∷ []) ++ pieces_of rest
piece_cut left piece rest n some is p r =
    pieces_next left n some is ∙ ap (λ (xs : List ℕ). xs ∷ pieces_of (drop n left)) (sym p) ∙ ap (λ (xs : List ℕ). piece ∷ pieces_of xs) (sym r)

-- a part is pushed after the bytes that are held
pub part_cut : (held left part later held_now : List ℕ) → part ++ later ≡ left → held_now ≡ after_pieces (held ++ part) → full_pieces (held ++ left) ≡ full_pieces (held ++ part) ++ full_pieces (held_now ++ later)
part_cut held left part later held_now cut is =
    ap (λ (xs : List ℕ). full_pieces xs) (ap (λ (xs : List ℕ). held ++ xs) (sym cut) ∙ sym (append_assoc held part later))
    ∙ full_split (held ++ part) later
    ∙ ap (λ (xs : List ℕ). full_pieces (held ++ part) ++ full_pieces (xs ++ later)) (sym is)

-- all was pushed, and fewer bytes than a piece are held
pub all_cut : (held left : List ℕ) → left ≡ [] → length held < 65536 → full_pieces (held ++ left) ≡ []
all_cut held left none short =
    ap (λ (xs : List ℕ). full_pieces xs) (ap (λ (xs : List ℕ). held ++ xs) none ∙ append-nil held) ∙ none_full held short
