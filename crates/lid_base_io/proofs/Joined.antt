-- Pieces that make a text, one after the other.
use Rattle.std.proofs.Common.{◌≡◌, ℕ, zero, suc, ◌*◌, ◌≤◌, List, [], ◌++◌, length, take, drop, Option, refl, sym, ◌∙◌, ap, append_assoc, append-nil, arith}
use Rattle.std.specs.List.{concat}
use Rattle.std.proofs.lemmas.List.{take-append-drop, length-drop, nil_from_length}
use Rattle.std.proofs.lemmas.List.Folds.{concat-append}
use Rattle.lid_base.specs.Outside.{Came, CamePrefix}
use Rattle.lid_base_io.specs.Calls.{cuts, pieces_in, pieces_of, CameAs, CameJoined, CameJoinedPrefix}
use Rattle.lid_base_io.proofs.Came.{none_came, both_came, begins_with}

cuts_joined : (n : ℕ) (text : List ℕ) → length text ≤ n * 65536 → concat (cuts n text) ≡ text
cuts_joined zero text few = sym (nil_from_length text (omega (arith, few)))
cuts_joined (suc n) text few =
    ap (λ (xs : List ℕ). take 65536 text ++ xs) (cuts_joined n (drop 65536 text) (omega (arith, few, length-drop 65536 text))) ∙ take-append-drop 65536 text

-- the pieces of a text are the text
pub pieces_joined : (text : List ℕ) → concat (pieces_of text) ≡ text
pieces_joined text = cuts_joined (pieces_in (length text)) text (omega arith)

pub text_joined : (old new : Option (List (List ℕ))) (text : List ℕ) → Came old new (pieces_of text) → CameJoined old new text
text_joined old new text came = (pieces_of text, came, pieces_joined text)

pub text_begun : (old new : Option (List (List ℕ))) (text : List ℕ) → CamePrefix old new (pieces_of text) → CameJoinedPrefix old new text
text_begun old new text came =
    let k : ℕ = came.0 in
    let pieces : List (List ℕ) = pieces_of text in
    let whole : concat (take k pieces) ++ concat (drop k pieces) ≡ text =
    sym (concat-append (take k pieces) (drop k pieces)) ∙ ap (λ (xs : List (List ℕ)). concat xs) (take-append-drop k pieces) ∙ pieces_joined text in
    (take k pieces, came.1, (length (concat (take k pieces)), begins_with (concat (take k pieces)) (concat (drop k pieces)) text whole))

-- the pieces so far make the first part of a text, and this is left
abbrev pub JoinedSoFar : Option (List (List ℕ)) → Option (List (List ℕ)) → List ℕ → List ℕ → Type 0
JoinedSoFar old now text left = CameAs old now (λ pieces. concat pieces ++ left ≡ text)

pub none_joined : (old : Option (List (List ℕ))) (text : List ℕ) → JoinedSoFar old old text text
none_joined old text = ([], none_came old, refl)

pub more_joined : (old now new : Option (List (List ℕ))) (text piece rest : List ℕ) → JoinedSoFar old now text (piece ++ rest) → CameJoined now new piece → JoinedSoFar old new text rest
more_joined old now new text piece rest so next = (
  so.0 ++ next.0,
  both_came old now new so.0 next.0 so.1 next.1,
  ap (λ (xs : List ℕ). xs ++ rest) (concat-append so.0 next.0)
      ∙ append_assoc (concat so.0) (concat next.0) rest
      ∙ ap (λ (xs : List ℕ). concat so.0 ++ (xs ++ rest)) next.2
      ∙ so.2,
)

-- a first part of the next piece came, and no more
pub part_joined : (old now new : Option (List (List ℕ))) (text piece rest : List ℕ) → JoinedSoFar old now text (piece ++ rest) → CameJoinedPrefix now new piece → CameJoinedPrefix old new text
part_joined old now new text piece rest so next =
    let k : ℕ = next.2.0 in
    let done : List ℕ = concat so.0 in
    let whole : (done ++ take k piece) ++ (drop k piece ++ rest) ≡ text =
    append_assoc done (take k piece) (drop k piece ++ rest)
    ∙ ap (λ (xs : List ℕ). done ++ xs) (sym (append_assoc (take k piece) (drop k piece) rest))
    ∙ ap (λ (xs : List ℕ). done ++ (xs ++ rest)) (take-append-drop k piece)
    ∙ so.2 in (
      so.0 ++ next.0,
      both_came old now new so.0 next.0 so.1 next.1,
      (length (done ++ take k piece), concat-append so.0 next.0 ∙ ap (λ (xs : List ℕ). done ++ xs) next.2.1 ∙ begins_with (done ++ take k piece) (drop k piece ++ rest) text whole),
    )

pub all_joined : (old now : Option (List (List ℕ))) (text : List ℕ) → JoinedSoFar old now text [] → CameJoined old now text
all_joined old now text so = (so.0, so.1, sym (append-nil (concat so.0)) ∙ so.2)

-- two texts, one after the other
pub both_joined : (old now new : Option (List (List ℕ))) (first second : List ℕ) → CameJoined old now first → CameJoined now new second → CameJoined old new (first ++ second)
both_joined old now new first second a b =
    (a.0 ++ b.0, both_came old now new a.0 b.0 a.1 b.1, concat-append a.0 b.0 ∙ ap (λ (xs : List ℕ). xs ++ concat b.0) a.2 ∙ ap (λ (xs : List ℕ). first ++ xs) b.2)

pub first_and_begun : (old now new : Option (List (List ℕ))) (first second : List ℕ) → CameJoined old now first → CameJoinedPrefix now new second → CameJoinedPrefix old new (first ++ second)
first_and_begun old now new first second a b =
    part_joined old now new (first ++ second) second [] (a.0, a.1, ap (λ (xs : List ℕ). concat a.0 ++ xs) (append-nil second) ∙ ap (λ (xs : List ℕ). xs ++ second) a.2) b

pub first_begun : (old new : Option (List (List ℕ))) (first second : List ℕ) → CameJoinedPrefix old new first → CameJoinedPrefix old new (first ++ second)
first_begun old new first second a = part_joined old old new (first ++ second) first second (none_joined old (first ++ second)) a
