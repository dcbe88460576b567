-- A text that is written piece by piece.
use Rattle.std.proofs.Common.{◌≡◌, ℕ, List, [], ◌++◌, length, take, drop, Option, Some, None, Result, Ok, Err, OnErr, refl, sym, ◌∙◌, ap, subst, append_assoc, append-nil}
use Rattle.std.specs.Option.{IfSome}
use Rattle.std.specs.Io.KnownBytes.{Appends, Keeps, WriteAppends}
use Rattle.std.proofs.lemmas.List.{take-append-drop}
use Rattle.std.proofs.Math.Seq.{take-append_seam}
use Rattle.lid_base.specs.Outside.{Appended, AppendedPrefix}

-- the first part of a text was written, and this is left
pub record IsPart (b : List ℕ) (now : Option (List ℕ)) (text left : List ℕ) : Type 0 where
  pub done : List ℕ
  pub written : now ≡ Some (b ++ done)
  pub whole : done ++ left ≡ text

abbrev pub SoFar : Option (List ℕ) → Option (List ℕ) → List ℕ → List ℕ → Type 0
SoFar before now text left = IfSome before (λ b. IsPart b now text left)

pub nothing_yet : (before : Option (List ℕ)) (text : List ℕ) → SoFar before before text text
nothing_yet None text = tt
nothing_yet (Some b) text = record { done = []; written = ap Some (sym (append-nil b)); whole = refl }

pub one_more : (before now new : Option (List ℕ)) (text piece rest : List ℕ) → SoFar before now text (piece ++ rest) → Appended now new piece → SoFar before new text rest
one_more None now new text piece rest so a = tt
one_more (Some b) now new text piece rest so a =
    let at : Appended (Some (b ++ so.done)) new piece = subst (λ w. Appended w new piece) so.written a in
    record {
      done = so.done ++ piece;
      written = at ∙ ap Some (append_assoc b so.done piece);
      whole = append_assoc so.done piece rest ∙ so.whole;
    }

pub all_written : (before now : Option (List ℕ)) (text : List ℕ) → SoFar before now text [] → Appended before now text
all_written None now text so = tt
all_written (Some b) now text so = so.written ∙ ap (λ t. Some (b ++ t)) (sym (append-nil so.done) ∙ so.whole)

-- a part of the next piece was written, and the rest of the text was not
pub part_written : (before now new : Option (List ℕ)) (text piece rest : List ℕ) → SoFar before now text (piece ++ rest) → AppendedPrefix now new piece → AppendedPrefix before new text
part_written None now new text piece rest so a = tt
part_written (Some b) now new text piece rest so a =
    let at : AppendedPrefix (Some (b ++ so.done)) new piece = subst (λ w. AppendedPrefix w new piece) so.written a in
    let done : List ℕ = so.done in
    let k : ℕ = at.0 in
    let whole : (done ++ take k piece) ++ (drop k piece ++ rest) ≡ text =
    append_assoc done (take k piece) (drop k piece ++ rest)
    ∙ ap (λ r. done ++ r) (sym (append_assoc (take k piece) (drop k piece) rest))
    ∙ ap (λ p. done ++ (p ++ rest)) (take-append-drop k piece)
    ∙ so.whole in
    let cut : take (length (done ++ take k piece)) text ≡ done ++ take k piece =
    subst (λ t. take (length (done ++ take k piece)) t ≡ done ++ take k piece) whole
    (take-append_seam (done ++ take k piece) (drop k piece ++ rest)) in
    (length (done ++ take k piece), at.1 ∙ ap Some (append_assoc b done (take k piece)) ∙ ap (λ t. Some (b ++ t)) (sym cut))

pub cut_whole : (left piece rest : List ℕ) (n : ℕ) → piece ≡ take n left → rest ≡ drop n left → piece ++ rest ≡ left
cut_whole left piece rest n p r = ap (λ x. x ++ rest) p ∙ ap (λ x. take n left ++ x) r ∙ take-append-drop n left

-- the same where the piece and the rest are cut from what is left
pub one_more_cut : (before now new : Option (List ℕ)) (text left piece rest : List ℕ) (n : ℕ) → SoFar before now text left → piece ≡ take n left → rest ≡ drop n left → Appended now new piece → SoFar before new text rest
one_more_cut before now new text left piece rest n so p r a =
    one_more before now new text piece rest (subst (λ l. SoFar before now text l) (sym (cut_whole left piece rest n p r)) so) a

pub part_written_cut : (before now new : Option (List ℕ)) (text left piece rest : List ℕ) (n : ℕ) → SoFar before now text left → piece ≡ take n left → rest ≡ drop n left → AppendedPrefix now new piece → AppendedPrefix before new text
part_written_cut before now new text left piece rest n so p r a =
    part_written before now new text piece rest (subst (λ l. SoFar before now text l) (sym (cut_whole left piece rest n p r)) so) a

-- two texts, one after the other
pub both_written : (before now new : Option (List ℕ)) (first second : List ℕ) → Appended before now first → Appended now new second → Appended before new (first ++ second)
both_written None now new first second a c = tt
both_written (Some b) now new first second a c =
    let at : Appended (Some (b ++ first)) new second = subst (λ w. Appended w new second) a c in
    at ∙ ap Some (append_assoc b first second)

pub first_and_part : (before now new : Option (List ℕ)) (first second : List ℕ) → Appended before now first → AppendedPrefix now new second → AppendedPrefix before new (first ++ second)
first_and_part None now new first second a c = tt
first_and_part (Some b) now new first second a c =
    part_written (Some b) now new (first ++ second) second []
    (record { done = first; written = a; whole = ap (λ x. first ++ x) (append-nil second) }) c

-- the same of a result that is handed on
pub first_and_err : {A E : Type 0} (r : Result A E) (before now new : Option (List ℕ)) (first second : List ℕ) → Appended before now first → OnErr r (AppendedPrefix now new second) → OnErr r (AppendedPrefix before new (first ++ second))
first_and_err (Ok x) before now new first second a h = tt
first_and_err (Err e) before now new first second a h = first_and_part before now new first second a h

pub part_of_first : (before new : Option (List ℕ)) (first second : List ℕ) → AppendedPrefix before new first → AppendedPrefix before new (first ++ second)
part_of_first None new first second a = tt
part_of_first (Some b) new first second a =
    part_written (Some b) (Some b) new (first ++ second) first second
    (record { done = []; written = ap Some (sym (append-nil b)); whole = refl }) a

-- what a writer tells of a write
known_appended : (now new : Option (List ℕ)) (piece : List ℕ) → Appends now new piece → Appended now new piece
known_appended None new piece a = tt
known_appended (Some b) None piece a = absurd a
known_appended (Some b) (Some c) piece a = ap Some a

-- a writer took the first n bytes of what was left
pub some_taken : (before now new : Option (List ℕ)) (text left rest : List ℕ) (n : ℕ) → SoFar before now text left → rest ≡ drop n left → Appends now new (take n left) → SoFar before new text rest
some_taken before now new text left rest n so r a =
    one_more_cut before now new text left (take n left) rest n so refl r (known_appended now new (take n left) a)

-- no more is written
stopped : (before now : Option (List ℕ)) (text left : List ℕ) → SoFar before now text left → AppendedPrefix before now text
stopped None now text left so = tt
stopped (Some b) now text left so =
    part_written (Some b) now now text [] left so (subst (λ w. AppendedPrefix w now []) (sym so.written) (0, so.written ∙ ap Some (sym (append-nil (b ++ so.done)))))

-- known bytes stay as they were
still_so_far : (before now new : Option (List ℕ)) (text left : List ℕ) → SoFar before now text left → Keeps now new → SoFar before new text left
still_so_far None now new text left so k = tt
still_so_far (Some b) None new text left so k = absurd (let e : None ≡ Some (b ++ so.done) = so.written in cc)
still_so_far (Some b) (Some c) None text left so k = absurd k
still_so_far (Some b) (Some c) (Some d) text left so k = subst (λ w. SoFar (Some b) (Some w) text left) (sym k) so

-- whatever a writer took of what was left, no more is written after it
pub stopped_after : {E : Type 0} (before now new : Option (List ℕ)) (text left : List ℕ) (r : Result ℕ E) → SoFar before now text left → WriteAppends now new r left → AppendedPrefix before new text
stopped_after before now new text left (Ok n) so a = stopped before new text (drop n left) (some_taken before now new text left (drop n left) n so refl a)
stopped_after before now new text left (Err e) so k = stopped before new text left (still_so_far before now new text left so k)
