-- A text that is written in pieces is written whole, and in its own pieces.
use Rattle.std.proofs.Common.{◌≡◌, ℕ, List, [], ◌++◌, Option, Result, OnOk, OnErr, sym, ◌∙◌, ap, subst, append-nil}
use Rattle.lid_base.specs.Outside.{Appended, AppendedPrefix, Came, CamePrefix}
use Rattle.lid_base.proofs.Results.{on_ok, on_err}
use Rattle.lid_base.proofs.Writes.{both_written, first_and_part}
use Rattle.lid_base_io.specs.Calls.{pieces_of, full_pieces}
use Rattle.lid_base_io.specs.Transfer.{whole_pieces, after_pieces}
use Rattle.lid_base_io.proofs.Came.{both_came, part_came, some_of_first_came}
use Rattle.lid_base_io.proofs.Cutting.{pieces_end}
use Rattle.lid_base_io.proofs.Passing.{whole_and_after}

-- whole pieces were written of what was held, which was nothing, and of the text; what is held now is
-- written after them
module _ {A E : Type 0} (result : Result A E) (old now new : Option (List ℕ)) (held text rest : List ℕ) (none : held ≡ []) (pieces : Appended old now (whole_pieces (held ++ text))) (left : rest ≡ after_pieces (held ++ text)) where
  all : whole_pieces (held ++ text) ++ rest ≡ text
  all = ap (λ xs. whole_pieces (held ++ text) ++ xs) left ∙ whole_and_after (held ++ text) ∙ ap (λ xs. xs ++ text) none

  pub passed_whole : OnOk result (Appended now new rest) → OnOk result (Appended old new text)
  passed_whole h = on_ok result (λ p. subst (λ xs. Appended old new xs) all (both_written old now new (whole_pieces (held ++ text)) rest pieces p)) h

  pub passed_in_part : OnErr result (AppendedPrefix now new rest) → OnErr result (AppendedPrefix old new text)
  passed_in_part h = on_err result (λ p. subst (λ xs. AppendedPrefix old new xs) all (first_and_part old now new (whole_pieces (held ++ text)) rest pieces p)) h

-- the pieces of these writes
module _ (old now : Option (List (List ℕ))) (held text : List ℕ) (none : held ≡ []) where
  text_is : held ++ text ≡ text
  text_is = ap (λ (xs : List ℕ). xs ++ text) none

  -- some first of the full ones
  pub begun_in_pieces : CamePrefix old now (full_pieces (held ++ text)) → CamePrefix old now (pieces_of text)
  begun_in_pieces came =
      some_of_first_came old now (full_pieces (held ++ text)) (pieces_of (after_pieces (held ++ text))) (pieces_of text) came
      (sym (pieces_end (held ++ text)) ∙ ap (λ (xs : List ℕ). pieces_of xs) text_is)

  module _ (new : Option (List (List ℕ))) (rest : List ℕ) (left : rest ≡ after_pieces (held ++ text)) (first : Came old now (full_pieces (held ++ text))) (last : Came now new (pieces_of rest)) where
    pub whole_in_pieces : Came old new (pieces_of text)
    whole_in_pieces =
        subst (λ (xs : List (List ℕ)). Came old new xs)
        (ap (λ (xs : List ℕ). full_pieces (held ++ text) ++ pieces_of xs) left ∙ sym (pieces_end (held ++ text)) ∙ ap (λ (xs : List ℕ). pieces_of xs) text_is)
        (both_came old now new (full_pieces (held ++ text)) (pieces_of rest) first last)

    -- the last write failed
    pub all_begun : CamePrefix old new (pieces_of text)
    all_begun = part_came old new (pieces_of text) [] (pieces_of text) whole_in_pieces (append-nil (pieces_of text))
