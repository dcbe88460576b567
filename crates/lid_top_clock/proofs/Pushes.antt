-- A text that is pushed line by line.
use Rattle.std.proofs.Common.{◌≡◌, ℕ, List, [], ◌++◌, Option, Some, None, refl, sym, ◌∙◌, ap, subst, append_assoc, append-nil}
use Rattle.lid_base.specs.Outside.{Appended, AppendedPrefix, Came, CamePrefix}
use Rattle.lid_base.proofs.Writes.{both_written, first_and_part, part_of_first}
use Rattle.lid_base_io.specs.Calls.{pieces_of, full_pieces}
use Rattle.lid_base_io.specs.Transfer.{whole_pieces, after_pieces}
use Rattle.lid_base_io.proofs.Came.{none_came, both_came, part_came, first_and_some_came, some_of_first_came}
use Rattle.lid_base_io.proofs.Cutting.{full_split, pieces_split, pieces_end, after_split, whole_split}
use Rattle.lid_base_io.proofs.Passing.{nothing_added, whole_and_after}
use Rattle.lid_top_clock.specs.Pushing.{HasPushed, WritesFirst, Adds, Breaks, BreaksAtEnd, Closes}

nothing_of : (now : Option (List ℕ)) (text : List ℕ) → AppendedPrefix now now text
nothing_of None text = tt
nothing_of (Some b) text = (0, ap Some (sym (append-nil b)))

-- what was written and what is held, with what is pushed next
pushed_next : (pushed held text : List ℕ) → held ≡ after_pieces pushed → whole_pieces pushed ++ (held ++ text) ≡ pushed ++ text
pushed_next pushed held text is =
    ap (λ (xs : List ℕ). whole_pieces pushed ++ (xs ++ text)) is
    ∙ sym (append_assoc (whole_pieces pushed) (after_pieces pushed) text)
    ∙ ap (λ (xs : List ℕ). xs ++ text) (whole_and_after pushed)

-- the full pieces of what was pushed, and then those of what is held with what is pushed next
full_next : (pushed held text : List ℕ) → held ≡ after_pieces pushed → full_pieces (pushed ++ text) ≡ full_pieces pushed ++ full_pieces (held ++ text)
full_next pushed held text is = full_split pushed text ∙ ap (λ (xs : List ℕ). full_pieces pushed ++ full_pieces (xs ++ text)) (sym is)

module _ {O : Type 0} (written : O → Option (List ℕ)) (pieces : O → Option (List (List ℕ))) where
  -- nothing was pushed and nothing is held
  pub pushes_begin : (now : O) → HasPushed written pieces now now [] []
  unfolding whole_pieces after_pieces
  pushes_begin now = record { appended = nothing_added (written now); came = none_came (pieces now); rest = refl }

  -- nothing was written
  pub writes_none : (now : O) (text : List ℕ) (calls : List (List ℕ)) → WritesFirst written pieces now now text calls
  writes_none now text calls = record { appended = nothing_of (written now) text; came = (0, none_came (pieces now)) }

  -- what was pushed is written at least in part
  pub pushed_part : (before now : O) (held text : List ℕ) → HasPushed written pieces before now held text → WritesFirst written pieces before now text (full_pieces text)
  pushed_part before now held text p = record {
    appended =
        subst (λ (xs : List ℕ). AppendedPrefix (written before) (written now) xs) (ap (λ (xs : List ℕ). whole_pieces text ++ xs) p.rest ∙ whole_and_after text)
        (first_and_part (written before) (written now) (written now) (whole_pieces text) held p.appended (nothing_of (written now) held));
    came = part_came (pieces before) (pieces now) (full_pieces text) [] (full_pieces text) p.came (append-nil (full_pieces text));
  }

  -- a first part of a text is one of a longer text
  pub part_of_longer : (before now : O) (first second : List ℕ) → WritesFirst written pieces before now first (full_pieces first) → WritesFirst written pieces before now (first ++ second) (pieces_of (first ++ second))
  part_of_longer before now first second w = record {
    appended = part_of_first (written before) (written now) first second w.appended;
    came = some_of_first_came (pieces before) (pieces now) (full_pieces first) (pieces_of (after_pieces first ++ second)) (pieces_of (first ++ second)) w.came (sym (pieces_split first second));
  }

  module _ (old new : O) (held text : List ℕ) where
    pub adds : (rest : List ℕ) → Appended (written old) (written new) (whole_pieces (held ++ text)) → rest ≡ after_pieces (held ++ text) → Came (pieces old) (pieces new) (full_pieces (held ++ text)) → Adds written pieces old new held rest text
    adds rest a e calls = λ before pushed p. record {
      appended =
          subst (λ (xs : List ℕ). Appended (written before) (written new) xs) (sym (whole_split pushed text ∙ ap (λ (xs : List ℕ). whole_pieces pushed ++ whole_pieces (xs ++ text)) (sym p.rest)))
          (both_written (written before) (written old) (written new) (whole_pieces pushed) (whole_pieces (held ++ text)) p.appended a);
      came =
          subst (λ (xs : List (List ℕ)). Came (pieces before) (pieces new) xs) (sym (full_next pushed held text p.rest))
          (both_came (pieces before) (pieces old) (pieces new) (full_pieces pushed) (full_pieces (held ++ text)) p.came calls);
      rest = e ∙ ap (λ (xs : List ℕ). after_pieces (xs ++ text)) p.rest ∙ sym (after_split pushed text);
    }

    pub breaks : AppendedPrefix (written old) (written new) (held ++ text) → CamePrefix (pieces old) (pieces new) (full_pieces (held ++ text)) → Breaks written pieces old new held text
    breaks a calls = λ before pushed p. record {
      appended =
          subst (λ (xs : List ℕ). AppendedPrefix (written before) (written new) xs) (pushed_next pushed held text p.rest)
          (first_and_part (written before) (written old) (written new) (whole_pieces pushed) (held ++ text) p.appended a);
      came =
          first_and_some_came (pieces before) (pieces old) (pieces new) (full_pieces pushed) (full_pieces (held ++ text)) [] (full_pieces (pushed ++ text)) p.came calls
          (ap (λ (xs : List (List ℕ)). full_pieces pushed ++ xs) (append-nil (full_pieces (held ++ text))) ∙ sym (full_next pushed held text p.rest));
    }

    -- a break is one at the end too
    pub breaks_last : Breaks written pieces old new held text → BreaksAtEnd written pieces old new held text
    breaks_last b = λ before pushed p.
        let w : WritesFirst written pieces before new (pushed ++ text) (full_pieces (pushed ++ text)) = b before pushed p in
        record {
          appended = w.appended;
          came = some_of_first_came (pieces before) (pieces new) (full_pieces (pushed ++ text)) (pieces_of (after_pieces (pushed ++ text))) (pieces_of (pushed ++ text)) w.came (sym (pieces_end (pushed ++ text)));
        }

  -- nothing was pushed for want of memory
  pub breaks_off : (old : O) (held text : List ℕ) → Breaks written pieces old old held text
  breaks_off old held text = breaks old old held text (nothing_of (written old) (held ++ text)) (0, none_came (pieces old))

  -- what is held is written in the end
  module _ (old mid new : O) (held rest text : List ℕ) (add : Adds written pieces old mid held rest text) (calls : Came (pieces mid) (pieces new) (pieces_of rest)) where
    module _ (before : O) (pushed : List ℕ) (p : HasPushed written pieces before old held pushed) where
      q : HasPushed written pieces before mid rest (pushed ++ text)
      q = add before pushed p

      all : whole_pieces (pushed ++ text) ++ rest ≡ pushed ++ text
      all = ap (λ (xs : List ℕ). whole_pieces (pushed ++ text) ++ xs) q.rest ∙ whole_and_after (pushed ++ text)

      all_came : Came (pieces before) (pieces new) (pieces_of (pushed ++ text))
      all_came =
          subst (λ (xs : List (List ℕ)). Came (pieces before) (pieces new) xs) (ap (λ (xs : List ℕ). full_pieces (pushed ++ text) ++ pieces_of xs) q.rest ∙ sym (pieces_end (pushed ++ text)))
          (both_came (pieces before) (pieces mid) (pieces new) (full_pieces (pushed ++ text)) (pieces_of rest) q.came calls)

    pub closes : Appended (written mid) (written new) rest → Closes written pieces old new held text
    closes a = λ before pushed p. (
      subst (λ (xs : List ℕ). Appended (written before) (written new) xs) (all before pushed p)
          (both_written (written before) (written mid) (written new) (whole_pieces (pushed ++ text)) rest (q before pushed p).appended a),
      all_came before pushed p,
    )

    pub breaks_late : AppendedPrefix (written mid) (written new) rest → BreaksAtEnd written pieces old new held text
    breaks_late a = λ before pushed p. record {
      appended =
          subst (λ (xs : List ℕ). AppendedPrefix (written before) (written new) xs) (all before pushed p)
          (first_and_part (written before) (written mid) (written new) (whole_pieces (pushed ++ text)) rest (q before pushed p).appended a);
      came = part_came (pieces before) (pieces new) (pieces_of (pushed ++ text)) [] (pieces_of (pushed ++ text)) (all_came before pushed p) (append-nil (pieces_of (pushed ++ text)));
    }
