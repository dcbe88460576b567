-- A logical line is judged after those before it.
use Rattle.std.proofs.Common.{◌≡◌, ℕ, zero, suc, ◌+◌, ◌<◌, ◌≤◌, Bool, true, false, cond, List, [], ◌∷◌, ◌++◌, length, Option, None, inl, inr, sym, ap, ◌∙◌, length-append, subst, arith}
use Rattle.std.specs.Prelude.{is_some, min}
use Rattle.std.proofs.lemmas.List.{append-nil}
use Rattle.lid_texts.specs.declared.rows.VecFault.{VecFault}
use Rattle.lid_texts.specs.declared.walk.RowWalk.{RowWalk}
use Rattle.lid_texts.specs.Rows.{RowsLine, has_words, row_bits, first_some, line_faults}
use Rattle.lid_texts.specs.Scans.{sound_rows}
use Rattle.lid_texts.specs.RowsWalk.{line_fault, IsKeptFault, if_logical, RowsGrow, AreSound, AreJudged}
use Rattle.lid_texts.proofs.Faulted.{first_last, row_of, faults_last, fine_last, rows_last, rows_last_faulty}
use Rattle.lid_base.proofs.Options.{none_of}

module _ (columns : List (List ℕ)) (outs : ℕ) (lines : List RowsLine) (line : RowsLine) where
  -- the fault of the line, by how many lines were judged
  fault_is : (walk : RowWalk) → AreSound columns outs lines walk → first_some (line_faults columns outs (lines ++ line ∷ [])) ≡ line_fault columns outs walk.judged line
  fault_is walk sound =
      ap first_some (faults_last columns outs lines line)
      ∙ first_last (line_faults columns outs lines) (line_fault columns outs (length lines) line) sound.sound
      ∙ ap (λ (n : ℕ). line_fault columns outs n line) (sym sound.judged)

  with_line : has_words line ≡ true → lines ++ line ∷ [] ≡ lines ++ if_logical line
  with_line some = sym (ap (λ (b : Bool). lines ++ cond b (line ∷ []) []) some)

  pub judged_faulty : (walk new : RowWalk) → has_words line ≡ true → AreSound columns outs lines walk → IsKeptFault line.number new.fault (line_fault columns outs walk.judged line) → is_some new.fault ≡ true →
      AreJudged columns outs line.number (lines ++ if_logical line) new
  judged_faulty walk new some sound kept faulty =
      subst (λ (ls : List RowsLine). AreJudged columns outs line.number ls new) (with_line some)
      (inr (record {
        some = faulty;
        kept = subst (IsKeptFault line.number new.fault) (sym (fault_is walk sound)) kept;
      }))

  fault_here : (walk : RowWalk) → AreSound columns outs lines walk → line_fault columns outs walk.judged line ≡ line_fault columns outs (length lines) line
  fault_here walk sound = ap (λ (n : ℕ). line_fault columns outs n line) sound.judged

  pub grown_faulty : (walk : RowWalk) (kept : Option VecFault) (rows : List (List Bool)) → has_words line ≡ true → AreSound columns outs lines walk → IsKeptFault line.number kept (line_fault columns outs walk.judged line) → is_some kept ≡ true →
      RowsGrow columns outs lines (lines ++ if_logical line) rows rows
  grown_faulty walk kept rows some sound is faulty =
      let at : is_some (line_fault columns outs (length lines) line) ≡ true = sym (ap (λ (o : Option VecFault). is_some o) (fault_here walk sound)) ∙ sym is.some ∙ faulty in
      record {
        rows = [];
        appended = sym (append-nil rows);
        all = ap (sound_rows columns outs) (sym (with_line some)) ∙ rows_last_faulty columns outs lines line sound.sound at ∙ sym (append-nil (sound_rows columns outs lines));
      }

  fine_here : (walk : RowWalk) (kept : Option VecFault) → AreSound columns outs lines walk → IsKeptFault line.number kept (line_fault columns outs walk.judged line) → is_some kept ≡ false → line_fault columns outs (length lines) line ≡ None
  fine_here walk kept sound is fine =
      none_of (line_fault columns outs (length lines) line) (sym (ap (λ (o : Option VecFault). is_some o) (fault_here walk sound)) ∙ sym is.some ∙ fine)

  pub judged_fine : (walk new : RowWalk) → has_words line ≡ true → AreSound columns outs lines walk → IsKeptFault line.number new.fault (line_fault columns outs walk.judged line) → is_some new.fault ≡ false → walk.judged ≤ 1000000 →
      new.judged ≡ min (walk.judged + 1) 4294967295 → AreJudged columns outs line.number (lines ++ if_logical line) new
  judged_fine walk new some sound kept fine few more =
      let judged = sound.judged in
      let number : new.judged ≡ length (lines ++ line ∷ []) = simp length-append (omega arith) in
      let most : length (lines ++ line ∷ []) ≤ 1000001 = simp length-append (omega arith) in
      subst (λ (ls : List RowsLine). AreJudged columns outs line.number ls new) (with_line some)
      (inl (record {
        none = none_of new.fault fine;
        judged = number;
        few = most;
        sound = fine_last columns outs lines line sound.sound (fine_here walk new.fault sound kept fine);
      }))

  pub grown_fine : (walk : RowWalk) (kept : Option VecFault) (old new : List (List Bool)) → has_words line ≡ true → AreSound columns outs lines walk → IsKeptFault line.number kept (line_fault columns outs walk.judged line) → is_some kept ≡ false →
      (walk.judged ≡ 0 → new ≡ old) → (0 < walk.judged → new ≡ old ++ row_bits columns line ∷ []) → RowsGrow columns outs lines (lines ++ if_logical line) old new
  grown_fine walk kept old new some sound is fine first row =
      record {
        rows = row_of columns (length lines) line;
        appended = by (length lines) sound.judged;
        all = ap (sound_rows columns outs) (sym (with_line some)) ∙ rows_last columns outs lines line sound.sound (fine_here walk kept sound is fine);
      }
    where
      by : (n : ℕ) → walk.judged ≡ n → new ≡ old ++ row_of columns n line
      by zero e = first e ∙ sym (append-nil old)
      by (suc n) e = row (omega arith)
