-- A physical line is taken after those before it.
use Rattle.std.proofs.Common.{◌≡◌, ℕ, ◌+◌, ◌<◌, ◌≤◌, ◌^◌, Bool, true, false, List, [], ◌∷◌, ◌++◌, length, inl, inr, sym, ap, ◌∙◌, length-append, subst, arith}
use Rattle.std.specs.Prelude.{min}
use Rattle.lid_base.specs.Lines.{goes_on}
use Rattle.lid_texts.specs.declared.walk.RowWalk.{RowWalk}
use Rattle.lid_texts.specs.Rows.{RowsLine}
use Rattle.lid_texts.specs.Scans.{logical_of, sound_rows}
use Rattle.lid_texts.specs.RowsWalk.{joined_lines, alone, no_line, if_logical, begun_of, with_last, RowsGrow, AreSound, IsFaulty, AreJudged, WalkGoes, IsWalked}
use Rattle.lid_texts.proofs.Splits.{last_number, logical_ends, logical_goes_on, begun_ends, begun_goes_on}
use Rattle.std.proofs.lemmas.List.{append-nil}

module _ (columns : List (List ℕ)) (outs : ℕ) (lines : List (List ℕ)) (line : List ℕ) where
  -- the line that is begun then
  added : (walk : RowWalk) (n : ℕ) (begun : RowsLine) → length lines + 1 < 2 ^ 64 → WalkGoes columns outs lines walk → n ≡ min (walk.number + 1) 18446744073709551615 → begun ≡ joined_lines walk.begun (alone n line) →
      begun ≡ joined_lines (begun_of lines) (alone (length lines + 1) line)
  added walk n begun few goes next is =
      let number = goes.number in
      let more : n ≡ length lines + 1 = omega arith in
      is ∙ ap (λ (l : RowsLine). joined_lines l (alone n line)) goes.begun ∙ ap (λ (k : ℕ). joined_lines (begun_of lines) (alone k line)) more

  number_more : (old new : ℕ) → length lines + 1 < 2 ^ 64 → old ≡ length lines → new ≡ min (old + 1) 18446744073709551615 → new ≡ length (lines ++ line ∷ [])
  number_more old new few is more = simp length-append (omega arith)

  pub goes_on_walked : (walk new : RowWalk) → length lines + 1 < 2 ^ 64 → goes_on line ≡ true → WalkGoes columns outs lines walk →
      new.begun ≡ joined_lines walk.begun (alone new.number line) → new.number ≡ min (walk.number + 1) 18446744073709551615 → new.judged ≡ walk.judged → new.fault ≡ walk.fault →
      IsWalked columns outs (lines ++ line ∷ []) new
  goes_on_walked walk new few on goes begun number judged fault =
      inl (record {
        number = number_more walk.number new.number few goes.number number;
        begun = added walk new.number new.begun few goes number begun ∙ sym (begun_goes_on lines line on);
        sound = subst (λ (ls : List RowsLine). AreSound columns outs ls new) (sym (logical_goes_on lines line on)) (record {
          none = fault ∙ goes.sound.none;
          judged = judged ∙ goes.sound.judged;
          few = goes.sound.few;
          sound = goes.sound.sound;
        });
      })

  pub goes_on_rows : (rows : List (List Bool)) → goes_on line ≡ true → RowsGrow columns outs (logical_of lines) (logical_of (lines ++ line ∷ [])) rows rows
  goes_on_rows rows on =
      record {
        rows = [];
        appended = sym (append-nil rows);
        all = ap (sound_rows columns outs) (logical_goes_on lines line on) ∙ sym (append-nil (sound_rows columns outs (logical_of lines)));
      }

  -- the walk before its begun line ends
  pub sound_with : (walk new : RowWalk) → WalkGoes columns outs lines walk → new.judged ≡ walk.judged → new.fault ≡ walk.fault → AreSound columns outs (logical_of lines) new
  sound_with walk new goes judged fault = record { none = fault ∙ goes.sound.none; judged = judged ∙ goes.sound.judged; few = goes.sound.few; sound = goes.sound.sound }

  with_begun : (begun : RowsLine) → begun ≡ joined_lines (begun_of lines) (alone (length lines + 1) line) → logical_of lines ++ if_logical begun ≡ with_last lines line
  with_begun begun is = ap (λ (l : RowsLine). logical_of lines ++ if_logical l) is

  -- the last line is judged
  pub last_judged : (walk new : RowWalk) (n : ℕ) (begun : RowsLine) → length lines + 1 < 2 ^ 64 → WalkGoes columns outs lines walk → n ≡ min (walk.number + 1) 18446744073709551615 → begun ≡ joined_lines walk.begun (alone n line) →
      AreJudged columns outs begun.number (logical_of lines ++ if_logical begun) new → AreJudged columns outs (length lines + 1) (with_last lines line) new
  last_judged walk new n begun few goes next is judged =
      let whole = added walk n begun few goes next is in
      let low : begun.number ≤ length lines + 1 = subst (λ (l : RowsLine). l.number ≤ length lines + 1) (sym whole) (last_number lines line) in
      let all = subst (λ (ls : List RowsLine). AreJudged columns outs begun.number ls new) (with_begun begun whole) judged in
      elim all [
        | inl sound ↦ inl sound
        | inr faulty ↦ inr (record { some = faulty.some; kept = record { some = faulty.kept.some; same = λ few. faulty.kept.same (omega arith) } })
      ]

  pub last_rows : (walk : RowWalk) (n : ℕ) (begun : RowsLine) (old new : List (List Bool)) → length lines + 1 < 2 ^ 64 → WalkGoes columns outs lines walk → n ≡ min (walk.number + 1) 18446744073709551615 → begun ≡ joined_lines walk.begun (alone n line) →
      RowsGrow columns outs (logical_of lines) (logical_of lines ++ if_logical begun) old new → RowsGrow columns outs (logical_of lines) (with_last lines line) old new
  last_rows walk n begun old new few goes next is grow = subst (λ (ls : List RowsLine). RowsGrow columns outs (logical_of lines) ls old new) (with_begun begun (added walk n begun few goes next is)) grow

  pub ends_walked : (walk new : RowWalk) → length lines + 1 < 2 ^ 64 → goes_on line ≡ false → WalkGoes columns outs lines walk → new.begun ≡ no_line → new.number ≡ min (walk.number + 1) 18446744073709551615 →
      AreJudged columns outs (length lines + 1) (with_last lines line) new → IsWalked columns outs (lines ++ line ∷ []) new
  ends_walked walk new few last goes begun number judged =
      let long : length lines + 1 ≡ length (lines ++ line ∷ []) = simp length-append (omega arith) in
      let all = subst (λ (ls : List RowsLine). AreJudged columns outs (length lines + 1) ls new) (sym (logical_ends lines line last)) judged in
      elim all [
        | inl sound ↦ inl (record { number = number_more walk.number new.number few goes.number number; begun = begun ∙ sym (begun_ends lines line last); sound = sound })
        | inr faulty ↦ inr (subst (λ (n : ℕ). IsFaulty columns outs n (logical_of (lines ++ line ∷ [])) new) long faulty)
      ]

  pub ends_rows : (old new : List (List Bool)) → goes_on line ≡ false → RowsGrow columns outs (logical_of lines) (with_last lines line) old new → RowsGrow columns outs (logical_of lines) (logical_of (lines ++ line ∷ [])) old new
  ends_rows old new last grow = subst (λ (ls : List RowsLine). RowsGrow columns outs (logical_of lines) ls old new) (sym (logical_ends lines line last)) grow
