-- What a run has told between its cycles, and in the end.
use Rattle.std.proofs.Common.{◌≡◌, ◌↔◌, ℕ, ◌+◌, ◌-◌, ◌<◌, ◌≤◌, ◌==◌, ◌⊎◌, inl, inr, Bool, true, false, List, [], ◌++◌, length, Option, Some, Result, Ok, Err, OnErr, IfErr, refl, sym, ◌∙◌, ap, subst, append_assoc, append-nil, add-one, true≢false, arith}
use Rattle.std.specs.List.{flat_map}
use Rattle.std.proofs.lemmas.Bool.Decides.{eqb_tells}
use Rattle.lid_base.specs.Outside.{Rose, Appended, Came}
use Rattle.lid_base_io.specs.Calls.{pieces_of, full_pieces}
use Rattle.lid_base.specs.Each.{from_each}
use Rattle.lid_graph.specs.Firings.{firings}
use Rattle.lid_system.specs.Streams.{output_row}
use Rattle.lid_base_lines.specs.Texts.{line_text}
use Rattle.lid_texts.specs.Rows.{header_words}
use Rattle.lid_texts.specs.RowsText.{row_text, rows_text}
use Rattle.lid_clock.specs.Lives.{Life, IsBelow, HasSunk, IsLast, fired_after, sink}
use Rattle.lid_stall_text.specs.Holds.{Ascend, listed}
use Rattle.lid_texts_feed.specs.declared.fault.FeedFault.{FeedFault}
use Rattle.lid_texts_feed.specs.declared.fault.FeedFault.TheVariants as feeds
use Rattle.lid_texts_feed.specs.Feeds.{IfRead}
use Rattle.lid_texts_feed.specs.declared.feed.RowFeed.{RowFeed}
use Rattle.lid_top_clock.specs.declared.fault.RunFault.{RunFault}
use Rattle.lid_top_clock.specs.declared.fault.RunFault.TheVariants.{Feed, Few, Memory, Write}
use Rattle.lid_top_clock.specs.declared.lines.Telling.{Telling}
use Rattle.lid_top_clock.specs.declared.steps.Running.{Running}
use Rattle.lid_top_clock.specs.RunTexts.{first_outputs, end_text}
use Rattle.lid_top_clock.specs.Runnings.{ClockRun, LifeBegins, Writes, WritesPart, HasStopped, IsRunCause}
use Rattle.lid_top_clock.specs.Pushing.{HasPushed, WritesFirst, Adds, Breaks, BreaksAtEnd, Closes, IsTellCause, last_text}
use Rattle.lid_top_clock.specs.Courses.{RanBy}
use Rattle.lid_top_clock.specs.Stepping.{IsFed, HasNotEnded, HasTold}
use Rattle.lid_top_clock.proofs.Outputs.{header_alone, rows_one_more, rows_first}
use Rattle.lid_top_clock.proofs.Ends.{IsFirstAt, sink_within, sink_rests, some_text, text_at}
use Rattle.lid_top_clock.proofs.Pushes.{pushes_begin, writes_none, pushed_part, part_of_longer}

-- a run is told as far as its cycles go
pub record IsTelling {O : Type 0} (written : O → Option (List ℕ)) (pieces : O → Option (List (List ℕ))) (r : ClockRun) (held : Option (List ℕ)) (run : Running) (feed : RowFeed) (telling : Telling) (before now : O) : Type 0 where
  pub given : List (List Bool)
  pub fed : IsFed r held run feed given
  pub told : HasTold r given run.made written pieces before now telling.writer
  pub line : telling.line.items ≡ []

-- a count that rose later, or earlier, rose
pub rose_later : (old mid new : ℕ) → old ≤ mid → Rose mid new → Rose old new
rose_later old mid new least rose = omega (arith, least, rose)

read_later : (reads before : Type 0) → (before → reads) → (fault : FeedFault) → IfRead before fault → IfRead reads fault
read_later reads before on feeds.Read c = on c
read_later reads before on _ c = tt

-- a cause as seen from earlier on
pub cause_later : (r : ClockRun) (rows : List (List Bool)) (reads before writes within : Type 0) (fault : RunFault) → (before → reads) → (within → writes) → IsRunCause r rows before within fault → IsRunCause r rows reads writes fault
cause_later r rows reads before writes within (Feed fault) on also c = (read_later reads before on fault c.0, c.1)
cause_later r rows reads before writes within (Few found) on also c = c
cause_later r rows reads before writes within Memory on also c = tt
cause_later r rows reads before writes within Write on also c = also c

-- a run that stopped, as seen from earlier on
pub stopped_later : {O : Type 0} (written : O → Option (List ℕ)) (pieces : O → Option (List (List ℕ))) (r : ClockRun) (before now : O) (reads later writes : Type 0) (fault : RunFault) → (later → reads) → HasStopped r written pieces before now later writes fault → HasStopped r written pieces before now reads writes fault
stopped_later written pieces r before now reads later writes fault on s = record {
  rows = s.rows;
  given = s.given;
  told = s.told;
  cause = cause_later r s.rows reads later writes writes fault on (λ w. w) s.cause;
}

pub cause_of_telling : (r : ClockRun) (rows : List (List Bool)) (reads before writes : Type 0) (fault : RunFault) → (before → writes) → IsTellCause before fault → IsRunCause r rows reads writes fault
cause_of_telling r rows reads before writes (Feed fault) on c = absurd c
cause_of_telling r rows reads before writes (Few found) on c = absurd c
cause_of_telling r rows reads before writes Memory on c = tt
cause_of_telling r rows reads before writes Write on c = on c

module _ {O : Type 0} (written : O → Option (List ℕ)) (pieces : O → Option (List (List ℕ))) (r : ClockRun) (ascends : Ascend (listed r.stalls)) (given : List (List Bool)) (l : Life) (b : LifeBegins r given l) where
  -- a first part of the text of the first rows was written, and no pieces but full ones
  abbrev Rows : O → O → ℕ → Type 0
  Rows before now n = WritesFirst written pieces before now (rows_text r.columns (first_outputs l n)) (full_pieces (rows_text r.columns (first_outputs l n)))

  -- the text of the first rows is a first part of the text
  pub part_of_rows : (before now : O) (n : ℕ) → n ≤ length l.setup.input → Rows before now n → WritesPart r l written pieces before now
  part_of_rows before now n few w =
      let all = length l.setup.input in
      let t = some_text l b.of.rules r.stalls b.of.held ascends r.columns r.trace in
      let f = output_row l.setup.system l.setup.table in
      let rest = flat_map (row_text r.columns) (from_each f (0 + n) (all - n)) in
      let text = rows_text r.columns (first_outputs l all) ++ end_text l r.stalls r.trace t.0 in
      let whole : rows_text r.columns (first_outputs l n) ++ (rest ++ end_text l r.stalls r.trace t.0) ≡ text =
      sym (ap (λ (xs : List ℕ). xs ++ end_text l r.stalls r.trace t.0) (rows_first r.columns f n all few) ∙ append_assoc (rows_text r.columns (first_outputs l n)) rest (end_text l r.stalls r.trace t.0)) in
      let part : WritesFirst written pieces before now text (pieces_of text) =
      subst (λ (xs : List ℕ). WritesFirst written pieces before now xs (pieces_of xs)) whole
      (part_of_longer written pieces before now (rows_text r.columns (first_outputs l n)) (rest ++ end_text l r.stalls r.trace t.0) w) in
      record { text = text; is = t.1; appended = part.appended; came = part.came }

  pub part_of_fired : (before now : O) (k : ℕ) → Rows before now (fired_after l k (sink l)) → WritesPart r l written pieces before now
  part_of_fired before now k w = part_of_rows before now (fired_after l k (sink l)) (sink_within l b.of.rules k) w

  pub part_of_none : (now : O) → WritesPart r l written pieces now now
  part_of_none now = part_of_rows now now 0 (omega arith) (writes_none written pieces now (rows_text r.columns (first_outputs l 0)) (full_pieces (rows_text r.columns (first_outputs l 0))))

  -- no actor has fired before the first cycle
  none_fired : fired_after l 0 (sink l) ≡ 0
  unfolding firings
  none_fired = refl

  header_is : [] ++ line_text (header_words r.columns) ≡ rows_text r.columns (first_outputs l (fired_after l 0 (sink l)))
  header_is = sym (header_alone r.columns) ∙ ap (λ (n : ℕ). rows_text r.columns (first_outputs l n)) (sym none_fired)

  pub header_told : (columns : List (List ℕ)) → r.columns ≡ columns → (before now : O) (held rest : List ℕ) → held ≡ [] → Adds written pieces before now held rest (line_text (header_words columns)) → HasPushed written pieces before now rest (rows_text r.columns (first_outputs l (fired_after l 0 (sink l))))
  header_told columns named before now held rest none add =
      let told = subst (λ (names : List (List ℕ)). Adds written pieces before now held rest (line_text (header_words names))) (sym named) add in
      subst (λ (xs : List ℕ). HasPushed written pieces before now rest xs) header_is (told before [] (subst (λ (xs : List ℕ). HasPushed written pieces before before xs []) (sym none) (pushes_begin written pieces before)))

  pub header_breaks : (columns : List (List ℕ)) → r.columns ≡ columns → (before now : O) (held : List ℕ) → held ≡ [] → Breaks written pieces before now held (line_text (header_words columns)) → WritesPart r l written pieces before now
  header_breaks columns named before now held none break =
      let told = subst (λ (names : List (List ℕ)). Breaks written pieces before now held (line_text (header_words names))) (sym named) break in
      part_of_fired before now 0
      (subst (λ (xs : List ℕ). WritesFirst written pieces before now xs (full_pieces xs)) header_is
      (told before [] (subst (λ (xs : List ℕ). HasPushed written pieces before before xs []) (sym none) (pushes_begin written pieces before))))

  -- the row of a cycle
  module _ (made : ℕ) (last : Option (List Bool)) (is_last : IsLast l (made + 1) last) where
    row_told : rows_text r.columns (first_outputs l (fired_after l made (sink l))) ++ last_text r.columns last ≡ rows_text r.columns (first_outputs l (fired_after l (made + 1) (sink l)))
    row_told = by (eqb_tells (fired_after l (made + 1) (sink l)) (fired_after l made (sink l) + 1))
      where
        old : ℕ
        old = fired_after l made (sink l)

        new : ℕ
        new = fired_after l (made + 1) (sink l)

        sunk : new ≡ old + 1 → rows_text r.columns (first_outputs l old) ++ last_text r.columns last ≡ rows_text r.columns (first_outputs l new)
        sunk more =
            let row : last ≡ Some (output_row l.setup.system l.setup.table (new - 1)) = is_last.some (made, refl, more) in
            let before : new - 1 ≡ old = omega (arith, more) in
            ap (λ o. rows_text r.columns (first_outputs l old) ++ last_text r.columns o) (row ∙ ap (λ (n : ℕ). Some (output_row l.setup.system l.setup.table n)) before)
            ∙ rows_one_more r.columns (output_row l.setup.system l.setup.table) old
            ∙ ap (λ (n : ℕ). rows_text r.columns (first_outputs l n)) (sym more)

        not_sunk : (new ≡ old + 1 → ⊥) → HasSunk l (made + 1) → ⊥
        not_sunk not s = not (s.2 ∙ ap (λ (j : ℕ). fired_after l j (sink l) + 1) (let e : s.0 ≡ made = (let at = s.1 in omega (arith, at)) in e))

        same : (new ≡ old + 1 → ⊥) → new ≡ old
        same not =
            ap (λ (k : ℕ). fired_after l k (sink l)) (add-one made)
            ∙ sink_rests l b.of.rules made (λ more. not (ap (λ (k : ℕ). fired_after l k (sink l)) (add-one made) ∙ more))

        rests : (new ≡ old + 1 → ⊥) → rows_text r.columns (first_outputs l old) ++ last_text r.columns last ≡ rows_text r.columns (first_outputs l new)
        rests not =
            ap (λ o. rows_text r.columns (first_outputs l old) ++ last_text r.columns o) (is_last.none (not_sunk not))
            ∙ append-nil (rows_text r.columns (first_outputs l old))
            ∙ ap (λ (n : ℕ). rows_text r.columns (first_outputs l n)) (sym (same not))

        by : ((new == old + 1 ≡ true) × (new ≡ old + 1)) ⊎ ((new == old + 1 ≡ false) × (new ≡ old + 1 → ⊥)) → rows_text r.columns (first_outputs l old) ++ last_text r.columns last ≡ rows_text r.columns (first_outputs l new)
        by (inl does) = sunk does.1
        by (inr not) = rests not.1

    module _ (before now new : O) (held : List ℕ) (pushed : HasPushed written pieces before now held (rows_text r.columns (first_outputs l (fired_after l made (sink l))))) where
      pub last_told : (columns : List (List ℕ)) → r.columns ≡ columns → (rest : List ℕ) → Adds written pieces now new held rest (last_text columns last) → HasPushed written pieces before new rest (rows_text r.columns (first_outputs l (fired_after l (made + 1) (sink l))))
      last_told columns named rest add =
          let told = subst (λ (names : List (List ℕ)). Adds written pieces now new held rest (last_text names last)) (sym named) add in
          subst (λ (xs : List ℕ). HasPushed written pieces before new rest xs) row_told (told before _ pushed)

      pub last_breaks : (columns : List (List ℕ)) → r.columns ≡ columns → Breaks written pieces now new held (last_text columns last) → WritesPart r l written pieces before new
      last_breaks columns named break =
          let told = subst (λ (names : List (List ℕ)). Breaks written pieces now new held (last_text names last)) (sym named) break in
          part_of_fired before new (made + 1) (subst (λ (xs : List ℕ). WritesFirst written pieces before new xs (full_pieces xs)) row_told (told before _ pushed))

  -- the end
  module _ (k : ℕ) (busy : (j : ℕ) → j < k → IsBelow l j) (over : IsBelow l k → ⊥) where
    ended : fired_after l k (sink l) ≡ length l.setup.input
    ended = let most = sink_within l b.of.rules k in omega (arith, most, over)

    pub first_end : IsFirstAt (λ j. fired_after l j (sink l)) (length l.setup.input) k
    first_end = record { at = ended; first = first }
      where
        first : (j : ℕ) → fired_after l j (sink l) ≡ length l.setup.input → k ≤ j
        first j is = by (eqb_tells (k - j) 0)
          where
            by : ((k - j == 0 ≡ true) × (k - j ≡ 0)) ⊎ ((k - j == 0 ≡ false) × (k - j ≡ 0 → ⊥)) → k ≤ j
            by (inl none) = let e = none.1 in omega arith
            by (inr some) = let below = busy j (let e = some.1 in omega (arith, e)) in absurd (omega (arith, below, is))

    module _ (before now new : O) (held line : List ℕ) (pushed : HasPushed written pieces before now held (rows_text r.columns (first_outputs l (fired_after l k (sink l))))) (is : line ≡ end_text l r.stalls r.trace k) where
      end_is : rows_text r.columns (first_outputs l (fired_after l k (sink l))) ++ line ≡ rows_text r.columns (first_outputs l (length l.setup.input)) ++ end_text l r.stalls r.trace k
      end_is = ap (λ (n : ℕ). rows_text r.columns (first_outputs l n) ++ line) ended ∙ ap (λ (xs : List ℕ). rows_text r.columns (first_outputs l (length l.setup.input)) ++ xs) is

      pub end_told : Closes written pieces now new held line → Writes r l written pieces before new
      end_told close =
          let text = rows_text r.columns (first_outputs l (length l.setup.input)) ++ end_text l r.stalls r.trace k in
          let both : Appended (written before) (written new) text × Came (pieces before) (pieces new) (pieces_of text) =
          subst (λ (xs : List ℕ). Appended (written before) (written new) xs × Came (pieces before) (pieces new) (pieces_of xs)) end_is (close before _ pushed) in
          record { text = text; is = text_at l b.of.rules r.stalls b.of.held ascends r.columns r.trace k first_end; appended = both.0; came = both.1 }

      pub end_breaks : BreaksAtEnd written pieces now new held line → WritesPart r l written pieces before new
      end_breaks break =
          let text = rows_text r.columns (first_outputs l (length l.setup.input)) ++ end_text l r.stalls r.trace k in
          let part : WritesFirst written pieces before new text (pieces_of text) =
          subst (λ (xs : List ℕ). WritesFirst written pieces before new xs (pieces_of xs)) end_is (break before _ pushed) in
          record { text = text; is = text_at l b.of.rules r.stalls b.of.held ascends r.columns r.trace k first_end; appended = part.appended; came = part.came }

module _ {O : Type 0} (written : O → Option (List ℕ)) (pieces : O → Option (List (List ℕ))) (r : ClockRun) (held : Option (List ℕ)) (run : Running) (feed : RowFeed) (telling : Telling) (before now : O) (t : IsTelling written pieces r held run feed telling before now) where
  -- what was told so far is a first part of the text
  pub told_part : (l : Life) → LifeBegins r t.given l → WritesPart r l written pieces before now
  told_part l b = part_of_fired written pieces r t.fed.running.rules.ascend t.given l b before now run.made (pushed_part written pieces before now telling.writer _ (t.told l b))

  module _ (goes : Bool) (tells : (l : Life) (k g : ℕ) → RanBy l k g run.stream → (goes ≡ true) ↔ IsBelow l k) where
    pub goes_on : goes ≡ true → HasNotEnded r run t.given
    goes_on is l b = (tells l run.made (length t.given) (t.fed.running.lives l b).ran).0 is

    pub is_over : goes ≡ false → (l : Life) → LifeBegins r t.given l → IsBelow l run.made → ⊥
    is_over ends l b below = true≢false (sym ((tells l run.made (length t.given) (t.fed.running.lives l b).ran).1 below) ∙ ends)

    -- where it is over, the line that is pushed last ends the text
    module _ (ends : goes ≡ false) (new : O) (line : List ℕ) (is : (l : Life) → LifeBegins r t.given l → line ≡ end_text l r.stalls r.trace run.made) where
      pub over_told : Closes written pieces now new telling.writer line → (l : Life) → LifeBegins r t.given l → Writes r l written pieces before new
      over_told close l b = end_told written pieces r t.fed.running.rules.ascend t.given l b run.made (t.fed.running.lives l b).busy (is_over ends l b) before now new telling.writer line (t.told l b) (is l b) close

      pub over_breaks : BreaksAtEnd written pieces now new telling.writer line → (l : Life) → LifeBegins r t.given l → WritesPart r l written pieces before new
      over_breaks break l b = end_breaks written pieces r t.fed.running.rules.ascend t.given l b run.made (t.fed.running.lives l b).busy (is_over ends l b) before now new telling.writer line (t.told l b) (is l b) break

-- what holds of a fault, from two facts
pub err_both : {A E P : Type 0} (Q R : E → Type 0) (result : Result A E) → ((e : E) → P → Q e → R e) → OnErr result P → IfErr result Q → IfErr result R
err_both Q R (Ok a) f h k = tt
err_both Q R (Err e) f h k = f e h k
