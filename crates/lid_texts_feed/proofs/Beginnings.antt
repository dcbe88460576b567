-- The rows of the lines that have ended: they come first in what a longer text stands for, and each is
-- as wide as the columns.
use Rattle.std.proofs.Common.{◌≡◌, ℕ, suc, ◌+◌, nat_lt, Bool, true, false, cond, if◌then◌else◌, List, [], ◌∷◌, ◌++◌, length, map, take, drop, filter, Option, Some, None, Result, Ok, Err, refl, sym, ap, ◌∙◌, subst, arith}
use Rattle.std.specs.Prelude.{is_none}
use Rattle.std.specs.List.{AllByRecursion, enumerate_from, prefix_len, slice_split}
use Rattle.lid_base.specs.Lists.{Extends}
use Rattle.lid_base.specs.declared.which.Which.TheVariants.{FileBytes}
use Rattle.lid_base.specs.Lines.{is_newline, joins_of, physical_lines}
use Rattle.lid_texts.specs.declared.rows.Rows.{Rows}
use Rattle.lid_texts.specs.declared.rows.VecFault.{VecFault}
use Rattle.lid_texts.specs.declared.rows.VecFault.TheVariants.{Limit}
use Rattle.lid_texts.specs.Rows.{RowsLine, rows_line, has_words, header_fault, row_fault, row_bits, line_faults, lines_fault, ok_unless, bits_reading, under_columns, rows_lines, rows_reading}
use Rattle.lid_texts.specs.Scans.{ended_lines, logical_of, sound_rows, ended_rows}
use Rattle.lid_texts.specs.RowsWalk.{joined_lines, alone, if_logical, begun_of}
use Rattle.lid_texts.proofs.Splits.{ended_are, last_part, some_parts, ended_more, logical_more, whole_last}
use Rattle.lid_texts.proofs.Faulted.{fine_of_none, rows_fine, rows_more}
use Rattle.lid_texts.proofs.Limits.{row_fault_None}

abbrev bits_of : Result Rows VecFault → List (List Bool)
bits_of (Ok rows) = rows.bits
bits_of (Err fault) = []

pub same_bits : (a b : Rows) → ◌≡◌ {A = Result Rows VecFault} (Ok a) (Ok b) → a.bits ≡ b.bits
same_bits a b e = ap bits_of e

module _ (columns : List (List ℕ)) (outs : ℕ) where
  -- more bytes end more rows
  pub rows_go_on : (bytes more : List ℕ) → Extends (ended_rows columns outs bytes) (ended_rows columns outs (bytes ++ more))
  unfolding ended_rows
  rows_go_on bytes more =
      let lines = ended_more bytes more in
      let logical = logical_more (ended_lines bytes) lines.0 in
      let later = rows_more columns outs (logical_of (ended_lines bytes)) logical.0 in
      (later.0, ap (λ (ls : List (List ℕ)). sound_rows columns outs (logical_of ls)) lines.1 ∙ ap (sound_rows columns outs) logical.1 ∙ later.1)

  -- lines that stand for rows are all sound
  all_sound : (ls : List RowsLine) (rows : Rows) → under_columns columns (bits_reading columns outs ls) ≡ Ok rows → rows.bits ≡ sound_rows columns outs ls
  unfolding bits_reading
  all_sound [] rows reads = absurd (cc)
  all_sound (l ∷ ls) rows reads = by (lines_fault columns outs (l ∷ ls)) refl reads
    where
      by : (o : Option VecFault) → lines_fault columns outs (l ∷ ls) ≡ o → under_columns columns (ok_unless o (map (row_bits columns) ls)) ≡ Ok rows → rows.bits ≡ sound_rows columns outs (l ∷ ls)
      by (Some fault) e reads = absurd (cc)
      by None e reads = sym (ap bits_of reads) ∙ sym (rows_fine columns outs (l ∷ ls) (fine_of_none (line_faults columns outs (l ∷ ls)) e))

  -- the rows of a text are those of its logical lines
  read_lines : (bytes : List ℕ) (rows : Rows) → rows_reading columns outs bytes ≡ Ok rows → rows.bits ≡ sound_rows columns outs (rows_lines bytes)
  unfolding rows_reading
  read_lines bytes rows reads = by (nat_lt 67108864 (length bytes)) reads
    where
      by : (b : Bool) → (if b then Err (Limit FileBytes (length bytes)) else under_columns columns (bits_reading columns outs (rows_lines bytes))) ≡ Ok rows → rows.bits ≡ sound_rows columns outs (rows_lines bytes)
      by true reads = absurd (cc)
      by false reads = all_sound (rows_lines bytes) rows reads

  -- the logical lines of a text are those that have ended, and its last
  whole_lines : (bytes : List ℕ) → Extends (logical_of (ended_lines bytes)) (rows_lines bytes)
  unfolding rows_lines physical_lines
  whole_lines bytes =
      let own = last_part (slice_split is_newline bytes) (some_parts bytes) in
      let ended = ended_are bytes own.front own.last own.is in (
        if_logical (joined_lines (begun_of own.front) (alone (length own.front + 1) own.last)),
        ap (λ (ps : List (List ℕ)). filter has_words (map rows_line (joins_of (enumerate_from 1 ps)))) own.is
            ∙ whole_last own.front own.last
            ∙ ap (λ (ls : List (List ℕ)). logical_of ls ++ if_logical (joined_lines (begun_of own.front) (alone (length own.front + 1) own.last))) (sym ended),
      )

  -- a text that stands for rows begins with those of the lines that have ended
  pub reading_begins : (bytes : List ℕ) (rows : Rows) → rows_reading columns outs bytes ≡ Ok rows → Extends (ended_rows columns outs bytes) rows.bits
  unfolding ended_rows
  reading_begins bytes rows reads =
      let whole = whole_lines bytes in
      let later = rows_more columns outs (logical_of (ended_lines bytes)) whole.0 in
      (later.0, read_lines bytes rows reads ∙ ap (sound_rows columns outs) whole.1 ∙ later.1)

  -- each row is as wide as the columns
  abbrev pub AreWide : List (List Bool) → Type 0
  AreWide rows = AllByRecursion (λ row. length row ≡ length columns) rows

  rows_wide : (k : ℕ) (ls : List RowsLine) → AreWide (map (row_bits columns) (take (prefix_len is_none (map (λ (p : ℕ × RowsLine). row_fault columns outs p.0 p.1) (enumerate_from k ls))) ls))
  rows_wide k [] = tt
  rows_wide k (l ∷ ls) = by (row_fault columns outs k l) refl (rows_wide (k + 1) ls)
    where
      by : (o : Option VecFault) → row_fault columns outs k l ≡ o
          → AreWide (map (row_bits columns) (take (prefix_len is_none (map (λ (p : ℕ × RowsLine). row_fault columns outs p.0 p.1) (enumerate_from (k + 1) ls))) ls))
          → AreWide (map (row_bits columns) (take (cond (is_none o) (1 + prefix_len is_none (map (λ (p : ℕ × RowsLine). row_fault columns outs p.0 p.1) (enumerate_from (k + 1) ls))) 0) (l ∷ ls)))
      by (Some fault) e later = tt
      by None e later =
          let n = prefix_len is_none (map (λ (p : ℕ × RowsLine). row_fault columns outs p.0 p.1) (enumerate_from (k + 1) ls)) in
          let number : suc n ≡ 1 + n = omega arith in
          subst (λ (m : ℕ). AreWide (map (row_bits columns) (take m (l ∷ ls)))) number ((row_fault_None columns outs k l e).wide, later)

  sound_wide : (ls : List RowsLine) → AreWide (sound_rows columns outs ls)
  sound_wide [] = tt
  sound_wide (l ∷ ls) = by (header_fault columns l)
    where
      by : (o : Option VecFault) → AreWide (map (row_bits columns) (drop 1 (take (cond (is_none o) (1 + prefix_len is_none (map (λ (p : ℕ × RowsLine). row_fault columns outs p.0 p.1) (enumerate_from 1 ls))) 0) (l ∷ ls))))
      by (Some fault) = tt
      by None =
          let n = prefix_len is_none (map (λ (p : ℕ × RowsLine). row_fault columns outs p.0 p.1) (enumerate_from 1 ls)) in
          let number : suc n ≡ 1 + n = omega arith in
          subst (λ (m : ℕ). AreWide (map (row_bits columns) (drop 1 (take m (l ∷ ls))))) number (rows_wide 1 ls)

  pub ended_wide : (bytes : List ℕ) → AreWide (ended_rows columns outs bytes)
  unfolding ended_rows
  ended_wide bytes = sound_wide (logical_of (ended_lines bytes))

  pub reading_wide : (bytes : List ℕ) (rows : Rows) → rows_reading columns outs bytes ≡ Ok rows → AreWide rows.bits
  reading_wide bytes rows reads = subst AreWide (sym (read_lines bytes rows reads)) (sound_wide (rows_lines bytes))
