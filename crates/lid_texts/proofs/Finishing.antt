-- A scan of rows at the end of the text.
use Rattle.std.proofs.Common.{◌≡◌, ℕ, zero, suc, ◌+◌, ◌<◌, ◌≤◌, nat_lt, Bool, true, false, List, [], ◌∷◌, ◌++◌, length, map, drop, filter, Option, Some, None, Ok, Err, inl, inr, refl, sym, ap, ◌∙◌, subst, arith}
use Rattle.std.specs.Prelude.{◌⊎◌, ◌^◌, is_some, if◌then◌else◌, IfOk, IfErr, OnErr}
use Rattle.std.specs.List.{AllByRecursion, slice_split, enumerate_from}
use Rattle.std.proofs.lemmas.Bool.{lt-ltb}
use Rattle.std.proofs.lemmas.List.{length-map}
use Rattle.lid_base.specs.declared.which.Which.TheVariants.{FileBytes}
use Rattle.lid_base.specs.Lines.{is_newline, joins_of, physical_lines}
use Rattle.lid_texts.specs.declared.rows.VecFault.{VecFault}
use Rattle.lid_texts.specs.declared.rows.VecFault.TheVariants.{Header, Limit, Memory}
use Rattle.lid_texts.specs.declared.walk.RowWalk.{RowWalk}
use Rattle.lid_texts.specs.declared.scan.RowScan.{RowScan}
use Rattle.lid_texts.specs.Rows.{RowsLine, rows_line, has_words, first_some, line_faults, ok_unless, bits_reading, under_columns, rows_lines, rows_reading, row_bits}
use Rattle.lid_texts.specs.Scans.{ended_lines, logical_of, sound_rows, ended_rows}
use Rattle.lid_texts.specs.RowsWalk.{joined_lines, alone, if_logical, begun_of, with_last, RowsGrow, IsFaulty, AreJudged, WalkGoes, IsWalked, judged_count}
use Rattle.lid_texts.specs.Scanned.{HasRead, Gives, FinishesScan}
use Rattle.lid_texts.proofs.Splits.{ended_are, last_part, some_parts, few_ended, whole_last}
use Rattle.lid_texts.proofs.Faulted.{first_fine, first_more, faults_more, rows_fine}

-- a text that is too long
pub too_long : (columns : List (List ℕ)) (outs : ℕ) (bytes : List ℕ) → 67108864 < length bytes → rows_reading columns outs bytes ≡ Err (Limit FileBytes (length bytes))
unfolding rows_reading
too_long columns outs bytes long = ap (λ (b : Bool). if b then Err (Limit FileBytes (length bytes)) else under_columns columns (bits_reading columns outs (rows_lines bytes))) (lt-ltb 67108864 (length bytes) long)

-- any other text is read by its lines
short : (columns : List (List ℕ)) (outs : ℕ) (bytes : List ℕ) (lines : List (List ℕ)) (line : List ℕ) → length bytes ≤ 67108864 → slice_split is_newline bytes ≡ lines ++ line ∷ [] → rows_reading columns outs bytes ≡ under_columns columns (bits_reading columns outs (with_last lines line))
unfolding rows_reading rows_lines physical_lines
short columns outs bytes lines line few split =
    let test : nat_lt 67108864 (length bytes) ≡ false = not_lt 67108864 (length bytes) few in
    ap (λ (b : Bool). if b then Err (Limit FileBytes (length bytes)) else under_columns columns (bits_reading columns outs (rows_lines bytes))) test
    ∙ ap (λ (ps : List (List ℕ)). under_columns columns (bits_reading columns outs (filter has_words (map rows_line (joins_of (enumerate_from 1 ps)))))) split
    ∙ ap (λ (ls : List RowsLine). under_columns columns (bits_reading columns outs ls)) (whole_last lines line)
  where
    not_lt : (a b : ℕ) → b ≤ a → nat_lt a b ≡ false
    not_lt a b h = grind (arith)

module _ (columns : List (List ℕ)) (outs : ℕ) (bytes : List ℕ) where
  -- lines one of which is at fault stand for no rows
  refused : (ls : List RowsLine) (fault : VecFault) → first_some (line_faults columns outs ls) ≡ Some fault → under_columns columns (bits_reading columns outs ls) ≡ Err fault
  unfolding bits_reading
  refused [] fault e = absurd (let f : None ≡ Some fault = e in cc)
  refused (l ∷ ls) fault e = ap (λ (o : Option VecFault). under_columns columns (ok_unless o (map (row_bits columns) ls))) e

  read_fine : (l : RowsLine) (ls : List RowsLine) → AllByRecursion (λ fault. fault ≡ None) (line_faults columns outs (l ∷ ls)) → under_columns columns (bits_reading columns outs (l ∷ ls)) ≡ Ok (record { columns = columns; bits = map (row_bits columns) ls })
  unfolding bits_reading
  read_fine l ls all = ap (λ (o : Option VecFault). under_columns columns (ok_unless o (map (row_bits columns) ls))) (first_fine (line_faults columns outs (l ∷ ls)) all)

  read_nothing : under_columns columns (bits_reading columns outs []) ≡ Err Header
  unfolding bits_reading
  read_nothing = refl

  -- a fault that was kept is the refusal of the whole text
  pub refused_before : (scan_fault : Option VecFault) (fault : VecFault) → length bytes ≤ 67108864 → scan_fault ≡ Some fault → (walk : RowWalk) → walk.fault ≡ scan_fault → IsWalked columns outs (ended_lines bytes) walk → rows_reading columns outs bytes ≡ Err fault
  refused_before scan_fault fault few is walk same walked =
      let own = last_part (slice_split is_newline bytes) (some_parts bytes) in
      let ended = ended_are bytes own.front own.last own.is in
      short columns outs bytes own.front own.last few own.is ∙ by own.front own.last own.is ended walked
    where
      by : (front : List (List ℕ)) (last : List ℕ) → slice_split is_newline bytes ≡ front ++ last ∷ [] → ended_lines bytes ≡ front → IsWalked columns outs (ended_lines bytes) walk → under_columns columns (bits_reading columns outs (with_last front last)) ≡ Err fault
      by front last split ended (inl goes) = absurd (let e : Some fault ≡ None = sym is ∙ sym same ∙ goes.sound.none in cc)
      by front last split ended (inr faulty) =
          let known : IsFaulty columns outs (length front) (logical_of front) walk = subst (λ (ls : List (List ℕ)). IsFaulty columns outs (length ls) (logical_of ls) walk) ended faulty in
          let long : length front ≤ length bytes = subst (λ (ls : List (List ℕ)). length ls ≤ length bytes) ended (few_ended bytes) in
          let first : first_some (line_faults columns outs (logical_of front)) ≡ Some fault = sym (known.kept.same (omega arith)) ∙ same ∙ is in
          let some : is_some (first_some (line_faults columns outs (logical_of front))) ≡ true = ap (λ (o : Option VecFault). is_some o) first in
          let faults = faults_more columns outs (logical_of front) (if_logical (joined_lines (begun_of front) (alone (length front + 1) last))) in
          refused (with_last front last) fault (ap first_some faults.1 ∙ first_more (line_faults columns outs (logical_of front)) faults.0 some ∙ first)

  module _ (lines : List (List ℕ)) (line : List ℕ) (few : length bytes ≤ 67108864) (split : slice_split is_newline bytes ≡ lines ++ line ∷ []) (walk : RowWalk) (old new : List (List Bool)) where
    whole : rows_reading columns outs bytes ≡ under_columns columns (bits_reading columns outs (with_last lines line))
    whole = short columns outs bytes lines line few split

    all_rows : (ls : List RowsLine) → with_last lines line ≡ ls → AllByRecursion (λ fault. fault ≡ None) (line_faults columns outs ls) → (grow : RowsGrow columns outs (logical_of lines) (with_last lines line) old new) →
        map (row_bits columns) (drop 1 ls) ≡ ended_rows columns outs bytes ++ grow.rows
    unfolding ended_rows
    all_rows ls is fine grow =
        sym (rows_fine columns outs ls fine)
        ∙ ap (sound_rows columns outs) (sym is)
        ∙ grow.all
        ∙ ap (λ (ps : List (List ℕ)). sound_rows columns outs (logical_of ps) ++ grow.rows) (sym (ended_are bytes lines line split))

    pub finished : AreJudged columns outs (length lines + 1) (with_last lines line) walk → RowsGrow columns outs (logical_of lines) (with_last lines line) old new → IfOk (judged_count walk.fault walk.judged) (FinishesScan columns outs bytes old new)
    finished (inr faulty) grow = by walk.fault faulty.some
      where
        by : (o : Option VecFault) → is_some o ≡ true → IfOk (judged_count o walk.judged) (FinishesScan columns outs bytes old new)
        by None e = absurd (let f : false ≡ true = e in cc)
        by (Some fault) e = tt
    finished (inl sound) grow = subst (λ (o : Option VecFault). IfOk (judged_count o walk.judged) (FinishesScan columns outs bytes old new)) (sym sound.none) (subst (λ (n : ℕ). IfOk (judged_count None n) (FinishesScan columns outs bytes old new)) (sym sound.judged) (by (with_last lines line) refl sound.sound))
      where
        by : (ls : List RowsLine) → with_last lines line ≡ ls → AllByRecursion (λ fault. fault ≡ None) (line_faults columns outs ls) → IfOk (judged_count None (length ls)) (FinishesScan columns outs bytes old new)
        by [] is fine = tt
        by (l ∷ ls) is fine = record {
          bits = map (row_bits columns) ls;
          reads = whole ∙ ap (λ (xs : List RowsLine). under_columns columns (bits_reading columns outs xs)) is ∙ read_fine l ls fine;
          count = sym (length-map ls (row_bits columns));
          rows = grow.rows;
          appended = grow.appended;
          all = all_rows (l ∷ ls) is fine grow;
        }

    pub refused_now : length lines + 1 < 2 ^ 32 → AreJudged columns outs (length lines + 1) (with_last lines line) walk → IfErr (judged_count walk.fault walk.judged) (λ e. (e ≡ Memory) ⊎ (rows_reading columns outs bytes ≡ Err e))
    refused_now small (inr faulty) = by walk.fault refl
      where
        by : (o : Option VecFault) → walk.fault ≡ o → IfErr (judged_count o walk.judged) (λ e. (e ≡ Memory) ⊎ (rows_reading columns outs bytes ≡ Err e))
        by None e = absurd (let f : false ≡ true = sym (ap (λ (o : Option VecFault). is_some o) e) ∙ faulty.some in cc)
        by (Some fault) e = inr (whole ∙ refused (with_last lines line) fault (sym (faulty.kept.same small) ∙ e))
    refused_now small (inl sound) = subst (λ (o : Option VecFault). IfErr (judged_count o walk.judged) (λ e. (e ≡ Memory) ⊎ (rows_reading columns outs bytes ≡ Err e))) (sym sound.none) (subst (λ (n : ℕ). IfErr (judged_count None n) (λ e. (e ≡ Memory) ⊎ (rows_reading columns outs bytes ≡ Err e))) (sym sound.judged) (by (with_last lines line) refl))
      where
        by : (ls : List RowsLine) → with_last lines line ≡ ls → IfErr (judged_count None (length ls)) (λ e. (e ≡ Memory) ⊎ (rows_reading columns outs bytes ≡ Err e))
        by [] is = inr (whole ∙ ap (λ (xs : List RowsLine). under_columns columns (bits_reading columns outs xs)) is ∙ read_nothing)
        by (l ∷ ls) is = tt

pub not_counted : (fault : Option VecFault) (judged : ℕ) → OnErr (judged_count fault judged) ((is_some fault ≡ true) ⊎ (judged ≡ 0))
not_counted (Some fault) judged = inl refl
not_counted None zero = inr refl
not_counted None (suc n) = tt

pub along_both : (P : List (List ℕ) → List ℕ → Type 0) {a b : List (List ℕ)} {x y : List ℕ} → a ≡ b → x ≡ y → P b y → P a x
along_both P {a} {b} {x} {y} e f p = subst (λ (ns : List (List ℕ)). P ns x) (sym e) (subst (λ (l : List ℕ). P b l) (sym f) p)

-- a scan without a fault, at the end of a text that is not too long
pub record AtEnd (scan : RowScan) (bytes : List ℕ) : Type 0 where
  pub short : length bytes ≤ 67108864
  pub few : length (ended_lines bytes) + 1 < 2 ^ 64
  pub small : length (ended_lines bytes) + 1 < 2 ^ 32
  pub goes : WalkGoes scan.columns scan.outs (ended_lines bytes) scan.walk
  pub split : slice_split is_newline bytes ≡ ended_lines bytes ++ scan.partial.items ∷ []

pub at_end : (scan : RowScan) (bytes : List ℕ) → HasRead scan bytes → scan.total ≤ 67108864 → scan.walk.fault ≡ None → AtEnd scan bytes
at_end scan bytes read most none =
    let total = read.total in
    let lines = few_ended bytes in
    record {
      short = omega arith;
      few = omega arith;
      small = omega arith;
      goes = elim read.walked [
        | inl goes ↦ goes
        | inr faulty ↦ absurd (let e : false ≡ true = sym (ap (λ (o : Option VecFault). is_some o) none) ∙ faulty.some in cc)
      ];
      split = read.left none;
    }

-- what is given of any lines that go on so, for names and a last line that are those of the scan
pub at_last : (P : List (List ℕ) → List ℕ → List (List ℕ) → Type 0) (scan : RowScan) (bytes : List ℕ) (names : List (List ℕ)) (last : List ℕ) → AtEnd scan bytes → names ≡ scan.columns → last ≡ scan.partial.items
    → ((lines : List (List ℕ)) → length lines + 1 < 2 ^ 64 → WalkGoes names scan.outs lines scan.walk → P names last lines) → P scan.columns scan.partial.items (ended_lines bytes)
at_last P scan bytes names last end columns line given =
    let goes = subst (λ (ns : List (List ℕ)). WalkGoes ns scan.outs (ended_lines bytes) scan.walk) (sym columns) end.goes in
    along_both (λ ns l. P ns l (ended_lines bytes)) (sym columns) (sym line) (given (ended_lines bytes) end.few goes)

nothing_ended : (columns : List (List ℕ)) (outs : ℕ) → ended_rows columns outs [] ≡ []
unfolding ended_rows
nothing_ended columns outs = ap (λ (ls : List (List ℕ)). sound_rows columns outs (logical_of ls)) (ended_are [] [] [] refl)

-- a text that was read in one piece
pub whole_read : (columns others : List (List ℕ)) (outs more : ℕ) (bytes : List ℕ) (none middle all : List (List Bool)) (n : ℕ) → others ≡ columns → more ≡ outs → none ≡ [] →
    Gives columns outs [] bytes none middle → FinishesScan others more bytes middle all n → rows_reading columns outs bytes ≡ Ok (record { columns = columns; bits = all })
whole_read columns others outs more bytes none middle all n same_columns same_outs is given end =
    let own = subst (λ (k : ℕ). FinishesScan columns k bytes middle all n) same_outs (subst (λ (ns : List (List ℕ)). FinishesScan ns more bytes middle all n) same_columns end) in
    let rows : middle ≡ ended_rows columns outs bytes = given.appended ∙ ap (λ (xs : List (List Bool)). xs ++ given.rows) (is ∙ sym (nothing_ended columns outs)) ∙ sym given.all in
    let whole : own.bits ≡ all = own.all ∙ ap (λ (xs : List (List Bool)). xs ++ own.rows) (sym rows) ∙ sym own.appended in
    own.reads ∙ ap (λ (bits : List (List Bool)). Ok (record { columns = columns; bits = bits })) whole
