-- Faults of logical lines, and the rows before the first of them.
use Rattle.std.proofs.Common.{◌≡◌, ℕ, zero, suc, ◌+◌, ◌≤◌, Bool, true, false, List, [], ◌∷◌, ◌++◌, length, map, take, drop, Option, Some, None, refl, sym, ap, ◌∙◌, zero-add, subst, arith}
use Rattle.std.specs.Prelude.{is_some, is_none}
use Rattle.std.specs.List.{AllByRecursion, enumerate_from, prefix_len}
use Rattle.std.proofs.lemmas.List.{append-nil, map-append, length-map, take_all}
use Rattle.std.proofs.lemmas.List.Sums.{prefix_len-le-length}
use Rattle.std.proofs.lemmas.List.{take-append-le}
use Rattle.std.proofs.Math.Seq.{take-append_seam, take-append-add}
use Rattle.std.proofs.lemmas.List.FromFn.{length-enumerate_from}
use Rattle.lid_base.specs.Lists.{Extends}
use Rattle.lid_base.proofs.Lists.{all_push}
use Rattle.lid_texts.specs.declared.rows.VecFault.{VecFault}
use Rattle.lid_texts.specs.Rows.{RowsLine, header_fault, row_fault, row_bits, first_some, line_faults}
use Rattle.lid_texts.specs.Scans.{sound_lines, sound_rows}
use Rattle.lid_texts.specs.RowsWalk.{line_fault}
use Rattle.lid_texts.proofs.Splits.{enumerate_append}

abbrev pub IsFine : Option VecFault → Type 0
IsFine fault = fault ≡ None

pub first_fine : (fs : List (Option VecFault)) → AllByRecursion IsFine fs → first_some fs ≡ None
first_fine [] all = refl
first_fine (None ∷ fs) all = first_fine fs all.1
first_fine (Some f ∷ fs) all = absurd (let e : Some f ≡ None = all.0 in cc)

pub first_last : (fs : List (Option VecFault)) (f : Option VecFault) → AllByRecursion IsFine fs → first_some (fs ++ f ∷ []) ≡ f
first_last [] None all = refl
first_last [] (Some f) all = refl
first_last (None ∷ fs) f all = first_last fs f all.1
first_last (Some g ∷ fs) f all = absurd (let e : Some g ≡ None = all.0 in cc)

pub first_more : (fs gs : List (Option VecFault)) → is_some (first_some fs) ≡ true → first_some (fs ++ gs) ≡ first_some fs
first_more [] gs h = absurd (let e : false ≡ true = h in cc)
first_more (None ∷ fs) gs h = first_more fs gs h
first_more (Some f ∷ fs) gs h = refl

pub fine_of_none : (fs : List (Option VecFault)) → first_some fs ≡ None → AllByRecursion IsFine fs
fine_of_none [] h = tt
fine_of_none (None ∷ fs) h = (refl, fine_of_none fs h)
fine_of_none (Some f ∷ fs) h = absurd (let e : Some f ≡ None = h in cc)

prefix_fine : (fs gs : List (Option VecFault)) → AllByRecursion IsFine fs → prefix_len is_none (fs ++ gs) ≡ length fs + prefix_len is_none gs
prefix_fine [] gs all = sym (zero-add (prefix_len is_none gs))
prefix_fine (None ∷ fs) gs all = let e = prefix_fine fs gs all.1 in omega arith
prefix_fine (Some f ∷ fs) gs all = absurd (let e : Some f ≡ None = all.0 in cc)

prefix_stopped : (fs gs : List (Option VecFault)) → is_some (first_some fs) ≡ true → prefix_len is_none (fs ++ gs) ≡ prefix_len is_none fs
prefix_stopped [] gs h = absurd (let e : false ≡ true = h in cc)
prefix_stopped (None ∷ fs) gs h = ap (λ (n : ℕ). 1 + n) (prefix_stopped fs gs h)
prefix_stopped (Some f ∷ fs) gs h = refl

prefix_own : (fs : List (Option VecFault)) → AllByRecursion IsFine fs → prefix_len is_none fs ≡ length fs
prefix_own [] all = refl
prefix_own (None ∷ fs) all = let e = prefix_own fs all.1 in omega arith
prefix_own (Some f ∷ fs) all = absurd (let e : Some f ≡ None = all.0 in cc)

-- the row of a line that comes after so many others
abbrev pub row_of : List (List ℕ) → ℕ → RowsLine → List (List Bool)
row_of columns zero line = []
row_of columns (suc k) line = row_bits columns line ∷ []

module _ (columns : List (List ℕ)) (outs : ℕ) where
  faults_long : (ls : List RowsLine) → length (line_faults columns outs ls) ≡ length ls
  faults_long [] = refl
  faults_long (l ∷ ls) = ap suc (length-map (enumerate_from 1 ls) _ ∙ length-enumerate_from 1 ls)

  pub faults_more : (ls more : List RowsLine) → Extends (line_faults columns outs ls) (line_faults columns outs (ls ++ more))
  faults_more [] more = (line_faults columns outs more, refl)
  faults_more (l ∷ ls) more =
      let later = map (λ (p : ℕ × RowsLine). row_fault columns outs p.0 p.1) (enumerate_from (length ls + 1) more) in
      (later, ap (λ (fs : List (Option VecFault)). header_fault columns l ∷ fs) (ap (map (λ (p : ℕ × RowsLine). row_fault columns outs p.0 p.1)) (enumerate_append 1 ls more) ∙ map-append _ (enumerate_from 1 ls) (enumerate_from (length ls + 1) more)))

  pub faults_last : (ls : List RowsLine) (l : RowsLine) → line_faults columns outs (ls ++ l ∷ []) ≡ line_faults columns outs ls ++ line_fault columns outs (length ls) l ∷ []
  unfolding faults_more
  faults_last [] l = refl
  faults_last (h ∷ ls) l =
      let number : length ls + 1 ≡ suc (length ls) = omega arith in
      (faults_more (h ∷ ls) (l ∷ [])).1 ∙ ap (λ (n : ℕ). line_faults columns outs (h ∷ ls) ++ row_fault columns outs n l ∷ []) number

  lines_fine : (ls : List RowsLine) → AllByRecursion IsFine (line_faults columns outs ls) → sound_lines columns outs ls ≡ ls
  lines_fine ls all =
      let long : prefix_len is_none (line_faults columns outs ls) ≡ length ls = prefix_own (line_faults columns outs ls) all ∙ faults_long ls in
      take_all (prefix_len is_none (line_faults columns outs ls)) ls (omega arith)

  pub rows_fine : (ls : List RowsLine) → AllByRecursion IsFine (line_faults columns outs ls) → sound_rows columns outs ls ≡ map (row_bits columns) (drop 1 ls)
  rows_fine ls all = ap (λ (xs : List RowsLine). map (row_bits columns) (drop 1 xs)) (lines_fine ls all)

  pub fine_last : (ls : List RowsLine) (l : RowsLine) → AllByRecursion IsFine (line_faults columns outs ls) → line_fault columns outs (length ls) l ≡ None → AllByRecursion IsFine (line_faults columns outs (ls ++ l ∷ []))
  fine_last ls l all none = subst (AllByRecursion IsFine) (sym (faults_last ls l)) (all_push IsFine (line_faults columns outs ls) (line_fault columns outs (length ls) l) all none)

  pub rows_last : (ls : List RowsLine) (l : RowsLine) → AllByRecursion IsFine (line_faults columns outs ls) → line_fault columns outs (length ls) l ≡ None →
      sound_rows columns outs (ls ++ l ∷ []) ≡ sound_rows columns outs ls ++ row_of columns (length ls) l
  rows_last ls l all none = rows_fine (ls ++ l ∷ []) (fine_last ls l all none) ∙ by ls ∙ ap (λ (rs : List (List Bool)). rs ++ row_of columns (length ls) l) (sym (rows_fine ls all))
    where
      by : (xs : List RowsLine) → map (row_bits columns) (drop 1 (xs ++ l ∷ [])) ≡ map (row_bits columns) (drop 1 xs) ++ row_of columns (length xs) l
      by [] = refl
      by (x ∷ xs) = map-append (row_bits columns) xs (l ∷ [])

  pub rows_stopped : (ls more : List RowsLine) → is_some (first_some (line_faults columns outs ls)) ≡ true → sound_rows columns outs (ls ++ more) ≡ sound_rows columns outs ls
  rows_stopped ls more some =
      let fs = line_faults columns outs ls in
      let all = faults_more ls more in
      let few : prefix_len is_none fs ≤ length ls = subst (λ (n : ℕ). prefix_len is_none fs ≤ n) (faults_long ls) (prefix_len-le-length is_none fs) in
      ap (λ (xs : List RowsLine). map (row_bits columns) (drop 1 xs))
      (ap (λ (n : ℕ). take n (ls ++ more)) (ap (prefix_len is_none) all.1 ∙ prefix_stopped fs all.0 some) ∙ take-append-le (prefix_len is_none fs) ls more few)

  pub rows_last_faulty : (ls : List RowsLine) (l : RowsLine) → AllByRecursion IsFine (line_faults columns outs ls) → is_some (line_fault columns outs (length ls) l) ≡ true → sound_rows columns outs (ls ++ l ∷ []) ≡ sound_rows columns outs ls
  rows_last_faulty ls l all some =
      let fs = line_faults columns outs ls in
      let long : prefix_len is_none (line_faults columns outs (ls ++ l ∷ [])) ≡ length ls = ap (prefix_len is_none) (faults_last ls l) ∙ prefix_fine fs (line_fault columns outs (length ls) l ∷ []) all ∙ ap (λ (n : ℕ). length fs + n) (stops (line_fault columns outs (length ls) l) some) ∙ (let e = faults_long ls in omega arith) in
      ap (λ (xs : List RowsLine). map (row_bits columns) (drop 1 xs)) (ap (λ (n : ℕ). take n (ls ++ l ∷ [])) long ∙ take-append_seam ls (l ∷ []) ∙ sym (lines_fine ls all))
    where
      stops : (f : Option VecFault) → is_some f ≡ true → prefix_len is_none (f ∷ []) ≡ 0
      stops None h = absurd (let e : false ≡ true = h in cc)
      stops (Some f) h = refl

  -- more lines give more rows
  pub rows_more : (ls more : List RowsLine) → Extends (sound_rows columns outs ls) (sound_rows columns outs (ls ++ more))
  rows_more [] more = (sound_rows columns outs more, refl)
  rows_more (l ∷ ls) more = by (first_some (line_faults columns outs (l ∷ ls))) refl
    where
      fs : List (Option VecFault)
      fs = line_faults columns outs (l ∷ ls)

      fine : AllByRecursion IsFine fs → Extends (sound_rows columns outs (l ∷ ls)) (sound_rows columns outs ((l ∷ ls) ++ more))
      fine all =
          let later = faults_more (l ∷ ls) more in
          let n = prefix_len is_none later.0 in
          let long : prefix_len is_none (line_faults columns outs ((l ∷ ls) ++ more)) ≡ length (l ∷ ls) + n = ap (prefix_len is_none) later.1 ∙ prefix_fine fs later.0 all ∙ ap (λ (k : ℕ). k + n) (faults_long (l ∷ ls)) in
          let lines : sound_lines columns outs ((l ∷ ls) ++ more) ≡ (l ∷ ls) ++ take n more = ap (λ (k : ℕ). take k ((l ∷ ls) ++ more)) long ∙ take-append-add (l ∷ ls) more n in (
            map (row_bits columns) (take n more),
            ap (λ (xs : List RowsLine). map (row_bits columns) (drop 1 xs)) lines
                ∙ map-append (row_bits columns) ls (take n more)
                ∙ ap (λ (rs : List (List Bool)). rs ++ map (row_bits columns) (take n more)) (sym (rows_fine (l ∷ ls) all)),
          )

      by : (o : Option VecFault) → first_some fs ≡ o → Extends (sound_rows columns outs (l ∷ ls)) (sound_rows columns outs ((l ∷ ls) ++ more))
      by None e = fine (fine_of_none fs e)
      by (Some f) e = ([], rows_stopped (l ∷ ls) more (ap (λ (o : Option VecFault). is_some o) e) ∙ sym (append-nil (sound_rows columns outs (l ∷ ls))))
