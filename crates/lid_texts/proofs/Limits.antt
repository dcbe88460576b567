-- What is read keeps within the limits, and each row is as wide as the columns.
use Rattle.std.proofs.Common.{◌≡◌, ℕ, ◌+◌, ◌*◌, ◌<◌, ◌≤◌, ◌==◌, nat_lt, Bool, true, false, not, ◌||◌, if◌then◌else◌, List, [], ◌∷◌, ◌++◌, map, length, Option, Some, None, Result, Ok, Err, refl, sym, append_assoc, ap, ◌∙◌, subst, length-append, arith}
use borrow.Author.Tests.{ltb-false, eqb-true}
use Rattle.std.specs.List.{All, AllByRecursion, concat, enumerate_from}
use Rattle.std.proofs.lemmas.List.Elements.{All-push}
use Rattle.std.proofs.Math.Nat.{mul-le-mul_right}
use Rattle.std.proofs.lemmas.List.{length-map, append-nil}
use Rattle.lid_base.specs.declared.which.Which.TheVariants.{FileBytes}
use Rattle.lid_texts.specs.declared.rows.Rows.{Rows}
use Rattle.lid_texts.specs.declared.rows.VecFault.{VecFault}
use Rattle.lid_texts.specs.declared.rows.VecFault.TheVariants.{Limit}
use Rattle.lid_texts.specs.Rows.{RowsLine, has_long_word, row_width, row_fault, row_bits, line_faults, lines_fault, ok_unless, bits_reading, under_columns, rows_lines, rows_reading}
use Rattle.lid_texts.proofs.Faulted.{IsFine, fine_of_none}

-- what holds of the bits of rows
pub record IsWithin (columns : List (List ℕ)) (outs : ℕ) (bits : List (List Bool)) : Type 0 where
  pub wide : All (λ row. length row ≡ length columns) bits
  pub few : length bits ≤ 1000000
  pub few_out_bits : length bits * outs ≤ 67108864

-- a row without a fault
pub record IsSound (columns : List (List ℕ)) (outs k : ℕ) (line : RowsLine) : Type 0 where
  pub few : k ≤ 1000000
  pub few_out_bits : k * outs ≤ 67108864
  pub wide : length (row_bits columns line) ≡ length columns

if_None : (b : Bool) {A : Type 0} (a : A) (more : Option A) → (if b then Some a else more) ≡ None → (b ≡ false) × (more ≡ None)
if_None true a more h = cc
if_None false a more h = (refl, h)

or_false_both : (a b : Bool) → (a || not b) ≡ false → b ≡ true
or_false_both true b h = cc
or_false_both false true h = refl
or_false_both false false h = cc

row_bits_width : (columns : List (List ℕ)) (line : RowsLine) → length (concat line.words) ≡ row_width columns → length (row_bits columns line) ≡ length columns
unfolding row_bits
row_bits_width [] line h = refl
row_bits_width (column ∷ columns) line h = simp length-map h

pub row_fault_None : (columns : List (List ℕ)) (outs k : ℕ) (line : RowsLine) → row_fault columns outs k line ≡ None → IsSound columns outs k line
unfolding row_fault
row_fault_None columns outs k line h =
    let good = if_None line.bad _ _ h in
    let few = if_None (nat_lt 1000000 k) _ _ good.1 in
    let few_out_bits = if_None (nat_lt 67108864 (k * outs)) _ _ few.1 in
    let wide = if_None (has_long_word line.words || not (length (concat line.words) == row_width columns)) _ _ few_out_bits.1 in
    record {
      few = ltb-false 1000000 k few.0;
      few_out_bits = ltb-false 67108864 (k * outs) few_out_bits.0;
      wide = row_bits_width columns line (eqb-true (length (concat line.words)) (row_width columns) (or_false_both _ _ wide.0));
    }

Ok_inj : {A : Type 0} (a b : A) → ◌≡◌ {A = Result A VecFault} (Ok a) (Ok b) → a ≡ b
Ok_inj a b h = cc

module _ (columns : List (List ℕ)) (outs : ℕ) where
  none_within : IsWithin columns outs []
  none_within = record { wide = λ k d h. absurd (omega arith); few = omega arith; few_out_bits = omega arith }

  push_within : (k : ℕ) (done : List (List Bool)) (line : RowsLine) → length done < k → IsWithin columns outs done →
      IsSound columns outs k line → IsWithin columns outs (done ++ row_bits columns line ∷ [])
  push_within k done line d w s =
      let fits : length (done ++ row_bits columns line ∷ []) ≤ k = simp length-append (omega arith) in
      record {
        wide = All-push (λ row. length row ≡ length columns) done (row_bits columns line) w.wide s.wide;
        few = omega (arith, s.few);
        few_out_bits = omega (arith, mul-le-mul_right outs fits, s.few_out_bits);
      }

  -- rows from the k-th on, none of which is at fault
  rows_within : (k : ℕ) (done : List (List Bool)) (lines : List RowsLine) → length done < k → IsWithin columns outs done →
      AllByRecursion IsFine (map (λ (p : ℕ × RowsLine). row_fault columns outs p.0 p.1) (enumerate_from k lines)) → IsWithin columns outs (done ++ map (row_bits columns) lines)
  rows_within k done [] d w all = subst (IsWithin columns outs) (sym (append-nil done)) w
  rows_within k done (line ∷ lines) d w all =
      let row = row_bits columns line in
      let more = push_within k done line d w (row_fault_None columns outs k line all.0) in
      subst (IsWithin columns outs) (append_assoc done (row ∷ []) (map (row_bits columns) lines))
      (rows_within (k + 1) (done ++ row ∷ []) lines (simp length-append (omega arith)) more all.1)

  lines_within : (lines : List RowsLine) (bits : List (List Bool)) → bits_reading columns outs lines ≡ Ok bits → IsWithin columns outs bits
  unfolding bits_reading
  lines_within [] bits h = absurd (cc)
  lines_within (line ∷ lines) bits h = by (lines_fault columns outs (line ∷ lines)) refl h
    where
      by : (o : Option VecFault) → lines_fault columns outs (line ∷ lines) ≡ o → ok_unless o (map (row_bits columns) lines) ≡ Ok bits → IsWithin columns outs bits
      by (Some fault) e h = absurd (cc)
      by None e h =
          let all = fine_of_none (line_faults columns outs (line ∷ lines)) e in
          subst (IsWithin columns outs) (Ok_inj (map (row_bits columns) lines) bits h) (rows_within 1 [] lines (omega arith) none_within all.1)

  pub reading_within : (bytes : List ℕ) (bits : List (List Bool)) → rows_reading columns outs bytes ≡ Ok (record { columns = columns; bits = bits }) → IsWithin columns outs bits
  unfolding rows_reading
  reading_within bytes bits h = by (nat_lt 67108864 (length bytes)) (bits_reading columns outs (rows_lines bytes)) refl h
    where
      bits_in : Result Rows VecFault → List (List Bool)
      bits_in (Ok rows) = rows.bits
      bits_in (Err fault) = []

      by : (b : Bool) (r : Result (List (List Bool)) VecFault) → bits_reading columns outs (rows_lines bytes) ≡ r → (if b then Err (Limit FileBytes (length bytes)) else under_columns columns r) ≡ Ok (record { columns = columns; bits = bits }) → IsWithin columns outs bits
      by true r e h = absurd (cc)
      by false (Err fault) e h = absurd (cc)
      by false (Ok all) e h = let same : all ≡ bits = (ap (λ (r : Result Rows VecFault). bits_in r) h) in lines_within (rows_lines bytes) bits (e ∙ ap Ok same)
