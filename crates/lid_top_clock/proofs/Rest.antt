-- What a second reading of a rows text may give: the rows that were given, and further ones; or another text.
use Rattle.std.proofs.Common.{◌≡◌, ℕ, ◌+◌, ◌-◌, ◌<◌, ◌≤◌, Bool, false, true≢false, List, ◌++◌, length, take, replicate, Option, None, Some, IfSome, IsSome, Result, Ok, Err, refl, sym, ◌∙◌, ap, subst, arith}
use Rattle.std.specs.List.{AllByRecursion}
use Rattle.std.proofs.lemmas.List.{length-append, length-replicate, take-append-le, take_all}
use Rattle.lid_base.proofs.Lists.{all_append}
use Rattle.lid_design.specs.declared.Design.{Design}
use Rattle.lid_design.specs.Columns.{root_inputs, root_outputs}
use Rattle.lid_texts.specs.declared.rows.Rows.{Rows}
use Rattle.lid_texts.specs.declared.rows.VecFault.{VecFault}
use Rattle.lid_texts.specs.declared.rows.VecFault.TheVariants.{Changed}
use Rattle.lid_texts.specs.Rows.{rows_reading}
use Rattle.lid_top_refusals.specs.Faults.{rows_line}
use Rattle.lid_texts_feed.specs.Feeds.{most_bytes, IsText, AreAll, AreFirstRows, IsRefusedText}
use Rattle.lid_texts_feed.proofs.Beginnings.{reading_wide}
use Rattle.lid_top_script.specs.Scripts.{Reading, good, bad, rows_limit, vec_reading, bits_read, Rereading, reread_rows, IsReread, IsChanged, HasFewerRows}
use Rattle.lid_top_script.specs.Causes.{Got}
use Rattle.lid_top_script.proofs.Readings.{vec_good}
use Rattle.lid_base.proofs.Alls.{all_replicate}

-- the rows of a text that stands for rows
record Stands (d : Design) (bytes : List ℕ) (rows : List (List Bool)) : Type 0 where
  pub read : Rows
  pub reads : rows_reading (root_inputs d) (length (root_outputs d)) bytes ≡ Ok read
  pub bits : read.bits ≡ rows

stands_for : (d : Design) (bytes : List ℕ) (rows : List (List Bool)) → vec_reading d bytes ≡ good rows → Stands d bytes rows
unfolding vec_reading
stands_for d bytes rows is = by (rows_reading (root_inputs d) (length (root_outputs d)) bytes) refl
  where
    by : (r : Result Rows VecFault) → rows_reading (root_inputs d) (length (root_outputs d)) bytes ≡ r → Stands d bytes rows
    by (Ok read) reads = record { read = read; reads = reads; bits = (let e : good read.bits ≡ good rows = ap bits_read (sym reads) ∙ is in cc) }
    by (Err fault) reads = absurd (let e : ◌≡◌ {A = Reading (List (List Bool))} (bad (rows_line fault)) (good rows) = ap bits_read (sym reads) ∙ is in cc)

-- rows that a second reading may give, which begin with these
pub record Rest (held : List ℕ → Option (List ℕ)) (second : Rereading) (given : List (List Bool)) : Type 0 where
  pub input : List (List Bool)
  pub is : IsReread held second input
  pub first : take (length given) input ≡ given

-- the second text refuses, or has fewer rows
pub record Falls (held : List ℕ → Option (List ℕ)) (d : Design) (vec : List ℕ) (rows : List (List Bool)) (line : List ℕ) : Type 0 where
  pub bytes : List ℕ
  pub text : IsText (held vec) bytes
  pub falls : HasFewerRows (vec_reading d bytes) rows line

module _ (held : List ℕ → Option (List ℕ)) (d : Design) (vec : List ℕ) (rows : List (List Bool)) (Asks : ℕ → Type 0) (got : Got held vec rows_limit (vec_reading d) rows) where
  abbrev outs : ℕ
  outs = length (root_outputs d)

  abbrev second : Rereading
  second = reread_rows d vec Asks rows

  first_text : Stands d got.bytes rows
  first_text = stands_for d got.bytes rows got.stands

  rows_wide : AllByRecursion (λ row. length row ≡ length (root_inputs d)) rows
  rows_wide = subst (λ (bits : List (List Bool)). AllByRecursion (λ row. length row ≡ length (root_inputs d)) bits) first_text.bits (reading_wide (root_inputs d) outs got.bytes first_text.read first_text.reads)

  -- a file whose bytes are told has one text
  same_text : (file bytes : List ℕ) → held vec ≡ Some file → IsText (held vec) bytes → bytes ≡ got.bytes
  same_text file bytes told text =
      let now : bytes ≡ take (most_bytes + 1) file = subst (λ (o : Option (List ℕ)). IfSome o (λ file. bytes ≡ take (most_bytes + 1) file)) told text.told in
      let before : got.bytes ≡ take (most_bytes + 1) file = subst (λ (o : Option (List ℕ)). IfSome o (λ file. got.bytes ≡ take (most_bytes + 1) file)) told got.fetched.told in
      now ∙ sym before

  untold : (line : List ℕ) → Falls held d vec rows line → held vec ≡ None
  untold line falls = by (held vec) refl
    where
      by : (o : Option (List ℕ)) → held vec ≡ o → held vec ≡ None
      by None is = is
      by (Some file) is =
          let reads : vec_reading d falls.bytes ≡ good rows = ap (vec_reading d) (same_text file falls.bytes is falls.text) ∙ got.stands in
          let few : length rows < length rows = (subst (λ (r : Reading (List (List Bool))). HasFewerRows r rows line) reads falls.falls).0 in
          absurd (omega (arith, few))

  pub is_changed : (line : List ℕ) → Falls held d vec rows line → IsChanged held second line
  is_changed line falls = record { untold = untold line falls; bytes = falls.bytes; short = falls.text.short; falls = falls.falls }

  -- where the file is told, there is no such text
  pub never_told : (line : List ℕ) → Falls held d vec rows line → IsSome (held vec) → ⊥
  never_told line falls told = true≢false (sym (subst (λ (o : Option (List ℕ)). IsSome o) (untold line falls) told))

  pub falls_refused : (bytes line : List ℕ) → IsText (held vec) bytes → vec_reading d bytes ≡ bad line → Falls held d vec rows line
  falls_refused bytes line text reads = record {
    bytes = bytes;
    text = text;
    falls = subst (λ (r : Reading (List (List Bool))). HasFewerRows r rows line) (sym reads) refl;
  }

  module _ (columns : List (List ℕ)) (named : columns ≡ root_inputs d) where
    -- the text of a file that is told is not refused
    pub untold_refused : (fault : VecFault) → IsRefusedText (held vec) columns outs fault → held vec ≡ None
    untold_refused fault refused = by (held vec) refl
      where
        by : (o : Option (List ℕ)) → held vec ≡ o → held vec ≡ None
        by None is = is
        by (Some file) is =
            let reads : rows_reading columns outs refused.bytes ≡ Ok first_text.read =
            ap (rows_reading columns outs) (same_text file refused.bytes is refused.fetched) ∙ ap (λ (names : List (List ℕ)). rows_reading names outs got.bytes) named ∙ first_text.reads in
            absurd (let e : ◌≡◌ {A = Result Rows VecFault} (Ok first_text.read) (Err fault) = sym reads ∙ refused.refuses in cc)

    pub falls_few : (count found : ℕ) (given : List (List Bool)) → count ≡ length rows → AreAll (held vec) columns outs given → found ≡ length given → found < count → Falls held d vec rows (rows_line (Changed count found))
    falls_few count found given many all is few =
        let reads : vec_reading d all.bytes ≡ good given = vec_good d all.bytes columns outs (record { columns = columns; bits = given }) named refl all.reads in
        let less : length given < length rows = omega (arith, many, is, few) in
        let line : rows_line (Changed count found) ≡ rows_line (Changed (length rows) (length given)) =
        ap (λ n. rows_line (Changed n found)) many ∙ ap (λ n. rows_line (Changed (length rows) n)) is in
        record {
          bytes = all.bytes;
          text = all.fetched;
          falls = subst (λ (r : Reading (List (List Bool))). HasFewerRows r rows (rows_line (Changed count found))) (sym reads) (less, line);
        }

    module _ (given : List (List Bool)) (few : length given ≤ length rows) (wide : AllByRecursion (λ row. length row ≡ length (root_inputs d)) given) (first : AreFirstRows (held vec) columns outs given) where
      -- where the file is told, its rows begin with those that were given
      begin_so : (file : List ℕ) → held vec ≡ Some file → given ≡ take (length given) rows
      begin_so file told =
          let now : (r : Rows) → rows_reading columns outs (take (most_bytes + 1) file) ≡ Ok r → given ≡ take (length given) r.bits =
          subst (λ (o : Option (List ℕ)). AreFirstRows o columns outs given) told first in
          let before : got.bytes ≡ take (most_bytes + 1) file = subst (λ (o : Option (List ℕ)). IfSome o (λ file. got.bytes ≡ take (most_bytes + 1) file)) told got.fetched.told in
          let reads : rows_reading columns outs (take (most_bytes + 1) file) ≡ Ok first_text.read =
          ap (λ (names : List (List ℕ)). rows_reading names outs (take (most_bytes + 1) file)) named
          ∙ ap (rows_reading (root_inputs d) outs) (sym before)
          ∙ first_text.reads in
          now first_text.read reads ∙ ap (take (length given)) first_text.bits

      abbrev blank : List Bool
      blank = replicate (length (root_inputs d)) false

      abbrev missing : ℕ
      missing = length rows - length given

      abbrev padded : List (List Bool)
      padded = given ++ replicate missing blank

      pub rest : Rest held second given
      rest = by (held vec) refl
        where
          by : (o : Option (List ℕ)) → held vec ≡ o → Rest held second given
          by None none = record {
            input = padded;
            is = record {
              many = (let long = length-append given (replicate missing blank) in let more = length-replicate missing blank in omega (arith, long, more, few));
              wide = all_append (λ row. length row ≡ length (root_inputs d)) given (replicate missing blank) wide (all_replicate (λ row. length row ≡ length (root_inputs d)) missing blank (length-replicate (length (root_inputs d)) false));
              told = subst (λ (o : Option (List ℕ)). IfSome o (λ file. padded ≡ rows)) (sym none) tt;
            };
            first = take-append-le (length given) given (replicate missing blank) (omega arith) ∙ take_all (length given) given (omega arith);
          }
          by (Some file) some = record {
            input = rows;
            is = record {
              many = refl;
              wide = rows_wide;
              told = subst (λ (o : Option (List ℕ)). IfSome o (λ file. rows ≡ rows)) (sym some) refl;
            };
            first = sym (begin_so file some);
          }
