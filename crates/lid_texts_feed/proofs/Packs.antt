-- Rows that a piece of a text gives, and those that are packed.
use Rattle.std.proofs.Common.{◌≡◌, ℕ, Bool, List, ◌++◌, length, Ok, sym, ◌∙◌, ap, subst}
use Rattle.std.specs.List.{AllByRecursion}
use Rattle.lid_base.proofs.Alls.{all_parts}
use Rattle.lid_texts.specs.Rows.{rows_reading}
use Rattle.lid_texts.specs.Scans.{ended_rows}
use Rattle.lid_texts.specs.Scanned.{Gives, FinishesScan}
use Rattle.lid_texts_packed.specs.Rows.{WideRows}
use Rattle.lid_texts_feed.specs.declared.packing.Packing.{Packing}
use Rattle.lid_texts_feed.specs.Packing.{HasPacked, IsReadPacked}
use Rattle.lid_texts_feed.proofs.Beginnings.{ended_wide, reading_wide}

module _ (columns : List (List ℕ)) (outs : ℕ) (bytes now : List ℕ) (p : Packing) (has : HasPacked columns outs bytes p) (given : List (List Bool)) (gives : Gives p.scan.columns p.scan.outs bytes now p.given.items given) where
  all_now : ended_rows columns outs now ≡ ended_rows columns outs bytes ++ gives.rows
  all_now =
      ap (λ (cs : List (List ℕ)). ended_rows cs outs now) (sym has.columns_are)
      ∙ ap (λ (n : ℕ). ended_rows p.scan.columns n now) (sym has.outs_are)
      ∙ gives.all
      ∙ ap (λ (cs : List (List ℕ)). ended_rows cs p.scan.outs bytes ++ gives.rows) has.columns_are
      ∙ ap (λ (n : ℕ). ended_rows columns n bytes ++ gives.rows) has.outs_are

  given_are : given ≡ gives.rows
  given_are = gives.appended ∙ ap (λ (rs : List (List Bool)). rs ++ gives.rows) has.none

  pub given_wide : AllByRecursion (λ row. length row ≡ p.packed.width) given
  given_wide =
      subst (λ (rs : List (List Bool)). AllByRecursion (λ row. length row ≡ p.packed.width) rs) (sym given_are)
      (subst (λ (n : ℕ). AllByRecursion (λ row. length row ≡ n) gives.rows) (sym has.wide)
      (all_parts (λ row. length row ≡ length columns) (ended_rows columns outs bytes) gives.rows
      (subst (λ (rs : List (List Bool)). AllByRecursion (λ row. length row ≡ length columns) rs) all_now (ended_wide columns outs now))).1)

module _ (columns : List (List ℕ)) (outs : ℕ) (bytes : List ℕ) (p : Packing) (has : HasPacked columns outs bytes p) (given : List (List Bool)) (n : ℕ) (ends : FinishesScan p.scan.columns p.scan.outs bytes p.given.items given n) where
  reads : rows_reading columns outs bytes ≡ Ok (record { columns = columns; bits = ends.bits })
  reads =
      ap (λ (cs : List (List ℕ)). rows_reading cs outs bytes) (sym has.columns_are)
      ∙ ap (λ (k : ℕ). rows_reading p.scan.columns k bytes) (sym has.outs_are)
      ∙ ends.reads
      ∙ ap (λ (cs : List (List ℕ)). Ok (record { columns = cs; bits = ends.bits })) has.columns_are

  last_are : given ≡ ends.rows
  last_are = ends.appended ∙ ap (λ (rs : List (List Bool)). rs ++ ends.rows) has.none

  all_are : ends.bits ≡ ended_rows columns outs bytes ++ ends.rows
  all_are =
      ends.all
      ∙ ap (λ (cs : List (List ℕ)). ended_rows cs p.scan.outs bytes ++ ends.rows) has.columns_are
      ∙ ap (λ (k : ℕ). ended_rows columns k bytes ++ ends.rows) has.outs_are

  pub last_wide : AllByRecursion (λ row. length row ≡ p.packed.width) given
  last_wide =
      subst (λ (rs : List (List Bool)). AllByRecursion (λ row. length row ≡ p.packed.width) rs) (sym last_are)
      (subst (λ (k : ℕ). AllByRecursion (λ row. length row ≡ k) ends.rows) (sym has.wide)
      (all_parts (λ row. length row ≡ length columns) (ended_rows columns outs bytes) ends.rows
      (subst (λ (rs : List (List Bool)). AllByRecursion (λ row. length row ≡ length columns) rs) all_are (reading_wide columns outs bytes (record { columns = columns; bits = ends.bits }) reads))).1)

  pub read_packed : (packed : WideRows) → packed ≡ record { width = p.packed.width; rows = p.packed.rows ++ given } → IsReadPacked columns outs bytes packed
  read_packed packed is = record {
    wide = ap (λ (v : WideRows). v.width) is ∙ has.wide;
    reads = reads ∙ ap (λ (rs : List (List Bool)). Ok (record { columns = columns; bits = rs }))
        (all_are ∙ ap (λ (rs : List (List Bool)). rs ++ ends.rows) (sym has.rows) ∙ ap (λ (rs : List (List Bool)). p.packed.rows ++ rs) (sym last_are) ∙ ap (λ (v : WideRows). v.rows) (sym is));
  }
