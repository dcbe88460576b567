-- A file whose bytes are told, and what a second reading gives of it.
use Rattle.std.proofs.Common.{◌≡◌, ℕ, ◌+◌, Bool, List, take, Some, Result, Ok, Err, sym, ap, ◌∙◌}
use Rattle.lid_texts.specs.declared.rows.Rows.{Rows}
use Rattle.lid_texts.specs.declared.rows.VecFault.{VecFault}
use Rattle.lid_texts.specs.Rows.{rows_reading}
use Rattle.lid_texts_feed.specs.Feeds.{most_bytes, AreAll, IsRefusedText}
use Rattle.lid_texts_feed.specs.Rereadings.{RereadsTheSame}
use Rattle.lid_texts_feed.proofs.Beginnings.{same_bits}

module _ (file : List ℕ) (columns : List (List ℕ)) (outs : ℕ) (rows : List (List Bool)) where
  -- the one text of the file
  told : AreAll (Some file) columns outs rows → rows_reading columns outs (take (most_bytes + 1) file) ≡ Ok (record { columns = columns; bits = rows })
  told all = ap (rows_reading columns outs) (sym all.fetched.told) ∙ all.reads

  not_refused : AreAll (Some file) columns outs rows → (fault : VecFault) → IsRefusedText (Some file) columns outs fault → ⊥
  not_refused all fault refused =
      let e : ◌≡◌ {A = Result Rows VecFault} (Ok (record { columns = columns; bits = rows })) (Err fault) = sym (told all) ∙ ap (rows_reading columns outs) (sym refused.fetched.told) ∙ refused.refuses in
      cc

  same_rows : AreAll (Some file) columns outs rows → (again : List (List Bool)) → AreAll (Some file) columns outs again → again ≡ rows
  same_rows all again other =
      let e : ◌≡◌ {A = Result Rows VecFault} (Ok (record { columns = columns; bits = again })) (Ok (record { columns = columns; bits = rows })) = sym other.reads ∙ ap (rows_reading columns outs) other.fetched.told ∙ told all in
      same_bits (record { columns = columns; bits = again }) (record { columns = columns; bits = rows }) e

pub rereads_the_same : RereadsTheSame
rereads_the_same file columns outs rows all = record {
  taken = not_refused file columns outs rows all;
  all = same_rows file columns outs rows all;
  first = λ given first. first (record { columns = columns; bits = rows }) (told file columns outs rows all);
}
