-- Rows that are written row by row.
use Rattle.std.proofs.Common.{◌≡◌, ℕ, Bool, List, [], ◌∷◌, ◌++◌, sym, ◌∙◌, ap, append-nil}
use Rattle.std.proofs.lemmas.List.{flat_map_more}
use Rattle.lid_base_lines.specs.Texts.{line_text}
use Rattle.lid_texts.specs.Rows.{header_words}
use Rattle.lid_texts.specs.RowsText.{row_text, rows_text}

pub printed_none : (columns : List (List ℕ)) → line_text (header_words columns) ≡ rows_text columns []
unfolding rows_text
printed_none columns = sym (append-nil (line_text (header_words columns)))

pub printed_next : (columns : List (List ℕ)) (rows : List (List Bool)) (row : List Bool) (old new : List ℕ) → old ≡ rows_text columns rows → new ≡ old ++ row_text columns row → new ≡ rows_text columns (rows ++ row ∷ [])
unfolding rows_text
printed_next columns rows row old new before more =
    more ∙ ap (λ (text : List ℕ). text ++ row_text columns row) before ∙ flat_map_more (row_text columns) (line_text (header_words columns)) rows row
