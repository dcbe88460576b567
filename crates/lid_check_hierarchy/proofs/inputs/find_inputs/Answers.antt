use Rattle.std.proofs.Common.{◌≡◌, ℕ, ◌+◌, ◌<◌, Bool, List, [], ◌∷◌, ◌++◌, length, drop, get_or, slice_get, sym, ◌∙◌, ap, append_assoc, arith}
use Rattle.std.proofs.lemmas.Option.{same_Some}
use Rattle.lid_base.proofs.Places.{item_read}
use Rattle.lid_check_table.specs.Tables.{names_in}
use Rattle.lid_check_table.specs.Marks.{marks_of}
use Rattle.lid_check_hierarchy.specs.Nets.{clock_marks, inputs_by, inputs_of_all}
use Rattle.lid_check_hierarchy.proofs.Surveying.{made_at, made_next}
use Rattle.lid_check_hierarchy.proofs.inputs.find_inputs.Goals as goal

pub loop-k-preserved : goal.loop-k-preserved
loop-k-preserved c clocks each marked =
    let ms = c.args.tables.now in
    let marks = c.args.marks.now in
    let k = c.loop-k.k in
    let m = c.index-tables-k.result in
    let set : List (List ℕ) = get_or clocks k [] in
    let below : k < length ms = omega arith in
    let inside : k < length marks = let same = c.requires in omega arith in
    let here = item_read ms k m below c.index-tables-k.is in
    let read = item_read marks k c.index-marks-k.result inside c.index-marks-k.is in
    let row : c.index-marks-k.result ≡ marks_of (names_in m) set =
    same_Some c.index-marks-k.result (marks_of (names_in m) set) (sym read ∙ ap (λ (rows : List (List Bool)). slice_get rows k) marked ∙ made_at clock_marks ms clocks k m each here)
    in
    let told = c.in_ok-inputs_of.ensures set (c.as_slice.ensures ∙ row) in
    let done = c.loop-k.inputs.items in
    let rest = inputs_of_all (drop (k + 1) ms) (drop (k + 1) clocks) in
    ap (λ (xs : List (List (List ℕ))). xs ++ rest) c.in_ok-push.ensures.items
    ∙ append_assoc done (c.in_ok-inputs_of.field-0 ∷ []) rest
    ∙ ap (λ (x : List (List ℕ)). done ++ x ∷ rest) told
    ∙ ap (λ (xs : List (List (List ℕ))). done ++ xs) (sym (made_next inputs_by ms clocks k m each below c.index-tables-k.is))
    ∙ c.loop-k.invariant clocks each marked
