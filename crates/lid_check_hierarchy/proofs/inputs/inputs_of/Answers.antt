use Rattle.std.proofs.Common.{◌≡◌, ℕ, ◌<◌, Bool, true, false, not, cond, List, [], ◌∷◌, ◌++◌, Some, length, take, get_or, filter, slice_get, refl, sym, ◌∙◌, ap, arith}
use Rattle.std.proofs.lemmas.List.{take_more, take_all}
use Rattle.std.proofs.lemmas.List.Elements.{filter-append}
use Rattle.std.proofs.lemmas.Option.{slice_get-get_or}
use Rattle.lid_design.specs.Columns.{is_among}
use Rattle.lid_check_table.specs.Tables.{names_in}
use Rattle.lid_check_table.proofs.Appending.{as_many, number_there}
use Rattle.lid_check_table.proofs.Marking.{mark_here}
use Rattle.lid_check_hierarchy.specs.Nets.{names_outside}
use Rattle.lid_check_hierarchy.proofs.inputs.inputs_of.Goals as goal

otherwise : (b : Bool) (xs : List (List ℕ)) → cond b [] xs ≡ cond (not b) xs []
otherwise true xs = refl
otherwise false xs = refl

pub loop-number-preserved : goal.loop-number-preserved
loop-number-preserved c clocks marked =
    let m = c.args.table.now in
    let all = names_in m in
    let inputs = m.inputs in
    let marks = c.args.marks.now in
    let p = λ (net : List ℕ). not (is_among net clocks) in
    let numbers = c.inputs-number-items.result.now in
    let i = c.loop-number.number-index in
    let many = as_many all inputs numbers c.inputs-number-items.ensures in
    let inside : i < length numbers = omega arith in
    let below : i < length inputs = omega arith in
    let name : List ℕ = get_or inputs i [] in
    let number : ℕ = get_or numbers i 0 in
    let there : slice_get all number ≡ Some name = number_there all inputs numbers i number name c.inputs-number-items.ensures (slice_get-get_or inputs i [] below) (slice_get-get_or numbers i 0 inside) in
    c.in_ok-push_unmarked.ensures name there
    ∙ ap (λ (ns : List (List ℕ)). ns ++ cond (get_or marks number false) [] (name ∷ [])) (c.loop-number.invariant clocks marked)
    ∙ ap (λ (b : Bool). names_outside clocks (take i inputs) ++ cond b [] (name ∷ [])) (mark_here (λ n. is_among n clocks) all marks number name marked there)
    ∙ ap (λ (ns : List (List ℕ)). names_outside clocks (take i inputs) ++ ns) (otherwise (is_among name clocks) (name ∷ []))
    ∙ sym (filter-append p (take i inputs) (name ∷ []))
    ∙ ap (filter p) (sym (take_more inputs i [] below))

pub returns : goal.returns
returns c clocks marked =
    let m = c.args.table.now in
    let many = as_many (names_in m) m.inputs c.inputs-number-items.result.now c.inputs-number-items.ensures in
    c.loop-number.invariant clocks marked ∙ ap (names_outside clocks) (take_all c.loop-number.number-index m.inputs (omega arith))
