use Rattle.std.proofs.Common.{◌≡◌, ℕ, ◌<◌, List, [], ◌∷◌, ◌++◌, Some, length, take, get_or, filter, slice_get, sym, ◌∙◌, ap, arith}
use Rattle.std.proofs.lemmas.List.{take_more, take_all}
use Rattle.std.proofs.lemmas.List.Elements.{filter-append}
use Rattle.std.proofs.lemmas.Option.{slice_get-get_or}
use Rattle.lid_check_table.specs.Tables.{names_in}
use Rattle.lid_check_table.proofs.Appending.{as_many, number_there}
use Rattle.lid_design.specs.Models.{is_clock_of}
use Rattle.lid_check_rules.proofs.root.keep_clocks.Goals as goal

pub loop-number-preserved : goal.loop-number-preserved
loop-number-preserved c names are =
    let all = names_in c.args.table.now in
    let p = is_clock_of c.args.ports.now c.args.k in
    let numbers = c.args.numbers.now in
    let i = c.loop-number.number-index in
    let many = as_many all names numbers are in
    let inside : i < length numbers = omega arith in
    let below : i < length names = omega arith in
    let name : List ℕ = get_or names i [] in
    let here : slice_get names i ≡ Some name = slice_get-get_or names i [] below in
    let there = number_there all names numbers i (get_or numbers i 0) name are here (slice_get-get_or numbers i 0 inside) in
    c.in_ok-keep_clock.ensures name there
    ∙ ap (λ (ns : List (List ℕ)). ns ++ filter p (name ∷ [])) (c.loop-number.invariant names are)
    ∙ sym (filter-append p (take i names) (name ∷ []))
    ∙ ap (filter p) (sym (take_more names i [] below))

pub returns : goal.returns
returns c names are =
    let many = as_many (names_in c.args.table.now) names c.args.numbers.now are in
    c.loop-number.invariant names are ∙ ap (filter (is_clock_of c.args.ports.now c.args.k)) (take_all c.loop-number.number-index names (omega arith))
