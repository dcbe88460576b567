use Rattle.std.proofs.Common.{ℕ, ◌<◌, List, [], ◌∷◌, ◌++◌, length, take, get_or, position, sym, ◌∙◌, ap, arith}
use Rattle.std.specs.Str.{bytes_eq}
use Rattle.std.proofs.lemmas.List.{take_more}
use Rattle.std.proofs.lemmas.List.Elements.{filter_map-append}
use Rattle.std.proofs.lemmas.Option.{slice_get-get_or}
use Rattle.lid_check_table.specs.Tables.{names_in}
use Rattle.lid_check_hierarchy.specs.Nets.{numbers_of}
use Rattle.lid_check_hierarchy.proofs.nets.list_numbers.Goals as goal

pub loop-place-preserved : goal.loop-place-preserved
loop-place-preserved c =
    let names = names_in c.args.table.now in
    let set = c.args.set.now in
    let i = c.loop-place.place in
    let below : i < length set = omega arith in
    let name : List ℕ = get_or set i [] in
    c.in_ok-push_number.ensures name (slice_get-get_or set i [] below)
    ∙ ap (λ (ks : List ℕ). ks ++ numbers_of names (name ∷ [])) c.loop-place.invariant
    ∙ sym (filter_map-append (λ (n : List ℕ). position (bytes_eq n) names) (take i set) (name ∷ []))
    ∙ ap (numbers_of names) (sym (take_more set i [] below))
