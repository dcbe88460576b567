use Rattle.std.proofs.Common.{rules, ◌≡◌, ℕ, ◌<◌, false, List, [], length, Option, Some, option_and_then, slice_index_or, sym, ◌∙◌, ap}
use Rattle.std.specs.Option.{option_map_or}
use Rattle.std.proofs.lemmas.List.{get_or_default}
use Rattle.lid_base.proofs.Results.{on_ok}
use Rattle.lid_design.specs.declared.Inst.{Inst}
use Rattle.lid_design.specs.declared.Bind.{Bind}
use Rattle.lid_design.specs.Models.{number_named}
use Rattle.lid_check_names.specs.Names.{is_among, texts}
use Rattle.lid_check_hierarchy.specs.Clocks.{binds_to, inst_binds, in_sets}
use Rattle.lid_check_hierarchy.proofs.Growing.{grows_like}
use Rattle.lid_check_hierarchy.proofs.clocks.add_bound.Goals as goal

pub returns-in-Some : goal.returns-in-Some
returns-in-Some c =
    let d = c.args.uses.now in
    let sets = c.args.sets.now in
    let inst = c.args.inst.now in
    let sub = c.in-Some.sub in
    let number : number_named d inst.model ≡ Some sub =
    ap (λ (o : Option Inst). option_and_then (λ i. number_named d i.model) o) (sym c.requires.inst) ∙ sym c.model_of.ensures ∙ c.in-Some.is in
    let below : sub < length sets = search rules in
    let same : c.index-sets-sub.result ≡ slice_index_or sets sub [] = c.index-sets-sub.is ∙ get_or_default sets sub c.index-sets-sub.result [] below in
    on_ok c.add_actuals.result
    (grows_like (λ net. binds_to (λ formal. is_among formal c.index-sets-sub.result) net c.as_slice.result.now) (λ net. inst_binds d (in_sets sets) net inst) (texts c.args.list.now.items) (texts c.add_actuals.new.list.items)
    (λ net.
    ap (λ (binds : List Bind). binds_to (λ formal. is_among formal c.index-sets-sub.result) net binds) c.as_slice.ensures
    ∙ ap (λ (set : List (List ℕ)). binds_to (λ formal. is_among formal set) net inst.binds) same
    ∙ ap (λ (o : Option ℕ). option_map_or (λ j. binds_to (in_sets sets j) net inst.binds) o false) (sym number)))
    c.add_actuals.ensures
