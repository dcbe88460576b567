use Rattle.std.proofs.Common.{◌≡◌, ◌+◌, ◌++◌, ℕ, List, length, map, sym, ◌∙◌, ap, arith}
use Rattle.std.proofs.lemmas.List.{length-map}
use Rattle.lid_design.specs.Network.{Driver}
use Rattle.lid_design.specs.Elaboration.{model_nets}
use Rattle.lid_check_elab.specs.Elaborations.{shown_driver}
use Rattle.lid_check_elab.specs.Numbers.{start_of}
use Rattle.lid_check_elab.specs.Templates.{seen_around}
use Rattle.lid_check_elab.specs.Scopes.{picked_driver}
use Rattle.lid_check_drivers.proofs.Limits.{few_columns}
use Rattle.lid_check_elab.proofs.Numbering.{within}
use Rattle.lid_check_elab.proofs.Outer.{picks_fit, placed_more, same_network, on_ok, lengths}
use Rattle.lid_check_elab.proofs.placing.place_scope.Goals as goal

pub push_drivers-requires-clause-start : goal.push_drivers-requires-clause-start
push_drivers-requires-clause-start c =
    let there = c.requires.there in
    let few = few_columns c.args.judged.now c.design.ensures.judged in
    let inside = within c.args.judged.now c.design.ensures.judged there.0 c.args.scope.model there.1.leads in
    let start = there.1.start in
    omega arith

pub push_drivers-requires-clause-picks : goal.push_drivers-requires-clause-picks
push_drivers-requires-clause-picks c = (picks_fit c.args.judged.now c.design.ensures.judged c.requires.there.0 c.args.scope.model c.requires.there.1.leads c.scope_template-template.result.now c.scope_template-template.ensures (seen_around c.around_of-around.result) (c.around_of-around.ensures c.requires.there.0 c.requires.there.1) c.as_slice.ensures c.as_slice-2.ensures c.as_slice-3.ensures).within

pub push_drivers-requires-clause-small : goal.push_drivers-requires-clause-small
push_drivers-requires-clause-small c = (picks_fit c.args.judged.now c.design.ensures.judged c.requires.there.0 c.args.scope.model c.requires.there.1.leads c.scope_template-template.result.now c.scope_template-template.ensures (seen_around c.around_of-around.result) (c.around_of-around.ensures c.requires.there.0 c.requires.there.1) c.as_slice.ensures c.as_slice-2.ensures c.as_slice-3.ensures).small

pub returns-clause-after : goal.returns-clause-after
returns-clause-after c =
    let there = c.requires.there in
    let d = c.args.judged.now in
    let k = c.args.scope.model in
    let t = c.scope_template-template.result.now in
    let around = seen_around c.around_of-around.result in
    let outer = c.around_of-around.ensures there.0 there.1 in
    let old : List (Driver ℕ) = map (shown_driver d) c.args.drivers.now.items in
    let new : List (Driver ℕ) = map (shown_driver d) c.push_drivers.new.drivers.items in
    let network = same_network d c.args.scope.start (start_of d there.0) c.as_slice.result.now t.offsets around c.as_slice-2.result.now t.locals c.as_slice-3.result.now t.picks (sym there.1.start) c.as_slice.ensures c.as_slice-2.ensures c.as_slice-3.ensures in
    let long : length old ≡ length c.args.drivers.now.items = length-map c.args.drivers.now.items (shown_driver d) in
    let start : start_of d there.0 ≡ length old = there.1.start ∙ c.requires.next ∙ sym long in
    on_ok (λ whole. placed_more d c.design.ensures.judged there.0 k there.1.leads t c.scope_template-template.ensures around outer old new start c.requires.before (whole ∙ ap (λ (ss : List (Driver ℕ)). old ++ ss) network)) c.push_drivers.result c.push_drivers.ensures

pub returns-clause-long : goal.returns-clause-long
returns-clause-long c =
    let d = c.args.judged.now in
    let picks : length c.as_slice-3.result.now ≡ length (model_nets d c.args.scope.model) = ap length c.as_slice-3.ensures ∙ c.scope_template-template.ensures.picked.long in
    on_ok (λ whole. lengths (shown_driver d) (picked_driver d c.args.scope.start c.as_slice.result.now (seen_around c.around_of-around.result) c.as_slice-2.result.now) c.push_drivers.new.drivers.items c.args.drivers.now.items c.as_slice-3.result.now whole ∙ ap (λ (n : ℕ). length c.args.drivers.now.items + n) picks) c.push_drivers.result c.push_drivers.ensures
