use Rattle.std.proofs.Common.{ℕ, List, [], ◌<◌, length, map, sym, ◌∙◌, ap, subst, arith}
use Rattle.std.specs.List.{AllByRecursion}
use Rattle.std.proofs.lemmas.List.{length-map, take_all}
use Rattle.lid_base.specs.Lists.{Among}
use Rattle.lid_design.specs.declared.Design.{Design}
use Rattle.lid_design.specs.Columns.{column}
use Rattle.lid_check_elab.specs.Elaborations.{shown_driver, column_at, IsElaborated}
use Rattle.lid_check.specs.Networks.{AreNumbersOf}
use Rattle.lid_check.proofs.Placing.{item_among, place_below, place_column, numbers_more}
use Rattle.lid_check.proofs.network.number_outputs.Goals as goal

pub place_of-requires : goal.place_of-requires
place_of-requires c =
    let name = c.name-item.result in
    let names = c.outputs_of-outputs.result.now in
    subst (λ (ns : List (List ℕ)). Among name ns) c.outputs_of-outputs.ensures (item_among names c.loop-name.name-index name c.loop-name-test.true c.name-item.is)

pub overflow_cast-place_of : goal.overflow_cast-place_of
overflow_cast-place_of c =
    let d = c.judged-judged.result.now in
    let below = place_below d (map (shown_driver c.args.columns.now.design) c.args.columns.now.drivers) c.args.columns.now.starts (subst (λ (e : Design). IsElaborated e (map (shown_driver c.args.columns.now.design) c.args.columns.now.drivers) c.args.columns.now.starts) (sym c.judged-judged.ensures.same) c.judged-judged.ensures.elaborated) c.name-item.result c.place_of.result c.place_of.ensures in
    let long = length-map c.args.columns.now.drivers (shown_driver c.args.columns.now.design) in
    let few = c.judged-judged.ensures.few in
    omega arith

pub loop-name-preserved : goal.loop-name-preserved
loop-name-preserved c =
    let d = c.judged-judged.result.now in
    let name = c.name-item.result in
    let names = c.outputs_of-outputs.result.now in
    let place = c.place_of.result in
    let network = map (shown_driver c.args.columns.now.design) c.args.columns.now.drivers in
    let starts = c.args.columns.now.starts in
    let long = length-map c.args.columns.now.drivers (shown_driver c.args.columns.now.design) in
    let room = subst (λ (n : ℕ). place < n) long (place_below d network starts (subst (λ (e : Design). IsElaborated e (map (shown_driver c.args.columns.now.design) c.args.columns.now.drivers) c.args.columns.now.starts) (sym c.judged-judged.ensures.same) c.judged-judged.ensures.elaborated) name place c.place_of.ensures) in
    numbers_more d (length c.args.columns.now.drivers) names c.loop-name.name-index name c.loop-name.numbers.items c.push.new.self.items place c.loop-name-test.true c.name-item.is c.loop-name.invariant.0 c.loop-name.invariant.1 c.in_ok-push.ensures.items room
    (place_column d network starts (subst (λ (e : Design). IsElaborated e (map (shown_driver c.args.columns.now.design) c.args.columns.now.drivers) c.args.columns.now.starts) (sym c.judged-judged.ensures.same) c.judged-judged.ensures.elaborated) name place c.place_of.ensures)

pub returns : goal.returns
returns c =
    let d = c.judged-judged.result.now in
    let names = c.outputs_of-outputs.result.now in
    subst (λ (e : Design). AreNumbersOf e (length c.args.columns.now.drivers) c.from_vec.result) c.judged-judged.ensures.same (record {
      below = subst (AllByRecursion (λ (k : ℕ). k < length c.args.columns.now.drivers)) (sym c.from_vec.ensures) c.loop-name.invariant.0;
      outputs =
          ap (map (column_at d)) c.from_vec.ensures
          ∙ c.loop-name.invariant.1
          ∙ ap (map (column [])) (take_all c.loop-name.name-index names c.loop-name-test.false ∙ c.outputs_of-outputs.ensures);
    })
