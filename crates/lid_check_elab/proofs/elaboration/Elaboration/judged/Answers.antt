use Rattle.std.proofs.Common.{◌≤◌, length, map, subst, arith}
use Rattle.std.proofs.lemmas.List.{length-map}
use Rattle.lid_check_elab.specs.Elaborated.{Elaborated}
use Rattle.lid_check_elab.specs.Elaborations.{shown_driver, IsElaborated}
use Rattle.lid_check_drivers.proofs.Limits.{few_columns}
use Rattle.lid_check_elab.proofs.elaboration.Elaboration.judged.Goals as goal

pub returns-clause-elaborated : goal.returns-clause-elaborated
returns-clause-elaborated c = subst (λ (e : Elaborated). IsElaborated e.design (map (shown_driver e.design) e.drivers) e.starts) c.self.view_is c.self.invariant

pub returns-clause-few : goal.returns-clause-few
returns-clause-few c =
    let whole = c.self.invariant.whole in
    let long = length-map c.self.inside.columns.drivers (shown_driver c.self.inside.judged) in
    let few = few_columns c.self.inside.judged c.design.ensures.judged in
    let small : length c.self.inside.columns.drivers ≤ 1048576 = omega arith in
    subst (λ (e : Elaborated). length e.drivers ≤ 1048576) c.self.view_is small
