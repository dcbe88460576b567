use Rattle.std.proofs.Common.{ℕ, sym, ◌∙◌, ap, subst}
use Rattle.lid_design.proofs.Reached.{root_reached}
use Rattle.lid_design.specs.declared.Design.{Design}
use Rattle.lid_design.specs.Models.{IsReached, data_inputs_of}
use Rattle.lid_check.proofs.Flats.{ports_apart}
use Rattle.lid_check.proofs.judging.find_ports.Goals as goal

pub find_inputs-requires : goal.find_inputs-requires
find_inputs-requires c =
    let d = c.survey-survey.result.now in
    subst (λ (k : ℕ). IsReached d k) (sym (ap (λ (e : Design). e.root) c.design.ensures.same)) (root_reached d)

pub find_parts-requires : goal.find_parts-requires
find_parts-requires c = ports_apart c.args.columns.now.design c.requires.outputs

pub returns : goal.returns
returns c =
    let seen = c.survey-survey.ensures.same ∙ c.judged.ensures.same in
    record {
      inputs = c.in_ok-inputs.ensures ∙ ap (λ (e : Design). data_inputs_of c.survey-survey.result.now e.root) c.design.ensures.same ∙ ap (λ (e : Design). data_inputs_of e e.root) seen;
      outputs = c.in_ok-outputs.ensures;
      parts = c.in_ok-parts.ensures;
    }
