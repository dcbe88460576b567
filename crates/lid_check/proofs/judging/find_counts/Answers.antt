use Rattle.std.proofs.Common.{length, sym, ◌∙◌, ap, subst}
use Rattle.lid_design.specs.declared.Design.{Design}
use Rattle.lid_design.specs.Loops.{pearls}
use Rattle.lid_design.specs.Elaboration.{count_latches, count_defaulted}
use Rattle.lid_check_rules.specs.Acceptance.{ModelsPass}
use Rattle.lid_check.proofs.judging.find_counts.Goals as goal

pub count_latches-requires : goal.count_latches-requires
count_latches-requires c = subst ModelsPass (sym (c.survey-survey.ensures.same ∙ c.judged.ensures.same)) c.requires.models

pub returns : goal.returns
returns c =
    let seen = c.survey-survey.ensures.same ∙ c.judged.ensures.same in
    record {
      pearls = c.count_pearls.ensures ∙ ap (λ (e : Design). length (pearls e)) seen;
      latches = c.in_ok-latches.ensures.0 ∙ ap count_latches seen;
      defaulted = c.in_ok-latches.ensures.1 ∙ ap count_defaulted seen;
    }
