use Rattle.std.proofs.Common.{[], refl, ap, arith}
use Rattle.lid_design.specs.declared.Design.{Design}
use Rattle.lid_design.specs.Models.{IsReached, number_from}
use Rattle.lid_check_models.specs.Counts.{count_of, count_at_root}
use Rattle.std.proofs.Common.{subst, sym}
use Rattle.lid_check_models.proofs.counts.count_all.Goals as goal

pub count_model-requires : goal.count_model-requires
unfolding number_from
count_model-requires c = subst (IsReached c.args.survey.now) (sym (ap (λ (d : Design). d.root) c.design.ensures.same)) ([], refl)

pub returns : goal.returns
unfolding count_at_root
returns c =
    let root = ap (λ (d : Design). count_of c.args.what c.args.survey.now d.root) c.design.ensures.same in
    let model = c.in_ok-count.ensures in
    omega arith
