use Rattle.std.proofs.Common.{◌≡◌, ◌+◌, ◌∷◌, Some, get_or, sym, ◌∙◌, arith}
use Rattle.std.proofs.lemmas.Option.{slice_get-get_or}
use Rattle.lid_design.specs.Models.{instance_number}
use Rattle.lid_check_elab.specs.Numbers.{size_of, offset_of, weight_of}
use Rattle.lid_check_drivers.proofs.Limits.{few_columns}
use Rattle.lid_check_elab.proofs.Numbering.{within}
use Rattle.lid_check_elab.proofs.Stacking.{over_more, inst_at, next_pushed, weight_pushed}
use Rattle.lid_check_elab.proofs.placing.push_instance.Goals as goal

pub overflow_add-scope : goal.overflow_add-scope
overflow_add-scope c =
    let there = c.requires.there in
    let d = c.args.judged.now in
    let names : instance_number d c.args.i c.args.scope.model ≡ Some c.in-Some.model = sym c.model_of.ensures ∙ c.in-Some.is in
    let off = c.requires.offsets.each c.args.i (get_or c.args.offsets.now c.args.i 0) (slice_get-get_or c.args.offsets.now c.args.i 0 c.requires.exists) in
    let at = inst_at d there.0 c.args.scope there.1 c.args.i c.in-Some.model (get_or c.args.offsets.now c.args.i 0) names off in
    let inside = within d c.design.ensures.judged (c.args.i ∷ there.0) c.in-Some.model at.leads in
    let few = few_columns d c.design.ensures.judged in
    let start = at.start in
    omega arith

pub returns-in_ok-push-clause-next : goal.returns-in_ok-push-clause-next
returns-in_ok-push-clause-next c =
    let there = c.requires.there in
    let d = c.args.judged.now in
    let k = c.args.scope.model in
    let i = c.args.i in
    let o = get_or c.args.offsets.now i 0 in
    let names : instance_number d i k ≡ Some c.in-Some.model = sym c.model_of.ensures ∙ c.in-Some.is in
    let off = c.requires.offsets.each i o (slice_get-get_or c.args.offsets.now i 0 c.requires.exists) in
    let at = inst_at d there.0 c.args.scope there.1 i c.in-Some.model o names off in
    let more = over_more d (size_of d) k i c.in-Some.model names in
    let start : c.args.scope.start + o ≡ c.args.scope.start + offset_of d k i = omega arith in
    let sum : c.args.scope.start + offset_of d k (i + 1) ≡ (c.args.scope.start + offset_of d k i) + size_of d c.in-Some.model = omega arith in
    next_pushed d c.args.stack.now.items c.push.new.self.items _ (i ∷ there.0) (c.args.scope.start + offset_of d k i) (c.args.scope.start + offset_of d k (i + 1)) c.in_ok-push.ensures.items at start sum c.requires.after

pub returns-in_ok-push-clause-heavier : goal.returns-in_ok-push-clause-heavier
returns-in_ok-push-clause-heavier c =
    let d = c.args.judged.now in
    let k = c.args.scope.model in
    let i = c.args.i in
    let names : instance_number d i k ≡ Some c.in-Some.model = sym c.model_of.ensures ∙ c.in-Some.is in
    let more = over_more d (weight_of d) k i c.in-Some.model names in
    let pushed = weight_pushed d c.args.stack.now.items c.push.new.self.items _ c.in_ok-push.ensures.items in
    omega arith
