use Rattle.std.proofs.Common.{◌≡◌, ◌+◌, ◌<◌, List, length, get_or, refl, sym, ◌∙◌, ap, arith}
use Rattle.std.specs.List.{flat_map, enumerate_from}
use Rattle.std.proofs.lemmas.List.{length-map}
use Rattle.lid_design.specs.declared.Model.{Model}
use Rattle.lid_design.specs.declared.Inst.{Inst}
use Rattle.lid_design.specs.Models.{actual_names, actual_of}
use Rattle.lid_check_table.specs.Tables.{names_in}
use Rattle.lid_check_drivers.specs.Locals.{outputs_of}
use Rattle.lid_check_elab.proofs.Driving.{left_item}
use Rattle.lid_check_elab.proofs.Naming.{numbers_here, split_next}
use Rattle.lid_check_elab.proofs.driven.push_insts.Goals as goal

pub push_inst-requires-clause-actuals : goal.push_inst-requires-clause-actuals
push_inst-requires-clause-actuals c =
    let m = c.args.table.now in
    let x = c.index-insts-i.result in
    let insts : c.as_slice-insts.result.now ≡ m.insts = c.as_slice-insts.ensures ∙ ap (λ (m : Model). m.insts) c.model.ensures in
    let below : c.loop-i.i < length m.insts = omega (arith, ap (λ (is : List Inst). length is) insts) in
    let is = c.index-insts-i.is ∙ ap (λ (is : List Inst). get_or is c.loop-i.i x) insts in
    let own : c.len.result ≡ length (actual_names x) = c.len.ensures ∙ sym (length-map x.binds actual_of) in
    let split = split_next actual_names (names_in m) m.insts c.loop-i.i x c.loop-i.left.now c.split_at.result.0.now c.split_at.result.1.now c.len.result is below c.loop-i.invariant.left own c.split_at.ensures.front c.split_at.ensures.back in
    numbers_here c.args.judged.now c.args.model m c.requires.model (actual_names x) c.split_at.result.0.now split.front

pub loop-i-preserved : goal.loop-i-preserved
loop-i-preserved c =
    let d = c.args.judged.now in
    let m = c.args.table.now in
    let i = c.loop-i.i in
    let x = c.index-insts-i.result in
    let insts : c.as_slice-insts.result.now ≡ m.insts = c.as_slice-insts.ensures ∙ ap (λ (m : Model). m.insts) c.model.ensures in
    let below : i < length m.insts = omega (arith, ap (λ (is : List Inst). length is) insts) in
    let is = c.index-insts-i.is ∙ ap (λ (is : List Inst). get_or is i x) insts in
    let own : c.len.result ≡ length (actual_names x) = c.len.ensures ∙ sym (length-map x.binds actual_of) in
    let split = split_next actual_names (names_in m) m.insts i x c.loop-i.left.now c.split_at.result.0.now c.split_at.result.1.now c.len.result is below c.loop-i.invariant.left own c.split_at.ensures.front c.split_at.ensures.back in
    record {
      pushed = left_item d c.args.model (λ (ys : List Inst). flat_map (outputs_of d) (enumerate_from i ys)) (λ (ys : List Inst). flat_map (outputs_of d) (enumerate_from (i + 1) ys)) (outputs_of d (i, x)) m.insts i x (λ ys. refl) below is c.loop-i.into c.push_inst.new.into c.args.into.now (flat_map (outputs_of d) (enumerate_from 0 m.insts)) c.in_ok-push_inst.ensures c.loop-i.invariant.pushed;
      left = split.back;
    }
