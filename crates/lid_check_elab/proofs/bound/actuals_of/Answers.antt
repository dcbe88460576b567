use Rattle.std.proofs.Common.{◌≡◌, length, map, sym, ◌∙◌}
use Rattle.std.proofs.lemmas.List.{length-map}
use Rattle.lid_design.specs.Models.{actual_names, actual_of}
use Rattle.lid_check_elab.specs.Templates.{model_names}
use Rattle.lid_check_elab.specs.Parts.{places_in_inst}
use Rattle.lid_check_elab.proofs.Driving.{drop_item}
use Rattle.lid_check_elab.proofs.Naming.{split_next, mapped_next}
use Rattle.lid_check_elab.proofs.bound.actuals_of.Goals as goal

pub find_bound-requires-clause-actuals : goal.find_bound-requires-clause-actuals
find_bound-requires-clause-actuals c =
    let x = c.index-insts-i.result in
    let own : c.len.result ≡ length (actual_names x) = c.len.ensures ∙ sym (length-map x.binds actual_of) in
    let split = split_next actual_names (model_names c.args.judged.now c.args.model) c.insts_at-insts.result.now c.loop-i.i x c.loop-i.left.now c.split_at.result.0.now c.split_at.result.1.now c.len.result c.index-insts-i.is c.loop-i-test.true c.loop-i.invariant.left own c.split_at.ensures.front c.split_at.ensures.back in
    split.front

pub loop-i-preserved : goal.loop-i-preserved
loop-i-preserved c =
    let d = c.args.judged.now in
    let k = c.args.model in
    let xs = c.insts_at-insts.result.now in
    let i = c.loop-i.i in
    let x = c.index-insts-i.result in
    let own : c.len.result ≡ length (actual_names x) = c.len.ensures ∙ sym (length-map x.binds actual_of) in
    let split = split_next actual_names (model_names d k) xs i x c.loop-i.left.now c.split_at.result.0.now c.split_at.result.1.now c.len.result c.index-insts-i.is c.loop-i-test.true c.loop-i.invariant.left own c.split_at.ensures.front c.split_at.ensures.back in
    record {
      found = mapped_next (places_in_inst d k) c.loop-i.all.items c.push.new.self.items xs i x c.in_ok-find_bound.field-0 (map (places_in_inst d k) xs) c.in_ok-push.ensures.items c.in_ok-find_bound.ensures (drop_item xs i x c.loop-i-test.true c.index-insts-i.is) c.loop-i.invariant.found;
      left = split.back;
    }
