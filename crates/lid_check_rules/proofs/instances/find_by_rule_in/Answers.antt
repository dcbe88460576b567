use Rattle.std.proofs.Common.{◌≡◌, List, length, arith, slice_get, sym, ◌∙◌, ap, refl}
use Rattle.std.proofs.lemmas.Option.{slice_get_read}
use Rattle.lid_design.specs.declared.Inst.{Inst}
use Rattle.lid_design.specs.Models.{insts_of}
use Rattle.lid_check_names.proofs.Numbers.{insts_here}
use Rattle.lid_check_rules.proofs.instances.find_by_rule_in.Goals as goal

pub overflow_cast-i : goal.overflow_cast-i
overflow_cast-i c =
    let few = c.requires.few in
    let long = ap length c.as_slice-insts.ensures in
    omega arith

pub find_by_rule_of-requires-clause-inst : goal.find_by_rule_of-requires-clause-inst
find_by_rule_of-requires-clause-inst c =
    let here : c.as_slice-insts.result.now ≡ insts_of c.args.ports.now c.args.k = c.as_slice-insts.ensures ∙ sym (insts_here c.args.ports.now c.args.k c.args.model.now c.requires.model) in
    ap (λ (insts : List Inst). slice_get insts c.loop-i.i) (sym here)
    ∙ slice_get_read c.as_slice-insts.result.now (length c.as_slice-insts.result.now) c.loop-i.i c.index-insts-i.result refl (omega arith) c.index-insts-i.is
