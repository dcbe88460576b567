use Rattle.std.proofs.Common.{List, length, slice_get, refl, sym, ◌∙◌, ap, arith}
use Rattle.std.proofs.lemmas.Option.{slice_get_read}
use Rattle.lid_design.specs.declared.Inst.{Inst}
use Rattle.lid_check_hierarchy.proofs.clocks.add_all_bound.Goals as goal

pub add_bound-requires-clause-inst : goal.add_bound-requires-clause-inst
add_bound-requires-clause-inst c =
    let insts = c.args.insts.now in
    ap (λ (xs : List Inst). slice_get xs c.loop-i.i) (sym c.requires.insts)
    ∙ slice_get_read insts (length insts) c.loop-i.i c.index-insts-i.result refl (let h = c.loop-i-test.true in let e = c.loop-i.auto.i-end in omega arith) c.index-insts-i.is
