use Rattle.std.proofs.Common.{◌≡◌, ℕ, ◌<◌, List, length, slice_get, slice_index_or, sym, ◌∙◌, ap, arith}
use Rattle.std.proofs.lemmas.Option.{get_or_from_slice_get}
use Rattle.lid_design.specs.declared.Inst.{Inst}
use Rattle.lid_design.specs.Models.{insts_of}
use Rattle.lid_check_names.proofs.Numbers.{insts_here}
use Rattle.lid_check_models.proofs.Counting.{counts_init, counts_step}
use Rattle.lid_base.proofs.Places.{item_at}
use Rattle.lid_check_models.proofs.counts.count_with_insts.Goals as goal

pub loop-i-init : goal.loop-i-init
loop-i-init c =
    let here : c.args.model.now.insts ≡ insts_of c.args.survey.now c.args.k = sym (insts_here c.args.survey.now c.args.k c.args.model.now c.requires.model) in
    record {
      small = let e = c.count_own-count.ensures in omega arith;
      rest = counts_init c.args.what c.args.survey.now (λ (j : ℕ). slice_index_or c.args.counts.now j 0) c.args.k c.count_own-count.result c.args.model.now.insts here c.count_own-count.ensures;
    }

pub loop-i-preserved : goal.loop-i-preserved
loop-i-preserved c =
    let insts = c.args.model.now.insts in
    let h : c.loop-i.i < length insts = omega arith in
    let here : insts ≡ insts_of c.args.survey.now c.args.k = sym (insts_here c.args.survey.now c.args.k c.args.model.now c.requires.model) in
    let found = item_at insts c.loop-i.i h in
    let joined = c.join_inst-count.ensures found.0 (ap (λ (insts : List Inst). slice_get insts c.loop-i.i) (sym here) ∙ found.1) in
    record {
      small = let e = joined in omega arith;
      rest =
          counts_step c.args.what c.args.survey.now (λ (j : ℕ). slice_index_or c.args.counts.now j 0) insts c.loop-i.i found.0 c.loop-i.count c.join_inst-count.result h (sym (get_or_from_slice_get insts c.loop-i.i found.0 found.0 found.1)) joined
          ∙ c.loop-i.invariant.rest;
    }
