use Rattle.std.proofs.Common.{◌≡◌, ◌⊎◌, ℕ, ◌+◌, List, Some, length, slice_get, inl, inr, sym, ◌∙◌, ap, arith}
use Rattle.lid_check_elab.specs.Numbers.{offset_of}
use Rattle.lid_check_elab.proofs.Counting.{offset_after, offset_small}
use Rattle.lid_base.proofs.Places.{get_push}
use Rattle.lid_check_elab.proofs.sizes.offsets_of.Goals as goal

pub overflow_add-offset : goal.overflow_add-offset
overflow_add-offset c =
    let few = offset_small c.args.judged.now c.design.ensures.judged c.args.model c.requires.reached (c.loop-inst.inst + 1) in
    let next = offset_after c.args.judged.now c.args.model c.loop-inst.inst c.loop-inst.offset c.inst_size-offset.result c.loop-inst.invariant.offset c.inst_size-offset.ensures in
    omega arith

pub loop-inst-preserved : goal.loop-inst-preserved
loop-inst-preserved c =
    record {
      offset = offset_after c.args.judged.now c.args.model c.loop-inst.inst c.loop-inst.offset c.inst_size-offset.result c.loop-inst.invariant.offset c.inst_size-offset.ensures;
      few = (let a = c.in_ok-push.ensures.len in let b = c.loop-inst.invariant.few in omega arith);
      each = λ j o at. by j o (get_push c.loop-inst.offsets.items c.loop-inst.offset j o (ap (λ (os : List ℕ). slice_get os j) (sym c.in_ok-push.ensures.items) ∙ at));
    }
  where
    by : (j o : ℕ) → (slice_get c.loop-inst.offsets.items j ≡ Some o) ⊎ ((j ≡ length c.loop-inst.offsets.items) × (o ≡ c.loop-inst.offset)) → o ≡ offset_of c.args.judged.now c.args.model j
    by j o (inl older) = c.loop-inst.invariant.each j o older
    by j o (inr last) = last.1 ∙ c.loop-inst.invariant.offset ∙ ap (offset_of c.args.judged.now c.args.model) (sym (last.0 ∙ c.loop-inst.invariant.few))
