use Rattle.std.proofs.Common.{◌<◌, ℕ, List, length, sym, subst}
use Rattle.std.specs.List.{AllByRecursion}
use Rattle.lid_base.specs.Lists.{Among}
use Rattle.lid_design.specs.declared.FlatLatch.{FlatLatch}
use Rattle.lid_pearl.specs.Inside.{held}
use Rattle.lid_pearl.proofs.Planning.{held_below, latches_marked}
use Rattle.lid_pearl.proofs.split.mark.Goals as goal

pub mark_held-requires : goal.mark_held-requires
mark_held-requires c = record {
  below = subst (λ (ls : List FlatLatch). AllByRecursion (λ k. k < length c.args.marks.now) (held ls)) (sym c.as_slice.ensures)
      (subst (λ (n : ℕ). AllByRecursion (λ k. k < n) (held c.args.flat.now.latches)) (sym c.requires.size) (held_below c.args.flat.now c.requires.rules));
}

pub mark_covers-requires-clause-held : goal.mark_covers-requires-clause-held
mark_covers-requires-clause-held c =
    latches_marked c.args.flat.now c.requires.rules _
    (λ k among. c.mark_held.ensures.held k (subst (λ (ls : List FlatLatch). Among k (held ls)) (sym c.as_slice.ensures) among))
    (λ k is. subst (λ (ls : List FlatLatch). Among k (held ls)) c.as_slice.ensures (c.mark_held.ensures.alone k is (c.requires.none k)))
