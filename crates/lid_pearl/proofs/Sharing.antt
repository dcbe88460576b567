-- Layouts that are the same: what is known by one of them is known by the other.
use Rattle.std.proofs.Common.{◌≡◌, ◌++◌, ℕ, Bool, List, length, map, sym, ◌∙◌, ap, subst}
use Rattle.lid_design.specs.declared.FlatLatch.{FlatLatch}
use Rattle.lid_design.specs.declared.FlatCover.{FlatCover}
use Rattle.lid_design.specs.Flat.{IsRow}
use Rattle.lid_cover.specs.declared.Cube.{Cube}
use Rattle.lid_strict_engine.specs.declared.program.Program.{Program}
use Rattle.lid_strict_engine.specs.Programs.{shown_step, program_covers}
use Rattle.lid_strict_engine.specs.Rows.{AreRightAt, known_after}
use Rattle.lid_pearl.specs.Inside.{held, laid_flat, IsOrdered, AreHeld}
use Rattle.lid_pearl.specs.declared.pearl.Layout.{Layout}
use Rattle.lid_pearl.proofs.Reordering.{flat_of}

-- programs of equal arrays have the same covers
pub same_covers : (p q : Program) → p.reads.items ≡ q.reads.items → p.cubes.items ≡ q.cubes.items → p.steps.items ≡ q.steps.items → program_covers p ≡ program_covers q
unfolding program_covers
same_covers p q reads cubes steps =
    ap (λ (rs : List ℕ). map (shown_step rs p.cubes.items) p.steps.items) reads
    ∙ ap (λ (cs : List Cube). map (shown_step q.reads.items cs) p.steps.items) cubes
    ∙ ap (map (shown_step q.reads.items q.cubes.items)) steps

-- bits of one layout are bits of another with as many nets, the same latches and the same early covers
pub held_by_same : (l m : Layout) → l.shape.nets ≡ m.shape.nets → l.shape.latches.all.items ≡ m.shape.latches.all.items
    → program_covers l.plan.early.program ≡ program_covers m.plan.early.program → (state bits : List Bool) → AreHeld l state bits → AreHeld m state bits
held_by_same l m nets latches covers state bits is = record {
  state_size = is.state_size ∙ ap length latches;
  size = is.size ∙ nets;
  settled =
      subst (λ (ls : List FlatLatch). (f : ℕ → Bool) → IsRow (program_covers m.plan.early.program) f → map f (held ls) ≡ state → AreRightAt f (known_after (held ls) (program_covers m.plan.early.program)) bits) latches
      (subst (λ (cs : List FlatCover). (f : ℕ → Bool) → IsRow cs f → map f (held l.shape.latches.all.items) ≡ state → AreRightAt f (known_after (held l.shape.latches.all.items) cs) bits) covers is.settled);
}

-- so are their flat parts, where their inputs, outputs and late covers are the same too
pub flat_by_same : (l m : Layout) → l.shape.nets ≡ m.shape.nets → l.shape.ins.items ≡ m.shape.ins.items → l.shape.outs.items ≡ m.shape.outs.items
    → l.shape.latches.all.items ≡ m.shape.latches.all.items → program_covers l.plan.early.program ≡ program_covers m.plan.early.program
    → program_covers l.plan.late.program ≡ program_covers m.plan.late.program → laid_flat l ≡ laid_flat m
flat_by_same l m nets ins outs latches early late =
    let covers = ap (λ (cs : List FlatCover). cs ++ program_covers l.plan.late.program) early ∙ ap (λ (cs : List FlatCover). program_covers m.plan.early.program ++ cs) late in
    ap (λ (x : ℕ). flat_of x l.shape.ins.items l.shape.outs.items l.shape.latches.all.items (laid_flat l).covers) nets
    ∙ ap (λ (xs : List ℕ). flat_of m.shape.nets xs l.shape.outs.items l.shape.latches.all.items (laid_flat l).covers) ins
    ∙ ap (λ (xs : List ℕ). flat_of m.shape.nets m.shape.ins.items xs l.shape.latches.all.items (laid_flat l).covers) outs
    ∙ ap (λ (xs : List FlatLatch). flat_of m.shape.nets m.shape.ins.items m.shape.outs.items xs (laid_flat l).covers) latches
    ∙ ap (λ (xs : List FlatCover). flat_of m.shape.nets m.shape.ins.items m.shape.outs.items m.shape.latches.all.items xs) covers

-- programs that are in order for some nets are so for equal ones
module _ (early late : Program) (nets nets' : ℕ) (ins outs ins' outs' : List ℕ) (latches latches' : List FlatLatch) (n : nets' ≡ nets) (i : ins' ≡ ins) (o : outs' ≡ outs) (l : latches' ≡ latches) where
  pub ordered_by_equals : IsOrdered nets ins outs latches early late → IsOrdered nets' ins' outs' latches' early late
  ordered_by_equals ordered =
      subst (λ (x : ℕ). IsOrdered x ins' outs' latches' early late) (sym n)
      (subst (λ (x : List ℕ). IsOrdered nets x outs' latches' early late) (sym i)
      (subst (λ (x : List ℕ). IsOrdered nets ins x latches' early late) (sym o)
      (subst (λ (x : List FlatLatch). IsOrdered nets ins outs x early late) (sym l) ordered)))
