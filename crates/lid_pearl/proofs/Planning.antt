-- The programs of a pearl run its covers in an order in which each reads what is known.
use Rattle.std.proofs.Common.{◌≡◌, ℕ, ◌<◌, Bool, true, false, List, [], ◌++◌, map, refl, sym, subst}
use Rattle.std.specs.List.{AllByRecursion}
use Rattle.lid_base.specs.Lists.{Among}
use Rattle.lid_base.proofs.Lists.{all_among, map_among}
use Rattle.lid_design.specs.declared.Flat.{Flat}
use Rattle.lid_design.specs.declared.FlatLatch.{FlatLatch}
use Rattle.lid_design.specs.declared.FlatCover.{FlatCover}
use Rattle.lid_design.specs.Flat.{latch_out, latch_input, ReadEarlier, IsFlat}
use Rattle.lid_strict_engine.specs.declared.program.Program.{Program}
use Rattle.lid_strict_engine.specs.Programs.{program_covers}
use Rattle.lid_strict_engine.specs.Rows.{known_after}
use Rattle.lid_pearl.specs.Pearls.{IsSplit}
use Rattle.lid_pearl.specs.Inside.{held, IsOrdered, AreKnownMarks}
use Rattle.lid_pearl.proofs.Marking.{input_not_held, early_of, late_of}
use Rattle.lid_pearl.proofs.Reordering.{split_of, early_earlier, late_earlier, out_early, net_late, all_earlier}
use Rattle.lid_base.proofs.Alls.{all_from_among}

module _ (f : Flat) (flat : IsFlat f) where
  latch_below : (latch : FlatLatch) → Among latch f.latches → (latch.input < f.nets) × (latch.out < f.nets)
  latch_below latch among = all_among (λ (latch : FlatLatch). (latch.input < f.nets) × (latch.out < f.nets)) f.latches latch flat.below.latches among

  held_small : (k : ℕ) → Among k (held f.latches) → k < f.nets
  held_small k among = let found = map_among {A = FlatLatch} {B = ℕ} latch_out k f.latches among in subst (λ (k : ℕ). k < f.nets) (sym found.2) (latch_below found.0 found.1).1

  taken_small : (k : ℕ) → Among k (map latch_input f.latches) → k < f.nets
  taken_small k among = let found = map_among {A = FlatLatch} {B = ℕ} latch_input k f.latches among in subst (λ (k : ℕ). k < f.nets) (sym found.2) (latch_below found.0 found.1).0

  pub held_below : AllByRecursion (λ k. k < f.nets) (held f.latches)
  held_below = all_from_among (λ k. k < f.nets) (held f.latches) held_small

  taken_below : AllByRecursion (λ k. k < f.nets) (map latch_input f.latches)
  taken_below = all_from_among (λ k. k < f.nets) (map latch_input f.latches) taken_small

  -- where only latches are marked, no cover is
  pub latches_marked : (mark : ℕ → Bool) → ((k : ℕ) → Among k (held f.latches) → mark k ≡ true) → ((k : ℕ) → mark k ≡ true → Among k (held f.latches)) → AreKnownMarks f [] mark
  latches_marked mark held_are alone = record { inputs = λ k among. by k among (mark k) refl; latches = held_are; covers_marked = λ c none. absurd none }
    where
      by : (k : ℕ) → Among k f.ins → (b : Bool) → mark k ≡ b → b ≡ false
      by k among true e = absurd (input_not_held f flat k among (alone k e))
      by k among false e = refl

  module _ (m : ℕ → Bool) (marks : AreKnownMarks f f.covers m) (early late : Program) (early_is : program_covers early ≡ early_of m f.covers) (late_is : program_covers late ≡ late_of m f.covers) where
    pub is_ordered : early.nets ≡ f.nets → late.nets ≡ f.nets → IsOrdered f.nets f.ins f.outs f.latches early late
    is_ordered nets nets' = record {
      early_nets = nets;
      late_nets = nets';
      ins_below = flat.below.ins;
      outs_below = flat.below.outs;
      held_below = held_below;
      taken_below = taken_below;
      early_reads = subst (ReadEarlier (held f.latches)) (sym early_is) (early_earlier f flat m marks);
      late_reads =
          subst (λ (es : List FlatCover). ReadEarlier (f.ins ++ known_after (held f.latches) es) (program_covers late)) (sym early_is)
          (subst (ReadEarlier (f.ins ++ known_after (held f.latches) (early_of m f.covers))) (sym late_is) (late_earlier f flat m marks));
      outs_early =
          subst (λ (es : List FlatCover). AllByRecursion (λ k. Among k (known_after (held f.latches) es)) f.outs) (sym early_is)
          (all_from_among (λ k. Among k (known_after (held f.latches) (early_of m f.covers))) f.outs (out_early f flat m marks));
      taken_known =
          subst (λ (es : List FlatCover). AllByRecursion (λ k. Among k (known_after (f.ins ++ known_after (held f.latches) es) (program_covers late))) (map latch_input f.latches)) (sym early_is)
          (subst (λ (ls : List FlatCover). AllByRecursion (λ k. Among k (known_after (f.ins ++ known_after (held f.latches) (early_of m f.covers)) ls)) (map latch_input f.latches)) (sym late_is)
          (all_from_among (λ k. Among k (known_after (f.ins ++ known_after (held f.latches) (early_of m f.covers)) (late_of m f.covers))) (map latch_input f.latches) (λ k among. net_late f flat m marks k (taken_small k among))));
    }

    pub plan_split : IsSplit f.covers (program_covers early) (program_covers late)
    plan_split =
        subst (λ (es : List FlatCover). IsSplit f.covers es (program_covers late)) (sym early_is)
        (subst (IsSplit f.covers (early_of m f.covers)) (sym late_is) (split_of m f.covers))

    pub plan_earlier : ReadEarlier (f.ins ++ held f.latches) (program_covers early ++ program_covers late)
    plan_earlier =
        subst (λ (es : List FlatCover). ReadEarlier (f.ins ++ held f.latches) (es ++ program_covers late)) (sym early_is)
        (subst (λ (ls : List FlatCover). ReadEarlier (f.ins ++ held f.latches) (early_of m f.covers ++ ls)) (sym late_is) (all_earlier f flat m marks))
