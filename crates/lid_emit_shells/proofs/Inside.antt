-- The nets of a flat part lie below their number, and the lists of its wires are as long.
use Rattle.std.proofs.Common.{◌≡◌, ℕ, ◌<◌, List, sym, subst}
use Rattle.std.specs.List.{AllByRecursion}
use Rattle.lid_design.specs.declared.Flat.{Flat}
use Rattle.lid_design.specs.declared.FlatLatch.{FlatLatch}
use Rattle.lid_design.specs.declared.FlatCover.{FlatCover}
use Rattle.lid_design.specs.Flat.{IsFlat}
use Rattle.lid_emit_shells.specs.Filling.{AreNetsWithin, IsCoverWithin}

module _ (f : Flat) (rules : IsFlat f) where
  pub inputs_inside : (n : ℕ) (ks : List ℕ) → n ≡ f.nets → ks ≡ f.ins → AreNetsWithin n ks
  inputs_inside n ks many is = subst (AreNetsWithin n) (sym is) (subst (λ (m : ℕ). AreNetsWithin m f.ins) (sym many) rules.below.ins)

  pub covers_inside : (n : ℕ) (cs : List FlatCover) → n ≡ f.nets → cs ≡ f.covers → AllByRecursion (IsCoverWithin n) cs
  covers_inside n cs many is =
      subst (AllByRecursion (IsCoverWithin n)) (sym is) (subst (λ (m : ℕ). AllByRecursion (IsCoverWithin m) f.covers) (sym many) rules.below.covers)

  abbrev AreLatchesWithin : ℕ → ℕ → List FlatLatch → Type 0
  AreLatchesWithin m n ls = AllByRecursion (λ (latch : FlatLatch). (latch.input < m) × (latch.out < n)) ls

  pub latches_inside : (m n : ℕ) (ls : List FlatLatch) → m ≡ f.nets → n ≡ f.nets → ls ≡ f.latches → AreLatchesWithin m n ls
  latches_inside m n ls here after is =
      subst (AreLatchesWithin m n) (sym is)
      (subst (λ (k : ℕ). AreLatchesWithin k n f.latches) (sym here) (subst (λ (k : ℕ). AreLatchesWithin f.nets k f.latches) (sym after) rules.below.latches))
