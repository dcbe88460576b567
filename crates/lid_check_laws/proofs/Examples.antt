-- Designs that meet the plain facts: a model that gives out its latch, which takes the input and the latch
-- together; and a root with one instance of it.
use Rattle.std.proofs.Common.{◌≡◌, ℕ, ◌<◌, true, false, List, [], ◌∷◌, length, Some, None, slice_get, inl, inr, refl, sym, ◌∙◌, ap, subst, arith}
use Rattle.std.specs.List.{IsDistinct}
use Rattle.std.specs.Str.{bytes_eq}
use Rattle.lid_base.specs.Lists.{Among}
use Rattle.lid_base.proofs.Lists.{bytes_same}
use Rattle.lid_cover.specs.declared.Cover.{Cover}
use Rattle.lid_design.specs.declared.Design.{Design}
use Rattle.lid_design.specs.declared.Model.{Model}
use Rattle.lid_design.specs.declared.Cell.{Cell}
use Rattle.lid_design.specs.declared.Cell.TheVariants.{Names, Latch}
use Rattle.lid_design.specs.declared.LatchKind.TheVariants.{Plain}
use Rattle.lid_design.specs.declared.Init.TheVariants.{Zero}
use Rattle.lid_design.specs.declared.Inst.{Inst}
use Rattle.lid_design.specs.WellFormed.{IsWellFormed}
use Rattle.lid_check_laws.specs.Plain.{IsUnclocked, AreAmong, IsPlainPearl, IsRising, IsApart, IsPlainInst, IsPlainRoot}

abbrev a : List ℕ
a = 97 ∷ []

abbrev n : List ℕ
n = 110 ∷ []

abbrev q : List ℕ
q = 113 ∷ []

abbrev both : Cover
both = record { inputs = 2; on = true; cubes = record { care = 3; value = 3 } ∷ [] }

abbrev leaf : Model
leaf = record { name = 108 ∷ []; inputs = a ∷ []; outputs = q ∷ []; clocks = []; cells = Names (a ∷ q ∷ []) n both ∷ Latch n q Plain None Zero ∷ []; insts = [] }

abbrev inst : Inst
inst = record { model = 108 ∷ []; binds = record { formal = a; actual = a } ∷ record { formal = q; actual = q } ∷ [] }

abbrev top : Model
top = record { name = 116 ∷ []; inputs = a ∷ []; outputs = q ∷ []; clocks = []; cells = []; insts = inst ∷ [] }

abbrev heights : List (List ℕ × ℕ)
heights = (a, 0) ∷ (q, 0) ∷ (n, 1) ∷ []

abbrev late : List (List ℕ)
late = a ∷ n ∷ []

other : (x y : List ℕ) → bytes_eq x y ≡ false → x ≡ y → ⊥
other x y apart same = absurd (let e : true ≡ false = sym (bytes_same x y same) ∙ apart in cc)

leaf_plain : IsPlainPearl leaf
unfolding IsDistinct
leaf_plain = record { insts = refl; clocks = refl; cells = cells; outputs = (tt, tt); once = ((refl, (refl, tt)), ((refl, tt), (tt, tt))); driven = driven }
  where
    cells : (cell : Cell) → Among cell leaf.cells → IsUnclocked cell
    cells cell (inl is) = subst IsUnclocked (sym is) tt
    cells cell (inr (inl is)) = subst IsUnclocked (sym is) (refl, refl)
    cells cell (inr (inr none)) = absurd none

    driven : AreAmong (a ∷ q ∷ n ∷ q ∷ []) (a ∷ n ∷ q ∷ [])
    driven name (inl is) = inl is
    driven name (inr (inl is)) = inr (inr (inl is))
    driven name (inr (inr (inl is))) = inr (inl is)
    driven name (inr (inr (inr (inl is)))) = inr (inr (inl is))
    driven name (inr (inr (inr (inr none)))) = absurd none

-- the only cover of the model
record IsBoth (inputs : List (List ℕ)) (out : List ℕ) : Type 0 where
  inputs_are : inputs ≡ a ∷ q ∷ []
  out_is : out ≡ n

only : (inputs : List (List ℕ)) (out : List ℕ) (cover : Cover) → Among (Names inputs out cover) leaf.cells → IsBoth inputs out
only inputs out cover (inl is) = record { inputs_are = cc; out_is = cc }
only inputs out cover (inr (inl is)) = absurd (let e : Names inputs out cover ≡ Latch n q Plain None Zero = is in cc)
only inputs out cover (inr (inr none)) = absurd none

leaf_rising : IsRising heights leaf
leaf_rising = record { some = some; lower = lower }
  where
    some : (inputs : List (List ℕ)) (out : List ℕ) (cover : Cover) → Among (Names inputs out cover) leaf.cells → (h : ℕ) × Among {A = List ℕ × ℕ} (out, h) heights
    some inputs out cover there = (1, inr (inr (inl (ap (λ (x : List ℕ). (x, 1)) (only inputs out cover there).out_is))))

    high : (out : List ℕ) (h : ℕ) → out ≡ n → Among {A = List ℕ × ℕ} (out, h) heights → h ≡ 1
    high out h is (inl e) = absurd (other n a refl (sym is ∙ ap (λ (p : List ℕ × ℕ). p.0) e))
    high out h is (inr (inl e)) = absurd (other n q refl (sym is ∙ ap (λ (p : List ℕ × ℕ). p.0) e))
    high out h is (inr (inr (inl e))) = ap (λ (p : List ℕ × ℕ). p.1) e
    high out h is (inr (inr (inr none))) = absurd none

    low : (net : List ℕ) → Among net (a ∷ q ∷ []) → Among {A = List ℕ × ℕ} (net, 0) heights
    low net (inl is) = inl (ap (λ (x : List ℕ). (x, 0)) is)
    low net (inr (inl is)) = inr (inl (ap (λ (x : List ℕ). (x, 0)) is))
    low net (inr (inr none)) = absurd none

    lower : (inputs : List (List ℕ)) (out : List ℕ) (cover : Cover) (net : List ℕ) (h : ℕ) → Among (Names inputs out cover) leaf.cells → Among net inputs → Among {A = List ℕ × ℕ} (out, h) heights → (low : ℕ) × (low < h) × Among {A = List ℕ × ℕ} (net, low) heights
    lower inputs out cover net h there among has =
        let is = only inputs out cover there in
        let one = high out h is.out_is has in
        (0, omega arith, low net (subst (λ (nets : List (List ℕ)). Among net nets) is.inputs_are among))

leaf_apart : IsApart late leaf
leaf_apart = record { inputs = given; kept = λ inputs out cover net there among before. inr (inl (only inputs out cover there).out_is); outputs = out }
  where
    given : AreAmong (a ∷ []) late
    given name (inl is) = inl is
    given name (inr none) = absurd none

    out : (name : List ℕ) → Among name (q ∷ []) → ¬ Among name late
    out name (inl is) (inl e) = other q a refl (sym is ∙ e)
    out name (inl is) (inr (inl e)) = other q n refl (sym is ∙ e)
    out name (inl is) (inr (inr none)) = absurd none
    out name (inr none) among = absurd none

abbrev lone : Design
lone = record { models = leaf ∷ []; root = 0 }

pub lone_plain : (d : Design) × (m : Model) × (heights : List (List ℕ × ℕ)) × (late : List (List ℕ)) × (slice_get d.models d.root ≡ Some m) × IsPlainPearl m × IsRising heights m × IsApart late m × (length m.inputs ≡ 1) × (length m.outputs ≡ 1) × (length m.cells ≡ 2)
lone_plain = (lone, leaf, heights, late, refl, leaf_plain, leaf_rising, leaf_apart, refl, refl, refl)

abbrev assembled : Design
assembled = record { models = top ∷ leaf ∷ []; root = 0 }

assembled_formed : IsWellFormed assembled
unfolding IsDistinct
assembled_formed = record {
  rooted = omega arith;
  few = omega arith;
  distinct = ((refl, tt), (tt, tt));
  insts = (omega arith, (omega arith, tt));
  cells = (tt, (((record { width = omega arith; cubes = (record { in_range = omega arith; within = refl }, tt) }, refl), (tt, tt)), tt));
}

inst_plain : IsPlainInst assembled inst leaf
unfolding IsDistinct
inst_plain = record { there = inr (inl refl); named = refl; once = ((refl, tt), (tt, tt)); ports = λ name among. among; bound = bound; pearl = leaf_plain }
  where
    bound : AreAmong (a ∷ []) (a ∷ q ∷ [])
    bound name (inl is) = inl is
    bound name (inr none) = absurd none

top_plain : IsPlainRoot assembled top
unfolding IsDistinct
top_plain = record { some = omega arith; few = omega arith; clocks = refl; logic = λ cell none. absurd none; outputs = (tt, tt); once = ((refl, tt), (tt, tt)); driven = driven; insts = insts }
  where
    driven : AreAmong (a ∷ q ∷ q ∷ []) (a ∷ q ∷ [])
    driven name (inl is) = inl is
    driven name (inr (inl is)) = inr (inl is)
    driven name (inr (inr (inl is))) = inr (inl is)
    driven name (inr (inr (inr none))) = absurd none

    insts : (x : Inst) → Among x (inst ∷ []) → (sub : Model) × IsPlainInst assembled x sub
    insts x (inl is) = (leaf, subst (λ (y : Inst). IsPlainInst assembled y leaf) (sym is) inst_plain)
    insts x (inr none) = absurd none

top_rising : IsRising heights top
top_rising = record { some = λ inputs out cover none. absurd none; lower = λ inputs out cover net h none. absurd none }

subs : (x : Inst) (sub : Model) → Among x top.insts → IsPlainInst assembled x sub → IsRising heights sub × IsApart late sub
subs x sub among bound = by bound.there
  where
    by : Among sub (top ∷ leaf ∷ []) → IsRising heights sub × IsApart late sub
    by (inl is) =
        let none : length sub.insts ≡ 0 = ap length bound.pearl.insts in
        let one : length sub.insts ≡ 1 = ap (λ (m : Model). length m.insts) is in
        absurd (omega arith)
    by (inr (inl is)) = subst (λ (m : Model). IsRising heights m × IsApart late m) (sym is) (leaf_rising, leaf_apart)
    by (inr (inr none)) = absurd none

pub assembled_plain : (d : Design) × (m : Model) × (heights : Model → List (List ℕ × ℕ)) × (late : Model → List (List ℕ)) × IsWellFormed d × (slice_get d.models d.root ≡ Some m) × IsPlainRoot d m × IsRising (heights m) m × ((inst : Inst) (sub : Model) → Among inst m.insts → IsPlainInst d inst sub → IsRising (heights sub) sub × IsApart (late sub) sub) × (length m.inputs ≡ 1) × (length m.outputs ≡ 1) × (length m.insts ≡ 1)
assembled_plain = (assembled, top, (λ m. heights), (λ m. late), assembled_formed, refl, top_plain, top_rising, subs, refl, refl, refl)
