-- Two rows of a flat part agree where what they read agrees; and at outputs where latches alone agree.
use Rattle.std.proofs.Common.{◌≡◌, ℕ, zero, suc, ◌<◌, ◌⊎◌, inl, inr, Bool, List, [], ◌∷◌, ◌++◌, map, refl, sym, ◌∙◌, ap, subst}
use Rattle.lid_base.specs.Lists.{Among}
use Rattle.lid_base.proofs.Lists.{all_among, among_append, map_among, some_item}
use Rattle.lid_cover.specs.Cover.{cover_value}
use Rattle.lid_design.specs.declared.Flat.{Flat}
use Rattle.lid_design.specs.declared.FlatLatch.{FlatLatch}
use Rattle.lid_design.specs.declared.FlatCover.{FlatCover}
use Rattle.lid_design.specs.Network.{Driver, from_cover}
use Rattle.lid_design.specs.Flat.{flat_drivers, latch_out, ReadEarlier, IsRow, IsFlat}
use Rattle.lid_design.proofs.Parts.{cover_drives, driver_is, IsDriverOf}
use Rattle.lid_pearl.specs.Inside.{IsFromInput}
use Rattle.lid_system.proofs.Points.{input_among}

module _ (g h : ℕ → Bool) (Fed : ℕ → Type 0) where
  abbrev Same : ℕ → Type 0
  Same k = (g k ≡ h k) ⊎ Fed k

  -- all of a list agree, or one of them is fed
  all_or_one : (ks : List ℕ) → ((k : ℕ) → Among k ks → Same k) → (map g ks ≡ map h ks) ⊎ ((k : ℕ) × Among k ks × Fed k)
  all_or_one [] same = inl refl
  all_or_one (k ∷ ks) same = by (same k (inl refl)) (all_or_one ks (λ x i. same x (inr i)))
    where
      by : Same k → (map g ks ≡ map h ks) ⊎ ((x : ℕ) × Among x ks × Fed x) → (map g (k ∷ ks) ≡ map h (k ∷ ks)) ⊎ ((x : ℕ) × Among x (k ∷ ks) × Fed x)
      by (inl here) (inl later) = inl (let e : g k ≡ h k = here in let e' : map g ks ≡ map h ks = later in cc)
      by (inl here) (inr found) = inr (found.0, inr found.1, found.2)
      by (inr fed) rest = inr (k, inl refl, fed)

  -- what a cover gives
  one_cover : (c : FlatCover) → ((k : ℕ) → Among k c.ins → Fed k → Fed c.out) → g c.out ≡ cover_value c.cover (map g c.ins) → h c.out ≡ cover_value c.cover (map h c.ins) → ((k : ℕ) → Among k c.ins → Same k) → Same c.out
  one_cover c feeds here there same = by (all_or_one c.ins same)
    where
      by : (map g c.ins ≡ map h c.ins) ⊎ ((k : ℕ) × Among k c.ins × Fed k) → Same c.out
      by (inl all) = inl (here ∙ ap (cover_value c.cover) all ∙ sym there)
      by (inr found) = inr (feeds found.0 found.1 found.2)

  outs_agree : (known : List ℕ) (cs : List FlatCover) → ReadEarlier known cs → IsRow cs g → IsRow cs h → ((c : FlatCover) → Among c cs → (k : ℕ) → Among k c.ins → Fed k → Fed c.out) → ((k : ℕ) → Among k known → Same k) → (c : FlatCover) → Among c cs → Same c.out
  outs_agree known [] earlier here there feeds same c none = absurd none
  outs_agree known (d ∷ cs) earlier here there feeds same c among =
      by (one_cover d (feeds d (inl refl)) here.0 there.0 (λ k i. same k (all_among (λ k. Among k known) d.ins k earlier.0 i)))
      (λ first c later. outs_agree (d.out ∷ known) cs earlier.1 here.1 there.1 (λ c i. feeds c (inr i)) (more first) c later) among
    where
      more : Same d.out → (k : ℕ) → Among k (d.out ∷ known) → Same k
      more first k (inl is) = subst Same (sym is) first
      more first k (inr i) = same k i

      by : Same d.out → (Same d.out → (c : FlatCover) → Among c cs → Same c.out) → Among c (d ∷ cs) → Same c.out
      by first next (inl is) = subst (λ (x : FlatCover). Same x.out) (sym is) first
      by first next (inr later) = next first c later

  module _ (f : Flat) (rules : IsFlat f) (here : IsRow f.covers g) (there : IsRow f.covers h) (feeds : (c : FlatCover) → Among c f.covers → (k : ℕ) → Among k c.ins → Fed k → Fed c.out) (inputs : (k : ℕ) → Among k f.ins → Same k) (latches : (l : FlatLatch) → Among l f.latches → g l.out ≡ h l.out) where
    known_agree : (k : ℕ) → Among k (f.ins ++ map latch_out f.latches) → Same k
    known_agree k among = by (among_append k f.ins (map latch_out f.latches) among)
      where
        by : Among k f.ins ⊎ Among k (map latch_out f.latches) → Same k
        by (inl i) = inputs k i
        by (inr i) = let found = map_among {A = FlatLatch} {B = ℕ} latch_out k f.latches i in subst Same (sym found.2) (inl (latches found.0 found.1))

    pub agree_at : (k : ℕ) → k < f.nets → Same k
    agree_at k below = by (driver_is f k (one k below).0 (one k below).1)
      where
        one : (k : ℕ) → k < f.nets → (s : Driver ℕ) × Among s (flat_drivers f k)
        one k below = some_item (flat_drivers f k) (rules.driven k below)

        by : IsDriverOf f k (one k below).0 → Same k
        by (inl input) = inputs k (input_among f k input.0 (subst (λ (s : Driver ℕ). Among s (flat_drivers f k)) input.1 (one k below).1))
        by (inr (inl latch)) = subst Same latch.2 (inl (latches latch.0 latch.1))
        by (inr (inr cover)) = subst Same cover.2 (outs_agree (f.ins ++ map latch_out f.latches) f.covers rules.earlier here there feeds known_agree cover.0 cover.1)

module _ (f : Flat) (rules : IsFlat f) (g h : ℕ → Bool) (here : IsRow f.covers g) (there : IsRow f.covers h) (latches : (l : FlatLatch) → Among l f.latches → g l.out ≡ h l.out) where
  -- rows that agree at inputs and latches agree
  pub rows_agree : ((k : ℕ) → Among k f.ins → g k ≡ h k) → (k : ℕ) → k < f.nets → g k ≡ h k
  rows_agree inputs k below = by (agree_at g h (λ x. ⊥) f rules here there (λ c i x j none. none) (λ x i. inl (inputs x i)) latches k below)
    where
      by : (g k ≡ h k) ⊎ ⊥ → g k ≡ h k
      by (inl same) = same
      by (inr none) = absurd none

  -- those that agree at latches agree at outputs
  pub outputs_agree : (k : ℕ) → Among k f.outs → g k ≡ h k
  outputs_agree k out = by (agree_at g h (IsFromInput f) f rules here there feeds (λ x i. inr (zero, x, i, refl)) latches k (all_among (λ k. k < f.nets) f.outs k rules.below.outs out))
    where
      feeds : (c : FlatCover) → Among c f.covers → (x : ℕ) → Among x c.ins → IsFromInput f x → IsFromInput f c.out
      feeds c i x j before = (suc before.0, before.1, before.2, (x, before.3, (from_cover c.cover c.ins, cover_drives f c i, j)))

      by : (g k ≡ h k) ⊎ IsFromInput f k → g k ≡ h k
      by (inl same) = same
      by (inr fed) = absurd (rules.apart fed.0 fed.1 k fed.2 out fed.3)
