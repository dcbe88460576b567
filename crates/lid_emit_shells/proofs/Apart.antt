-- Inputs, latches and covers of a flat part each have nets of their own.
use Rattle.std.proofs.Common.{ℕ, ◌+◌, ◌≤◌, ◌==◌, ◌⊎◌, inl, inr, Bool, if◌then◌else◌, List, [], ◌∷◌, ◌++◌, length, length-append, map, refl, sym, ap, arith}
use Rattle.std.specs.List.{flat_map}
use Rattle.std.proofs.lemmas.Bool.{eq-eqb}
use Rattle.lid_base.specs.Lists.{Among, AreOnce}
use Rattle.lid_base.proofs.Lists.{among_append}
use Rattle.lid_design.specs.declared.Flat.{Flat}
use Rattle.lid_design.specs.declared.FlatLatch.{FlatLatch}
use Rattle.lid_design.specs.declared.FlatCover.{FlatCover}
use Rattle.lid_design.specs.Network.{Driver, from_input, from_latch, from_cover}
use Rattle.lid_design.specs.Flat.{inputs_at, latch_at, cover_at, flat_drivers, latch_out, IsFlat}
use Rattle.lid_base.proofs.Once.{told_there, told_once}
use Rattle.lid_emit_shells.specs.Filling.{cover_out}

abbrev input_if : ℕ → Bool → List (Driver ℕ)
input_if j b = if b then from_input j ∷ [] else []

abbrev latch_if : FlatLatch → Bool → List (Driver ℕ)
latch_if l b = if b then from_latch l.init l.input ∷ [] else []

abbrev cover_if : FlatCover → Bool → List (Driver ℕ)
cover_if c b = if b then from_cover c.cover c.ins ∷ [] else []

input_there : (ks : List ℕ) (k j : ℕ) → Among k ks → 1 ≤ length (inputs_at k j ks)
input_there [] k j none = absurd none
input_there (n ∷ ks) k j (inl is) = omega (arith, length-append (input_if j (n == k)) (inputs_at k (j + 1) ks), ap (λ (b : Bool). length (input_if j b)) (eq-eqb n k (sym is)))
input_there (n ∷ ks) k j (inr there) = omega (arith, length-append (input_if j (n == k)) (inputs_at k (j + 1) ks), input_there ks k (j + 1) there)

inputs_once : (ks : List ℕ) (j : ℕ) → ((k : ℕ) → length (inputs_at k j ks) ≤ 1) → AreOnce ks
inputs_once [] j few = tt
inputs_once (n ∷ ks) j few = (
  (λ there. omega (arith, few n, length-append (input_if j (n == n)) (inputs_at n (j + 1) ks), ap (λ (b : Bool). length (input_if j b)) (eq-eqb n n refl), input_there ks n (j + 1) there)),
  inputs_once ks (j + 1) (λ k. omega (arith, few k, length-append (input_if j (n == k)) (inputs_at k (j + 1) ks))),
)

latch_own : (l : FlatLatch) → 1 ≤ length (latch_at l.out l)
latch_own l = omega (arith, ap (λ (b : Bool). length (latch_if l b)) (eq-eqb l.out l.out refl))

cover_own : (c : FlatCover) → 1 ≤ length (cover_at c.out c)
cover_own c = omega (arith, ap (λ (b : Bool). length (cover_if c b)) (eq-eqb c.out c.out refl))

module _ (f : Flat) (rules : IsFlat f) where
  few : (k : ℕ) → length (inputs_at k 0 f.ins) + (length (flat_map (latch_at k) f.latches) + length (flat_map (cover_at k) f.covers)) ≤ 1
  unfolding flat_drivers
  few k =
      omega (arith, rules.once k, length-append (inputs_at k 0 f.ins) (flat_map (latch_at k) f.latches ++ flat_map (cover_at k) f.covers), length-append (flat_map (latch_at k) f.latches) (flat_map (cover_at k) f.covers))

  pub each_input_once : AreOnce f.ins
  each_input_once = inputs_once f.ins 0 (λ k. omega (arith, few k))

  pub each_latch_once : AreOnce (map latch_out f.latches)
  each_latch_once = told_once latch_out latch_at latch_own f.latches (λ k. omega (arith, few k))

  pub each_cover_once : AreOnce (map cover_out f.covers)
  each_cover_once = told_once cover_out cover_at cover_own f.covers (λ k. omega (arith, few k))

  pub no_input_of_latch : (k : ℕ) → Among k f.ins → Among k (map latch_out f.latches) → ⊥
  no_input_of_latch k i j = omega (arith, few k, input_there f.ins k 0 i, told_there latch_out latch_at latch_own f.latches k j)

  pub no_input_of_cover : (k : ℕ) → Among k f.ins → Among k (map cover_out f.covers) → ⊥
  no_input_of_cover k i j = omega (arith, few k, input_there f.ins k 0 i, told_there cover_out cover_at cover_own f.covers k j)

  pub no_latch_of_cover : (k : ℕ) → Among k (map latch_out f.latches) → Among k (map cover_out f.covers) → ⊥
  no_latch_of_cover k i j = omega (arith, few k, told_there latch_out latch_at latch_own f.latches k i, told_there cover_out cover_at cover_own f.covers k j)

  pub no_known_of_cover : (k : ℕ) → Among k (f.ins ++ map latch_out f.latches) → Among k (map cover_out f.covers) → ⊥
  no_known_of_cover k there out = by (among_append k f.ins (map latch_out f.latches) there)
    where
      by : Among k f.ins ⊎ Among k (map latch_out f.latches) → ⊥
      by (inl i) = no_input_of_cover k i out
      by (inr i) = no_latch_of_cover k i out
