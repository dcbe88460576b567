-- A flat part that meets its rules: net 0 is an input, net 1 a latch that is given out, and net 2 a
-- cover of both that the latch takes.
use Rattle.std.proofs.Common.{◌≡◌, ℕ, zero, suc, ◌<◌, ◌≤◌, ◌==◌, inl, inr, Bool, true, false, cond, List, [], ◌∷◌, ◌++◌, length, refl, subst, arith}
use Rattle.std.proofs.lemmas.Bool.{eqb-true}
use Rattle.lid_base.specs.Lists.{Among}
use Rattle.lid_cover.specs.declared.Cover.{Cover}
use Rattle.lid_design.specs.declared.Flat.{Flat}
use Rattle.lid_design.specs.Network.{Driver, from_input, from_latch, from_cover}
use Rattle.lid_design.specs.Walks.{IsDriven, IsDrivenOnce}
use Rattle.lid_design.specs.Feeds.{read_now, EdgesLead}
use Rattle.lid_design.specs.Flat.{flat_drivers, IsNumbered, IsFlatCover, IsFlat}

abbrev both : Cover
both = record { inputs = 2; on = true; cubes = record { care = 3; value = 3 } ∷ [] }

abbrev part : Flat
part = record { nets = 3; ins = 0 ∷ []; outs = 1 ∷ []; latches = record { input = 2; out = 1; init = false } ∷ []; covers = record { ins = 0 ∷ 1 ∷ []; out = 2; cover = both } ∷ [] }

once : IsDrivenOnce (flat_drivers part)
unfolding flat_drivers
once k = by (0 == k) (1 == k) (2 == k) (eqb-true 0 k) (eqb-true 1 k) (eqb-true 2 k)
  where
    if_one : Bool → Driver ℕ → List (Driver ℕ)
    if_one b s = cond b (s ∷ []) [] ++ []

    by : (p q r : Bool) → (p ≡ true → 0 ≡ k) → (q ≡ true → 1 ≡ k) → (r ≡ true → 2 ≡ k) → length {A = Driver ℕ} (if_one p (from_input 0) ++ (if_one q (from_latch false 2) ++ if_one r (from_cover both (0 ∷ 1 ∷ [])))) ≤ 1
    by true true r zeroth first second = absurd (let e : 0 ≡ k = zeroth refl in let e' : 1 ≡ k = first refl in omega arith)
    by true false true zeroth first second = absurd (let e : 0 ≡ k = zeroth refl in let e' : 2 ≡ k = second refl in omega arith)
    by true false false zeroth first second = omega arith
    by false true true zeroth first second = absurd (let e : 1 ≡ k = first refl in let e' : 2 ≡ k = second refl in omega arith)
    by false true false zeroth first second = omega arith
    by false false true zeroth first second = omega arith
    by false false false zeroth first second = omega arith

driven : (k : ℕ) → k < 3 → IsDriven (flat_drivers part) k
unfolding flat_drivers
driven zero h = omega arith
driven (suc zero) h = omega arith
driven (suc (suc zero)) h = omega arith
driven (suc (suc (suc k))) h = absurd (omega arith)

none_into_latch : (n a : ℕ) → EdgesLead (flat_drivers part) n a 1 → n ≡ 0
unfolding flat_drivers
none_into_latch zero a w = refl
none_into_latch (suc n) a w = elim w.2.1 [ inl same ↦ absurd (subst (λ (s : Driver ℕ). Among w.0 (read_now s)) same w.2.2) | inr none ↦ absurd none ]

apart : (n input output : ℕ) → Among input (0 ∷ []) → Among output (1 ∷ []) → ¬ EdgesLead (flat_drivers part) n input output
apart zero input output (inl zeroth) (inl first) w = absurd (let e = zeroth in let e' = first in let e'' : input ≡ output = w in omega arith)
apart (suc n) input output (inl zeroth) (inl first) w =
    absurd (let e : suc n ≡ 0 = none_into_latch (suc n) input (subst (λ (k : ℕ). EdgesLead (flat_drivers part) (suc n) input k) first w) in omega arith)
apart n input output (inr none) there w = absurd none
apart n input output (inl zeroth) (inr none) w = absurd none

pub part_meets : (f : Flat) × IsFlat f × (length f.ins ≡ 1) × (length f.latches ≡ 1) × (length f.covers ≡ 1) × (length f.outs ≡ 1)
part_meets = (part, record { below = below; once = once; driven = driven; earlier = ((inl refl, (inr (inl refl), tt)), tt); apart = apart; covers = (cover, tt) }, refl, refl, refl, refl)
  where
    below : IsNumbered part
    below = record { ins = (omega arith, tt); outs = (omega arith, tt); latches = ((omega arith, omega arith), tt); covers = (((omega arith, (omega arith, tt)), omega arith), tt) }

    cover : IsFlatCover (record { ins = 0 ∷ 1 ∷ []; out = 2; cover = both })
    cover = (record { width = omega arith; cubes = (record { in_range = omega arith; within = refl }, tt) }, refl)
