-- The nets of a shell in the order of its covers: their wires, and how high these stand.
use Rattle.std.proofs.Common.{◌≡◌, ℕ, zero, suc, ◌+◌, ◌<◌, ◌≤◌, inl, inr, Bool, List, [], ◌∷◌, ◌++◌, length, map, Some, None, slice_get, refl, sym, ◌∙◌, ap, subst, arith, length-append}
use Rattle.std.specs.Prelude.{if◌then◌else◌, flat_map}
use Rattle.std.proofs.lemmas.Bool.{eq-eqb, ne_eqb}
use Rattle.lid_base.specs.Lists.{Among}
use Rattle.lid_base.proofs.Lists.{all_among, among_map, get_among}
use Rattle.lid_design.specs.declared.Flat.{Flat}
use Rattle.lid_design.specs.declared.FlatLatch.{FlatLatch}
use Rattle.lid_design.specs.declared.FlatCover.{FlatCover}
use Rattle.lid_design.specs.Network.{Driver, from_latch, from_cover}
use Rattle.lid_design.specs.Flat.{flat_drivers, inputs_at, latch_at, cover_at, ReadEarlier, IsFlat}
use Rattle.lid_design.proofs.Parts.{latch_drives, cover_drives, same_of_one}
use Rattle.lid_emit_circuit.specs.Heights.{rank_in}
use Rattle.lid_base.proofs.Once.{told_there}

drives_one : (c : FlatCover) (k : ℕ) → c.out ≡ k → length (cover_at k c) ≡ 1
drives_one c k is = ap (λ (b : Bool). length {A = Driver ℕ} (if b then from_cover c.cover c.ins ∷ [] else [])) (eq-eqb c.out k is)

-- a net that a cover of a list has is driven by the list
one_there : (cs : List FlatCover) (k j : ℕ) (c : FlatCover) → slice_get cs j ≡ Some c → c.out ≡ k → 1 ≤ length (flat_map (cover_at k) cs)
one_there cs k j c here is =
    told_there (λ (c : FlatCover). c.out) cover_at (λ c. omega (arith, drives_one c c.out refl)) cs k
    (subst (λ (n : ℕ). Among n (map (λ (c : FlatCover). c.out) cs)) is (among_map (λ (c : FlatCover). c.out) c cs (get_among cs j c here)))

two_there : (cs : List FlatCover) (k i j : ℕ) (c d : FlatCover) → i < j → slice_get cs i ≡ Some c → slice_get cs j ≡ Some d → c.out ≡ k → d.out ≡ k → 2 ≤ length (flat_map (cover_at k) cs)
two_there [] k i j c d less none there is also = absurd (let e : None ≡ Some c = none in cc)
two_there (e ∷ cs) k i zero c d less here there is also = absurd (omega (arith, less))
two_there (e ∷ cs) k zero (suc j) c d less here there is also =
    let same : e ≡ c = (let h : Some e ≡ Some c = here in cc) in
    omega (arith, length-append (cover_at k e) (flat_map (cover_at k) cs), drives_one e k (ap (λ (x : FlatCover). x.out) same ∙ is), one_there cs k j d there also)
two_there (e ∷ cs) k (suc i) (suc j) c d less here there is also =
    omega (arith, length-append (cover_at k e) (flat_map (cover_at k) cs), two_there cs k i j c d (omega (arith, less)) here there is also)

-- the rank of a net is the place of the first cover that has it
rank_at : (cs : List FlatCover) (k first j : ℕ) (c : FlatCover) → slice_get cs j ≡ Some c → c.out ≡ k → ((i : ℕ) (d : FlatCover) → i < j → slice_get cs i ≡ Some d → d.out ≡ k → ⊥) → rank_in first cs k ≡ suc (first + j)
rank_at [] k first j c none is before = absurd (let e : None ≡ Some c = none in cc)
rank_at (d ∷ cs) k first zero c here is before =
    let same : d ≡ c = (let h : Some d ≡ Some c = here in cc) in
    let place : first ≡ first + 0 = omega arith in
    ap (λ (b : Bool). if b then suc first else rank_in (suc first) cs k) (eq-eqb d.out k (ap (λ (x : FlatCover). x.out) same ∙ is)) ∙ ap suc place
rank_at (d ∷ cs) k first (suc j) c here is before =
    let place : suc first + j ≡ first + suc j = omega arith in
    ap (λ (b : Bool). if b then suc first else rank_in (suc first) cs k) (ne_eqb d.out k (λ same. before 0 d (omega arith) refl same))
    ∙ rank_at cs k (suc first) j c here is (λ i e less there same. before (suc i) e (omega (arith, less)) there same)
    ∙ ap suc place

-- a net that no cover has is of rank 0
rank_none : (cs : List FlatCover) (k first : ℕ) → ((c : FlatCover) → Among c cs → c.out ≡ k → ⊥) → rank_in first cs k ≡ 0
rank_none [] k first none = refl
rank_none (d ∷ cs) k first none =
    ap (λ (b : Bool). if b then suc first else rank_in (suc first) cs k) (ne_eqb d.out k (λ same. none d (inl refl) same))
    ∙ rank_none cs k (suc first) (λ c i same. none c (inr i) same)

module _ (f : Flat) (rules : IsFlat f) where
  drivers_end : (k : ℕ) → length (flat_map (cover_at k) f.covers) ≤ 1
  unfolding flat_drivers
  drivers_end k =
      omega (arith, rules.once k, length-append (inputs_at k 0 f.ins) (flat_map (latch_at k) f.latches ++ flat_map (cover_at k) f.covers), length-append (flat_map (latch_at k) f.latches) (flat_map (cover_at k) f.covers))

  pub rank_of_cover : (j : ℕ) (c : FlatCover) → slice_get f.covers j ≡ Some c → rank_in 0 f.covers c.out ≡ suc j
  rank_of_cover j c here =
      let place : 0 + j ≡ j = omega arith in
      rank_at f.covers c.out 0 j c here refl (λ i d less there same. absurd (omega (arith, drivers_end c.out, two_there f.covers c.out i j d c less there here same refl))) ∙ ap suc place

  pub no_latch_cover : (l : FlatLatch) → Among l f.latches → (c : FlatCover) → Among c f.covers → c.out ≡ l.out → ⊥
  no_latch_cover l i c j same =
      let latch = latch_drives f l i in
      let cover = subst (λ (k : ℕ). Among {A = Driver ℕ} (from_cover c.cover c.ins) (flat_drivers f k)) same (cover_drives f c j) in
      let e : from_latch l.init l.input ≡ from_cover c.cover c.ins = same_of_one (flat_drivers f l.out) (from_latch l.init l.input) (from_cover c.cover c.ins) (rules.once l.out) latch cover in
      cc

  pub rank_of_latch : (l : FlatLatch) → Among l f.latches → rank_in 0 f.covers l.out ≡ 0
  rank_of_latch l i = rank_none f.covers l.out 0 (no_latch_cover l i)

-- what holds of inputs and latches, and of the output of a cover where it holds of what that reads, holds along covers.
-- Each place has a fact of its own, which holds at later places too
module _ (P : ℕ → ℕ → Type 0) (grow : (i j k : ℕ) → i ≤ j → P i k → P j k) where
  pub record HoldsAt (place : ℕ) (c : FlatCover) : Type 0 where
    pub reads : (k : ℕ) → Among k c.ins → P place k
    pub out : P (suc place) c.out

  pub along_covers : (known : List ℕ) (cs : List FlatCover) (first : ℕ) → ReadEarlier known cs → ((k : ℕ) → Among k known → P first k)
      → ((j : ℕ) (c : FlatCover) → slice_get cs j ≡ Some c → ((k : ℕ) → Among k c.ins → P (first + j) k) → P (suc (first + j)) c.out)
      → (j : ℕ) (c : FlatCover) → slice_get cs j ≡ Some c → HoldsAt (first + j) c
  along_covers known [] first earlier base step j c none = absurd (let e : None ≡ Some c = none in cc)
  along_covers known (d ∷ cs) first earlier base step j c here = by j here (λ i there. along_covers (d.out ∷ known) cs (suc first) earlier.1 more later i c there)
    where
      reads_here : (k : ℕ) → Among k d.ins → P first k
      reads_here k i = base k (all_among (λ k. Among k known) d.ins k earlier.0 i)

      place_zero : first + 0 ≡ first
      place_zero = omega arith

      out_here : P (suc first) d.out
      out_here = subst (λ (i : ℕ). P (suc i) d.out) place_zero (step 0 d refl (λ k i. subst (λ (m : ℕ). P m k) (sym place_zero) (reads_here k i)))

      more : (k : ℕ) → Among k (d.out ∷ known) → P (suc first) k
      more k (inl same) = subst (P (suc first)) (sym same) out_here
      more k (inr i) = grow first (suc first) k (omega arith) (base k i)

      later : (i : ℕ) (e : FlatCover) → slice_get cs i ≡ Some e → ((k : ℕ) → Among k e.ins → P (suc first + i) k) → P (suc (suc first + i)) e.out
      later i e there reads =
          let place : suc first + i ≡ first + suc i = omega arith in
          subst (λ (m : ℕ). P (suc m) e.out) (sym place) (step (suc i) e there (λ k a. subst (λ (m : ℕ). P m k) place (reads k a)))

      by : (j : ℕ) → slice_get (d ∷ cs) j ≡ Some c → ((i : ℕ) → slice_get cs i ≡ Some c → HoldsAt (suc first + i) c) → HoldsAt (first + j) c
      by zero there next =
          let same : d ≡ c = (let h : Some d ≡ Some c = there in cc) in
          subst (λ (m : ℕ). HoldsAt m c) (sym place_zero) (record { reads = λ k i. reads_here k (subst (λ (x : FlatCover). Among k x.ins) (sym same) i); out = subst (λ (x : FlatCover). P (suc first) x.out) same out_here })
      by (suc i) there next = let place : suc first + i ≡ first + suc i = omega arith in subst (λ (m : ℕ). HoldsAt m c) place (next i there)
