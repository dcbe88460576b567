-- The nets of a shell have wires of the plan, which stand as high as covers go.
use Rattle.std.proofs.Common.{◌≡◌, ℕ, suc, ◌+◌, ◌<◌, ◌≤◌, ◌⊎◌, inl, inr, false, ◌++◌, map, Some, slice_get, refl, sym, subst, arith}
use Rattle.std.proofs.lemmas.Option.{slice_get_within}
use Rattle.lid_base.specs.Lists.{Among}
use Rattle.lid_base.proofs.Lists.{all_among, among_append, map_among, among_get, get_among, some_item}
use Rattle.lid_design.specs.declared.Flat.{Flat}
use Rattle.lid_design.specs.declared.FlatLatch.{FlatLatch}
use Rattle.lid_design.specs.declared.FlatCover.{FlatCover}
use Rattle.lid_design.specs.Network.{Driver}
use Rattle.lid_design.specs.Flat.{flat_drivers, latch_out}
use Rattle.lid_design.proofs.Parts.{driver_is, IsDriverOf}
use Rattle.lid_system.proofs.Points.{input_among}
use Rattle.lid_emit_circuit.specs.Wires.{Wire}
use Rattle.lid_emit_circuit.specs.Plans.{CircuitPlan}
use Rattle.lid_emit_circuit.specs.Carried.{AreWired, PassesNet, MakesNet}
use Rattle.lid_emit_circuit.specs.Known.{IsKnown, is_late}
use Rattle.lid_emit_circuit.specs.Heights.{cover_count, height}
use Rattle.lid_emit_circuit.specs.Connected.{IsReadWire, IsConnected}
use Rattle.lid_emit_circuit.proofs.Ranks.{HoldsAt, along_covers, rank_of_cover, rank_of_latch}

-- a wire of the plan to which no input leads, at most so high
pub record IsCalm (q : CircuitPlan) (most : ℕ) (wire : Wire) : Type 0 where
  pub known : IsKnown q wire
  pub calm : is_late wire ≡ false
  pub low : height q wire ≤ most

pub calm_higher : (q : CircuitPlan) (i j : ℕ) (wire : Wire) → i ≤ j → IsCalm q i wire → IsCalm q j wire
calm_higher q i j wire less c = record { known = c.known; calm = c.calm; low = omega (arith, less, c.low) }

pub read_calm : (q : CircuitPlan) (wire : Wire) (most : ℕ) → IsReadWire q wire → IsCalm q most wire
read_calm q wire most (inl is) = subst (IsCalm q most) (sym is.1) (record { known = tt; calm = refl; low = omega arith })
read_calm q wire most (inr is) = subst (IsCalm q most) (sym is.3) (record { known = is.4; calm = refl; low = omega arith })

module _ (q : CircuitPlan) (con : IsConnected q) (v : ℕ) where
  abbrev f : Flat
  f = q.flat v

  abbrev wired : AreWired v (q.flat v) (q.here v) (q.after v) (q.skips v)
  wired = con.wired v

  -- the facts of this kind hold of each net where they hold of inputs, of latches and along covers
  module _ (P : ℕ → ℕ → Type 0) (grow : (i j k : ℕ) → i ≤ j → P i k → P j k) (inputs : (k : ℕ) → Among k f.ins → P 0 k) (latches : (l : FlatLatch) → Among l f.latches → P 0 l.out)
      (step : (j : ℕ) (c : FlatCover) → slice_get f.covers j ≡ Some c → ((k : ℕ) → Among k c.ins → P j k) → P (suc j) c.out) where
    base : (k : ℕ) → Among k (f.ins ++ map latch_out f.latches) → P 0 k
    base k there = by (among_append k f.ins (map latch_out f.latches) there)
      where
        by : Among k f.ins ⊎ Among k (map latch_out f.latches) → P 0 k
        by (inl i) = inputs k i
        by (inr i) = let found = map_among {A = FlatLatch} {B = ℕ} latch_out k f.latches i in subst (P 0) (sym found.2) (latches found.0 found.1)

    pub at_cover : (j : ℕ) (c : FlatCover) → slice_get f.covers j ≡ Some c → HoldsAt P grow j c
    at_cover j c here =
        let from_zero : 0 + j ≡ j = omega arith in
        subst (λ (i : ℕ). HoldsAt P grow i c) from_zero (along_covers P grow (f.ins ++ map latch_out f.latches) f.covers 0 (con.rules v).earlier base steps j c here)
      where
        steps : (i : ℕ) (d : FlatCover) → slice_get f.covers i ≡ Some d → ((k : ℕ) → Among k d.ins → P (0 + i) k) → P (suc (0 + i)) d.out
        steps i d there reads =
            let from_zero : 0 + i ≡ i = omega arith in
            subst (λ (m : ℕ). P (suc m) d.out) (sym from_zero) (step i d there (λ k a. subst (λ (m : ℕ). P m k) from_zero (reads k a)))

    pub at_net : (k : ℕ) → k < f.nets → P (cover_count q v) k
    at_net k below = by (driver_is f k (one k below).0 (one k below).1)
      where
        one : (k : ℕ) → k < f.nets → (s : Driver ℕ) × Among s (flat_drivers f k)
        one k below = some_item (flat_drivers f k) ((con.rules v).driven k below)

        by : IsDriverOf f k (one k below).0 → P (cover_count q v) k
        by (inl input) = grow 0 (cover_count q v) k (omega arith) (inputs k (input_among f k input.0 (subst (λ (s : Driver ℕ). Among s (flat_drivers f k)) input.1 (one k below).1)))
        by (inr (inl latch)) = subst (P (cover_count q v)) latch.2 (grow 0 (cover_count q v) latch.0.out (omega arith) (latches latch.0 latch.1))
        by (inr (inr cover)) =
            let at = among_get f.covers cover.0 cover.1 in
            let within = slice_get_within f.covers at.0 cover.0 at.1 in
            subst (P (cover_count q v)) cover.2 (grow (suc at.0) (cover_count q v) cover.0.out within (at_cover at.0 cover.0 at.1).out)

  abbrev Here : ℕ → ℕ → Type 0
  Here i k = IsCalm q i (q.here v k)

  here_grow : (i j k : ℕ) → i ≤ j → Here i k → Here j k
  here_grow i j k less c = calm_higher q i j (q.here v k) less c

  here_input : (k : ℕ) → Among k f.ins → Here 0 k
  here_input k i = read_calm q (q.here v k) 0 (con.ins v k i).0

  here_latch : (l : FlatLatch) → Among l f.latches → Here 0 l.out
  here_latch l i = subst (IsCalm q 0) (sym (wired.latches l i).0) (record { known = inl (l, i, refl); calm = refl; low = omega (arith, rank_of_latch f (con.rules v) l i) })

  here_cover : (j : ℕ) (c : FlatCover) → slice_get f.covers j ≡ Some c → ((k : ℕ) → Among k c.ins → Here j k) → Here (suc j) c.out
  here_cover j c there reads = by (wired.covers c (get_among f.covers j c there))
    where
      by : PassesNet (q.here v) (q.after v) (q.skips v) c ⊎ MakesNet v (q.here v) (q.after v) (q.skips v) c → Here (suc j) c.out
      by (inl p) = subst (IsCalm q (suc j)) (sym p.as_here) (here_grow j (suc j) p.net (omega arith) (reads p.net (subst (Among p.net) (sym p.reads) (inl refl))))
      by (inr m) = subst (IsCalm q (suc j)) (sym m.by_now) (record { known = inr (c, get_among f.covers j c there, refl, m.made); calm = refl; low = omega (arith, rank_of_cover f (con.rules v) j c there) })

  pub here_at : (j : ℕ) (c : FlatCover) → slice_get f.covers j ≡ Some c → (k : ℕ) → Among k c.ins → IsCalm q j (q.here v k)
  here_at j c there = (at_cover Here here_grow here_input here_latch here_cover j c there).reads

  pub here_net : (k : ℕ) → k < f.nets → IsCalm q (cover_count q v) (q.here v k)
  here_net k below = at_net Here here_grow here_input here_latch here_cover k below

  abbrev After : ℕ → ℕ → Type 0
  After i k = IsCalm q ((cover_count q v + 1) + i) (q.after v k)

  after_grow : (i j k : ℕ) → i ≤ j → After i k → After j k
  after_grow i j k less c = calm_higher q ((cover_count q v + 1) + i) ((cover_count q v + 1) + j) (q.after v k) (omega (arith, less)) c

  after_input : (k : ℕ) → Among k f.ins → After 0 k
  after_input k i = read_calm q (q.after v k) ((cover_count q v + 1) + 0) (con.ins v k i).1

  after_latch : (l : FlatLatch) → Among l f.latches → After 0 l.out
  after_latch l i =
      let input = (all_among (λ (l : FlatLatch). (l.input < f.nets) × (l.out < f.nets)) f.latches l (con.rules v).below.latches i).0 in
      subst (IsCalm q ((cover_count q v + 1) + 0)) (sym (wired.latches l i).1) (calm_higher q (cover_count q v) ((cover_count q v + 1) + 0) (q.here v l.input) (omega arith) (here_net l.input input))

  after_cover : (j : ℕ) (c : FlatCover) → slice_get f.covers j ≡ Some c → ((k : ℕ) → Among k c.ins → After j k) → After (suc j) c.out
  after_cover j c there reads = by (wired.covers c (get_among f.covers j c there))
    where
      by : PassesNet (q.here v) (q.after v) (q.skips v) c ⊎ MakesNet v (q.here v) (q.after v) (q.skips v) c → After (suc j) c.out
      by (inl p) = subst (IsCalm q ((cover_count q v + 1) + suc j)) (sym p.as_after) (after_grow j (suc j) p.net (omega arith) (reads p.net (subst (Among p.net) (sym p.reads) (inl refl))))
      by (inr m) = subst (IsCalm q ((cover_count q v + 1) + suc j)) (sym m.by_later) (record { known = (c, get_among f.covers j c there, refl, m.made); calm = refl; low = omega (arith, rank_of_cover f (con.rules v) j c there) })

  pub after_at : (j : ℕ) (c : FlatCover) → slice_get f.covers j ≡ Some c → (k : ℕ) → Among k c.ins → IsCalm q ((cover_count q v + 1) + j) (q.after v k)
  after_at j c there = (at_cover After after_grow after_input after_latch after_cover j c there).reads

  pub after_net : (k : ℕ) → k < f.nets → IsCalm q ((cover_count q v + 1) + cover_count q v) (q.after v k)
  after_net k below = at_net After after_grow after_input after_latch after_cover k below
