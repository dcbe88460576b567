-- Wires that shells and stations read have names that are no longer than others.
use Rattle.std.proofs.Common.{◌≡◌, ◌⊎◌, ℕ, suc, ◌<◌, ◌≤◌, inl, inr, List, Some, slice_get, refl, sym, subst, arith}
use Rattle.lid_base.specs.Lists.{Among}
use Rattle.lid_base.proofs.Lists.{all_among, get_among}
use Rattle.lid_design.specs.declared.Flat.{Flat}
use Rattle.lid_design.specs.declared.FlatLatch.{FlatLatch}
use Rattle.lid_design.specs.declared.FlatCover.{FlatCover}
use Rattle.lid_emit_circuit.specs.Wires.{Wire}
use Rattle.lid_emit_circuit.specs.Plans.{CircuitPlan}
use Rattle.lid_emit_circuit.specs.Carried.{PassesNet, MakesNet}
use Rattle.lid_emit_circuit.specs.Connected.{IsReadWire, IsPutWire, IsConnected}
use Rattle.lid_emit_circuit.proofs.Nets.{at_net}
use Rattle.lid_emit_laws.specs.Shortness.{word_most}

module _ (q : CircuitPlan) (con : IsConnected q) (name : Wire → List ℕ) where
  abbrev pub IsInner : Wire → Type 0
  IsInner w = word_most name w ≤ 79

  read_inner : (w : Wire) → IsReadWire q w → IsInner w
  read_inner w (inl is) = subst IsInner (sym is.1) (omega arith)
  read_inner w (inr is) = subst IsInner (sym is.3) (omega arith)

  module _ (v : ℕ) where
    abbrev f : Flat
    f = q.flat v

    abbrev Here : ℕ → ℕ → Type 0
    Here i k = IsInner (q.here v k)

    here_cover : (j : ℕ) (c : FlatCover) → slice_get f.covers j ≡ Some c → ((k : ℕ) → Among k c.ins → Here j k) → Here (suc j) c.out
    here_cover j c there reads = by ((con.wired v).covers c (get_among f.covers j c there))
      where
        by : PassesNet (q.here v) (q.after v) (q.skips v) c ⊎ MakesNet v (q.here v) (q.after v) (q.skips v) c → Here (suc j) c.out
        by (inl p) = subst IsInner (sym p.as_here) (reads p.net (subst (Among p.net) (sym p.reads) (inl refl)))
        by (inr m) = subst IsInner (sym m.by_now) (omega arith)

    pub here_inner : (k : ℕ) → k < f.nets → IsInner (q.here v k)
    here_inner k below =
        at_net q con v Here (λ i j k less inner. inner) (λ k i. read_inner (q.here v k) (con.ins v k i).0)
        (λ l i. subst IsInner (sym ((con.wired v).latches l i).0) (omega arith)) here_cover k below

    abbrev After : ℕ → ℕ → Type 0
    After i k = IsInner (q.after v k)

    after_latch : (l : FlatLatch) → Among l f.latches → After 0 l.out
    after_latch l i =
        let input = (all_among (λ (l : FlatLatch). (l.input < f.nets) × (l.out < f.nets)) f.latches l (con.rules v).below.latches i).0 in
        subst IsInner (sym ((con.wired v).latches l i).1) (here_inner l.input input)

    after_cover : (j : ℕ) (c : FlatCover) → slice_get f.covers j ≡ Some c → ((k : ℕ) → Among k c.ins → After j k) → After (suc j) c.out
    after_cover j c there reads = by ((con.wired v).covers c (get_among f.covers j c there))
      where
        by : PassesNet (q.here v) (q.after v) (q.skips v) c ⊎ MakesNet v (q.here v) (q.after v) (q.skips v) c → After (suc j) c.out
        by (inl p) = subst IsInner (sym p.as_after) (reads p.net (subst (Among p.net) (sym p.reads) (inl refl)))
        by (inr m) = subst IsInner (sym m.by_later) (omega arith)

    pub after_inner : (k : ℕ) → k < f.nets → IsInner (q.after v k)
    after_inner k below = at_net q con v After (λ i j k less inner. inner) (λ k i. read_inner (q.after v k) (con.ins v k i).1) after_latch after_cover k below

  pub put_inner : (s j : ℕ) → s < q.stations → j < q.width s → IsInner (q.put s j)
  put_inner s j there within = by (con.put s j there within)
    where
      by : IsPutWire q (q.put s j) → IsInner (q.put s j)
      by (inl entry) = subst IsInner (sym entry.1) (omega arith)
      by (inr (inl read)) = read_inner (q.put s j) read
      by (inr (inr net)) = subst IsInner (sym net.2) (after_inner net.0 net.1 net.3)

  pub shows_inner : (w : Wire) → Among w q.shows → IsInner w
  shows_inner w there = read_inner w (con.shows w there)
