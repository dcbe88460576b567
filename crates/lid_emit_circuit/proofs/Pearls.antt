-- The nets of shells: the wires of each row meet the covers of the flat part, and so do those after a firing.
use Rattle.std.proofs.Common.{◌≡◌, ℕ, ◌<◌, ◌⊎◌, inl, inr, Bool, true, false, not, List, [], ◌∷◌, length, map, refl, sym, ◌∙◌, ap}
use Rattle.std.specs.Prelude.{if◌then◌else◌, flat_map}
use Rattle.std.proofs.lemmas.Simd.{map-map}
use Rattle.lid_base.specs.Lists.{Among}
use Rattle.lid_base.proofs.Lists.{all_among, among_flat}
use Rattle.lid_cover.specs.Cover.{cover_value}
use Rattle.lid_design.specs.declared.Flat.{Flat}
use Rattle.lid_design.specs.declared.FlatLatch.{FlatLatch}
use Rattle.lid_design.specs.declared.FlatCover.{FlatCover}
use Rattle.lid_design.specs.Network.{Driver, from_latch, from_cover, Table, bit_of, latch_bit, IsStrict}
use Rattle.lid_design.specs.Flat.{flat_drivers, IsRow}
use Rattle.lid_design.proofs.Parts.{latch_drives, cover_drives}
use Rattle.lid_emit_circuit.specs.Wires.{Wire, fire, now, kept, later}
use Rattle.lid_emit_circuit.specs.Gates.{choice}
use Rattle.lid_emit_circuit.specs.Plans.{CircuitPlan}
use Rattle.lid_emit_circuit.specs.Network.{now_from, kept_from, later_from, within, emitted}
use Rattle.lid_emit_circuit.specs.Carried.{PassesNet, MakesNet, AreWired}
use Rattle.lid_emit_circuit.proofs.Values.{choice_is}
use Rattle.lid_base.proofs.Alls.{all_from_among}

-- a cover that has cells of its own
kept_gate : (skips : Bool) (s : Driver Wire) → skips ≡ false → Among s (within (not skips) (s ∷ []))
kept_gate false s is = inl refl
kept_gate true s is = cc

module _ (q : CircuitPlan) (rows : List (List Bool)) (b : Table Wire) (strict : IsStrict (emitted q) rows b) (v : ℕ) (wired : AreWired v (q.flat v) (q.here v) (q.after v) (q.skips v)) (k : ℕ) (below : k < length rows) where
  abbrev f : Flat
  f = q.flat v

  now_cover : (c : FlatCover) → Among c f.covers → q.skips v c.out ≡ false → b k (now v c.out) ≡ cover_value c.cover (map (λ n. b k (q.here v n)) c.ins)
  unfolding emitted
  now_cover c i skips =
      all_among (λ s. b k (now v c.out) ≡ bit_of rows b k s) (flat_map (now_from q v c.out) (flat_drivers f c.out)) (from_cover c.cover (map (q.here v) c.ins)) (strict k (now v c.out) below)
      (among_flat {A = Driver ℕ} {B = Driver Wire} (now_from q v c.out) (from_cover c.cover c.ins) (from_cover c.cover (map (q.here v) c.ins)) (flat_drivers f c.out) (cover_drives f c i) (kept_gate (q.skips v c.out) (from_cover c.cover (map (q.here v) c.ins)) skips))
      ∙ ap (cover_value c.cover) (map-map (b k) (q.here v) c.ins)

  later_cover : (c : FlatCover) → Among c f.covers → q.skips v c.out ≡ false → b k (later v c.out) ≡ cover_value c.cover (map (λ n. b k (q.after v n)) c.ins)
  unfolding emitted
  later_cover c i skips =
      all_among (λ s. b k (later v c.out) ≡ bit_of rows b k s) (flat_map (later_from q v c.out) (flat_drivers f c.out)) (from_cover c.cover (map (q.after v) c.ins)) (strict k (later v c.out) below)
      (among_flat {A = Driver ℕ} {B = Driver Wire} (later_from q v c.out) (from_cover c.cover c.ins) (from_cover c.cover (map (q.after v) c.ins)) (flat_drivers f c.out) (cover_drives f c i) (kept_gate (q.skips v c.out) (from_cover c.cover (map (q.after v) c.ins)) skips))
      ∙ ap (cover_value c.cover) (map-map (b k) (q.after v) c.ins)

  -- a latch takes what it reads where its shell fires
  pub latch_now : (l : FlatLatch) → Among l f.latches → b k (now v l.out) ≡ latch_bit b l.init (kept v l.out) k
  unfolding emitted
  latch_now l i =
      all_among (λ s. b k (now v l.out) ≡ bit_of rows b k s) (flat_map (now_from q v l.out) (flat_drivers f l.out)) (from_latch l.init (kept v l.out)) (strict k (now v l.out) below)
      (among_flat {A = Driver ℕ} {B = Driver Wire} (now_from q v l.out) (from_latch l.init l.input) (from_latch l.init (kept v l.out)) (flat_drivers f l.out) (latch_drives f l i) (inl refl))

  pub kept_is : (l : FlatLatch) → Among l f.latches → b k (kept v l.out) ≡ (if b k (fire v) then b k (q.here v l.input) else b k (now v l.out))
  unfolding emitted
  kept_is l i =
      all_among (λ s. b k (kept v l.out) ≡ bit_of rows b k s) (flat_map (kept_from q v l.out) (flat_drivers f l.out)) (from_cover choice (fire v ∷ q.here v l.input ∷ now v l.out ∷ [])) (strict k (kept v l.out) below)
      (among_flat {A = Driver ℕ} {B = Driver Wire} (kept_from q v l.out) (from_latch l.init l.input) (from_cover choice (fire v ∷ q.here v l.input ∷ now v l.out ∷ [])) (flat_drivers f l.out) (latch_drives f l i) (inl refl))
      ∙ choice_is (b k (fire v)) (b k (q.here v l.input)) (b k (now v l.out))

  -- where a cover passes on a net it has the bit of that net
  passed : (wire : ℕ → Wire) (c : FlatCover) (net : ℕ) → c.ins ≡ net ∷ [] → ((bit : Bool) → cover_value c.cover (bit ∷ []) ≡ bit) → wire c.out ≡ wire net → b k (wire c.out) ≡ cover_value c.cover (map (λ n. b k (wire n)) c.ins)
  passed wire c net reads passes same = ap (b k) same ∙ sym (passes (b k (wire net))) ∙ ap (λ (ks : List ℕ). cover_value c.cover (map (λ n. b k (wire n)) ks)) (sym reads)

  pub here_row : IsRow f.covers (λ n. b k (q.here v n))
  here_row = all_from_among (λ c. b k (q.here v c.out) ≡ cover_value c.cover (map (λ n. b k (q.here v n)) c.ins)) f.covers (λ c i. by c i (wired.covers c i))
    where
      by : (c : FlatCover) → Among c f.covers → PassesNet (q.here v) (q.after v) (q.skips v) c ⊎ MakesNet v (q.here v) (q.after v) (q.skips v) c → b k (q.here v c.out) ≡ cover_value c.cover (map (λ n. b k (q.here v n)) c.ins)
      by c i (inl p) = passed (q.here v) c p.net p.reads p.passes p.as_here
      by c i (inr m) = ap (b k) m.by_now ∙ now_cover c i m.made

  pub after_row : IsRow f.covers (λ n. b k (q.after v n))
  after_row = all_from_among (λ c. b k (q.after v c.out) ≡ cover_value c.cover (map (λ n. b k (q.after v n)) c.ins)) f.covers (λ c i. by c i (wired.covers c i))
    where
      by : (c : FlatCover) → Among c f.covers → PassesNet (q.here v) (q.after v) (q.skips v) c ⊎ MakesNet v (q.here v) (q.after v) (q.skips v) c → b k (q.after v c.out) ≡ cover_value c.cover (map (λ n. b k (q.after v n)) c.ins)
      by c i (inl p) = passed (q.after v) c p.net p.reads p.passes p.as_after
      by c i (inr m) = ap (b k) m.by_later ∙ later_cover c i m.made
