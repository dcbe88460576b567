-- How long the texts of the cells of a shell are at most.
use Rattle.std.proofs.Common.{◌≡◌, ℕ, ◌+◌, ◌*◌, ◌<◌, ◌≤◌, Bool, true, false, not, List, [], ◌∷◌, ◌++◌, length, map, ap, mul-le-mul_left, arith}
use Rattle.std.specs.List.{AllByRecursion, flat_map}
use Rattle.std.proofs.lemmas.List.Sums.{sum_by-cons}
use Rattle.lid_base.specs.Lists.{Among}
use Rattle.lid_base.proofs.Lists.{all_among}
use Rattle.lid_cover.specs.declared.Cover.{Cover}
use Rattle.lid_design.specs.declared.Flat.{Flat}
use Rattle.lid_design.specs.declared.FlatLatch.{FlatLatch}
use Rattle.lid_design.specs.declared.FlatCover.{FlatCover}
use Rattle.lid_design.specs.Network.{Driver, from_latch, from_cover}
use Rattle.lid_design.specs.Flat.{IsFlatCover}
use Rattle.lid_design.proofs.Parts.{latch_drives, cover_drives}
use Rattle.lid_check_rules.specs.Buffers.{passes_on}
use Rattle.lid_emit_circuit.specs.Wires.{Wire, fire, now, kept, later}
use Rattle.lid_emit_circuit.specs.Gates.{choice}
use Rattle.lid_emit_circuit.specs.Plans.{CircuitPlan}
use Rattle.lid_emit_circuit.specs.Network.{within, gate, now_from, kept_from, later_from, emitted}
use Rattle.lid_emit_circuit.specs.Lists.{shell_wires}
use Rattle.lid_emit_circuit.specs.Connected.{IsConnected}
use Rattle.lid_emit_names.specs.Named.{written}
use Rattle.lid_emit_laws.proofs.Parts.{flat_size}
use Rattle.lid_emit_laws.proofs.Weights.{shell_weight}
use Rattle.lid_emit_laws.proofs.Shells.{sole, rows_written}
use Rattle.lid_emit_laws.proofs.Costs.{most, all_most, costs, wire_cost, wires_cost, gate_cost}
use Rattle.lid_emit_laws.proofs.Inner.{here_inner, after_inner}

module _ (q : CircuitPlan) (con : IsConnected q) (name : Wire → List ℕ) (v : ℕ) (skips : (c : FlatCover) → Among c (q.flat v).covers → q.skips v c.out ≡ passes_on c.cover) where
  abbrev f : Flat
  f = q.flat v

  reads_most : (wire : ℕ → Wire) → ((k : ℕ) → k < f.nets → most q name (wire k) ≤ 79) → (ks : List ℕ) → AllByRecursion (λ k. k < f.nets) ks → all_most q name (map wire ks) ≤ 79 * length ks
  reads_most wire each [] all = omega arith
  reads_most wire each (k ∷ ks) all =
      let whole = sum_by-cons (most q name) (wire k) (map wire ks) in
      let here = each k all.0 in
      let rest = reads_most wire each ks all.1 in
      omega arith

  latch_now : (l : FlatLatch) → Among l f.latches → wire_cost q name (now v l.out) ≡ 125
  unfolding emitted
  latch_now l there = ap (λ (ss : List (Driver ℕ)). costs q name (now v l.out) (flat_map (now_from q v l.out) ss)) (sole f (con.rules v) l.out (from_latch l.init l.input) (latch_drives f l there))

  latch_kept : (l : FlatLatch) → Among l f.latches → wire_cost q name (kept v l.out) ≤ 251
  unfolding emitted
  latch_kept l there =
      let reads = fire v ∷ q.here v l.input ∷ now v l.out ∷ [] in
      let only : wire_cost q name (kept v l.out) ≡ costs q name (kept v l.out) (gate choice reads) =
      ap (λ (ss : List (Driver ℕ)). costs q name (kept v l.out) (flat_map (kept_from q v l.out) ss)) (sole f (con.rules v) l.out (from_latch l.init l.input) (latch_drives f l there)) in
      let input = (all_among (λ (l : FlatLatch). (l.input < f.nets) × (l.out < f.nets)) f.latches l (con.rules v).below.latches there).0 in
      let inner = here_inner q con name v l.input input in
      let one = gate_cost q name (kept v l.out) choice reads in
      let a = sum_by-cons (most q name) (fire v) (q.here v l.input ∷ now v l.out ∷ []) in
      let b = sum_by-cons (most q name) (q.here v l.input) (now v l.out ∷ []) in
      let c = sum_by-cons (most q name) (now v l.out) [] in
      omega arith

  -- the cell of a cover that has at most 64 inputs
  cover_gate : (w : Wire) (there : Bool) (cover : Cover) (reads : List Wire) (ins : ℕ) → most q name w ≤ 58 → cover.inputs ≡ ins → ins ≤ 64 → all_most q name reads ≤ 79 * ins → costs q name w (within there (gate cover reads) ++ []) ≤ 132 + 79 * ins + 67 * length cover.cubes
  cover_gate w false cover reads ins own width few long = omega arith
  cover_gate w true cover reads ins own width few long =
      let one = gate_cost q name w cover reads in
      let rows = rows_written cover.inputs cover.on cover.cubes in
      let narrow : cover.inputs + 3 ≤ 67 = omega arith in
      let product : length (written cover).cubes * (cover.inputs + 3) ≤ length (written cover).cubes * 67 = mul-le-mul_left (length (written cover).cubes) narrow in
      omega arith

  record IsNarrow (c : FlatCover) : Type 0 where
    width : c.cover.inputs ≡ length c.ins
    few : length c.ins ≤ 64
    below : AllByRecursion (λ k. k < f.nets) c.ins

  narrow : (c : FlatCover) → Among c f.covers → IsNarrow c
  narrow c there =
      let rules : IsFlatCover c = all_among IsFlatCover f.covers c (con.rules v).covers there in
      let bounds = all_among (λ (c : FlatCover). AllByRecursion (λ k. k < f.nets) c.ins × (c.out < f.nets)) f.covers c (con.rules v).below.covers there in
      let wide = rules.0.width in
      let same = rules.1 in
      record { width = rules.1; few = omega arith; below = bounds.0 }

  cover_now : (c : FlatCover) → Among c f.covers → wire_cost q name (now v c.out) ≤ 132 + 79 * length c.ins + 67 * length c.cover.cubes
  unfolding emitted
  cover_now c there =
      let only : wire_cost q name (now v c.out) ≡ costs q name (now v c.out) (within (not (q.skips v c.out)) (gate c.cover (map (q.here v) c.ins)) ++ []) =
      ap (λ (ss : List (Driver ℕ)). costs q name (now v c.out) (flat_map (now_from q v c.out) ss)) (sole f (con.rules v) c.out (from_cover c.cover c.ins) (cover_drives f c there)) in
      let is = narrow c there in
      let few = cover_gate (now v c.out) (not (q.skips v c.out)) c.cover (map (q.here v) c.ins) (length c.ins) (omega arith) is.width is.few (reads_most (q.here v) (here_inner q con name v) c.ins is.below) in
      omega arith

  cover_later : (c : FlatCover) → Among c f.covers → wire_cost q name (later v c.out) ≤ 132 + 79 * length c.ins + 67 * length c.cover.cubes
  unfolding emitted
  cover_later c there =
      let only : wire_cost q name (later v c.out) ≡ costs q name (later v c.out) (within (not (q.skips v c.out)) (gate c.cover (map (q.after v) c.ins)) ++ []) =
      ap (λ (ss : List (Driver ℕ)). costs q name (later v c.out) (flat_map (later_from q v c.out) ss)) (sole f (con.rules v) c.out (from_cover c.cover c.ins) (cover_drives f c there)) in
      let is = narrow c there in
      let few = cover_gate (later v c.out) (not (q.skips v c.out)) c.cover (map (q.after v) c.ins) (length c.ins) (omega arith) is.width is.few (reads_most (q.after v) (after_inner q con name v) c.ins is.below) in
      omega arith

  latch_cost : (l : FlatLatch) → Among l f.latches → wire_cost q name (now v l.out) + wire_cost q name (kept v l.out) ≤ 376
  latch_cost l there = let first = latch_now l there in let second = latch_kept l there in omega arith

  cover_cost : (c : FlatCover) → Among c f.covers → wire_cost q name (now v c.out) + wire_cost q name (later v c.out) ≤ 376 * (1 + length c.ins + length c.cover.cubes)
  cover_cost c there = let first = cover_now c there in let second = cover_later c there in omega arith

  pub shell_cost : wires_cost q name (shell_wires q v) ≤ 376 * flat_size f
  shell_cost = shell_weight (wire_cost q name) q v 376 skips latch_cost cover_cost
