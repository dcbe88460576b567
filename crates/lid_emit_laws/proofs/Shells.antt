-- The cells of a shell: two for each latch, and two for each cover that does not pass on its input.
use Rattle.std.proofs.Common.{◌≡◌, ℕ, ◌+◌, ◌*◌, ◌≤◌, Bool, true, false, not, List, [], ◌∷◌, ◌++◌, length, map, ap, arith}
use Rattle.std.specs.List.{flat_map}
use Rattle.lid_base.specs.Lists.{Among}
use Rattle.lid_cover.specs.declared.Cover.{Cover}
use Rattle.lid_cover.specs.declared.Cube.{Cube}
use Rattle.lid_design.specs.declared.Flat.{Flat}
use Rattle.lid_design.specs.declared.FlatLatch.{FlatLatch}
use Rattle.lid_design.specs.declared.FlatCover.{FlatCover}
use Rattle.lid_design.specs.Network.{Driver, from_latch, from_cover}
use Rattle.lid_design.specs.Flat.{flat_drivers, IsFlat}
use Rattle.lid_design.proofs.Parts.{latch_drives, cover_drives}
use Rattle.lid_check_rules.specs.Buffers.{passes_on}
use Rattle.lid_emit_circuit.specs.Wires.{Wire, now, kept, later}
use Rattle.lid_emit_circuit.specs.Plans.{CircuitPlan}
use Rattle.lid_emit_circuit.specs.Network.{within, gate, now_from, kept_from, later_from, emitted}
use Rattle.lid_emit_circuit.specs.Lists.{shell_wires}
use Rattle.lid_emit_names.specs.Named.{with_rows}
use Rattle.lid_emit_laws.proofs.Parts.{flat_size}
use Rattle.lid_emit_laws.proofs.Weights.{shell_weight}
use Rattle.lid_emit_laws.proofs.Loads.{wire_load, wires_load, driven, gate_load}
use Rattle.lid_base.proofs.Lists.{among_alone}

-- what drives a net drives it alone
pub sole : (f : Flat) → IsFlat f → (k : ℕ) (s : Driver ℕ) → Among s (flat_drivers f k) → flat_drivers f k ≡ s ∷ []
sole f flat k s there = among_alone (flat_drivers f k) s (flat.once k) there

-- a cover that is written has one row more at most
pub rows_written : (inputs : ℕ) (on : Bool) (cubes : List Cube) → length (with_rows inputs on cubes).cubes ≤ 1 + length cubes
rows_written inputs true cubes = omega arith
rows_written inputs false [] = omega arith
rows_written inputs false (cube ∷ cubes) = omega arith

module _ (q : CircuitPlan) (name : Wire → List ℕ) (v : ℕ) (flat : IsFlat (q.flat v)) (skips : (c : FlatCover) → Among c (q.flat v).covers → q.skips v c.out ≡ passes_on c.cover) where
  abbrev f : Flat
  f = q.flat v

  latch_now : (l : FlatLatch) → Among l f.latches → wire_load q name (now v l.out) ≡ 4
  unfolding emitted
  latch_now l there = ap (λ (ss : List (Driver ℕ)). driven q name (now v l.out) (flat_map (now_from q v l.out) ss)) (sole f flat l.out (from_latch l.init l.input) (latch_drives f l there))

  latch_kept : (l : FlatLatch) → Among l f.latches → wire_load q name (kept v l.out) ≡ 6
  unfolding emitted
  latch_kept l there = ap (λ (ss : List (Driver ℕ)). driven q name (kept v l.out) (flat_map (kept_from q v l.out) ss)) (sole f flat l.out (from_latch l.init l.input) (latch_drives f l there))

  cover_gate : (w : Wire) (there : Bool) (cover : Cover) (reads : List Wire) → driven q name w (within there (gate cover reads) ++ []) ≤ 5 + length cover.cubes
  cover_gate w false cover reads = omega arith
  cover_gate w true cover reads =
      let one = gate_load q name w cover reads in
      let rows = rows_written cover.inputs cover.on cover.cubes in
      omega arith

  cover_now : (c : FlatCover) → Among c f.covers → wire_load q name (now v c.out) ≤ 5 + length c.cover.cubes
  unfolding emitted
  cover_now c there =
      let only : wire_load q name (now v c.out) ≡ driven q name (now v c.out) (within (not (q.skips v c.out)) (gate c.cover (map (q.here v) c.ins)) ++ []) =
      ap (λ (ss : List (Driver ℕ)). driven q name (now v c.out) (flat_map (now_from q v c.out) ss)) (sole f flat c.out (from_cover c.cover c.ins) (cover_drives f c there)) in
      let few = cover_gate (now v c.out) (not (q.skips v c.out)) c.cover (map (q.here v) c.ins) in
      omega arith

  cover_later : (c : FlatCover) → Among c f.covers → wire_load q name (later v c.out) ≤ 5 + length c.cover.cubes
  unfolding emitted
  cover_later c there =
      let only : wire_load q name (later v c.out) ≡ driven q name (later v c.out) (within (not (q.skips v c.out)) (gate c.cover (map (q.after v) c.ins)) ++ []) =
      ap (λ (ss : List (Driver ℕ)). driven q name (later v c.out) (flat_map (later_from q v c.out) ss)) (sole f flat c.out (from_cover c.cover c.ins) (cover_drives f c there)) in
      let few = cover_gate (later v c.out) (not (q.skips v c.out)) c.cover (map (q.after v) c.ins) in
      omega arith

  latch_load : (l : FlatLatch) → Among l f.latches → wire_load q name (now v l.out) + wire_load q name (kept v l.out) ≤ 10
  latch_load l there = let first = latch_now l there in let second = latch_kept l there in omega arith

  cover_load : (c : FlatCover) → Among c f.covers → wire_load q name (now v c.out) + wire_load q name (later v c.out) ≤ 10 * (1 + length c.ins + length c.cover.cubes)
  cover_load c there = let first = cover_now c there in let second = cover_later c there in omega arith

  pub shell_load : wires_load q name (shell_wires q v) ≤ 10 * flat_size f
  shell_load = shell_weight (wire_load q name) q v 10 skips latch_load cover_load
