-- The cells of wires outside of shells: each wire has one at most, with at most four rows.
use Rattle.std.proofs.Common.{◌≡◌, ℕ, zero, suc, ◌+◌, ◌*◌, ◌≤◌, ◌==◌, ◌&&◌, nat_lt, not, Bool, true, false, cond, List, [], ◌∷◌, length, map, Option, Some, None, slice_get, refl, mul-le-mul_right, arith}
use Rattle.std.specs.Option.{option_map_or}
use Rattle.std.specs.List.{flat_map, sum_by}
use Rattle.std.proofs.lemmas.List.Sums.{sum_by-cons}
use Rattle.lid_cover.specs.declared.Cover.{Cover}
use Rattle.lid_design.specs.declared.Cell.{Cell}
use Rattle.lid_design.specs.declared.Cell.TheVariants.{Names}
use Rattle.lid_design.specs.Network.{Driver}
use Rattle.lid_base.specs.Each.{from_each}
use Rattle.lid_blifout.specs.Writable.{cell_rows, cells_rows}
use Rattle.lid_emit_circuit.specs.Wires.{Wire, entry, given, offer, block, steady, may, fire, level, grown, place, moved, shown, valid, stop, ActorEnd, drains, fills}
use Rattle.lid_emit_circuit.specs.Gates.{constant, buffer, negation, both, without, count, move}
use Rattle.lid_emit_circuit.specs.Plans.{CircuitPlan, ends}
use Rattle.lid_emit_circuit.specs.Network.{within, gate, flop, link, last_link, sink, firing, level_in, grown_in, place_drivers, moved_in, emitted}
use Rattle.lid_emit_circuit.specs.Lists.{outer_wires, station_wires, actor_wires}
use Rattle.lid_emit_names.specs.Named.{written, cell_of, cells_driving}
use Rattle.lid_check_laws.proofs.Totals.{total}
use Rattle.lid_emit_laws.proofs.Sums.{sum_each}
use Rattle.lid_emit_laws.proofs.Weights.{two_weights, kind_weight, each_weight, actor_weight, station_weight}

-- 4 for a cell, and its rows
abbrev pub load : Cell → ℕ
load cell = 4 + cell_rows cell

abbrev pub loads : List Cell → ℕ
loads cells = sum_by load cells

-- the load counts each cell 4 times, and each row
pub loaded : (cells : List Cell) → loads cells ≡ 4 * length cells + cells_rows cells
loaded [] = refl
loaded (cell ∷ cells) =
    let a = sum_by-cons load cell cells in
    let b = sum_by-cons cell_rows cell cells in
    let c = loaded cells in
    omega arith

module _ (q : CircuitPlan) (name : Wire → List ℕ) where
  abbrev pub wire_load : Wire → ℕ
  wire_load w = loads (cells_driving q name w)

  abbrev pub wires_load : List Wire → ℕ
  wires_load ws = sum_by wire_load ws

  -- the cells that these drivers of a wire make
  abbrev pub driven : Wire → List (Driver Wire) → ℕ
  driven w ss = loads (flat_map (cell_of name w) ss)

  pub gate_load : (w : Wire) (cover : Cover) (reads : List Wire) → driven w (gate cover reads) ≡ 4 + length (written cover).cubes
  gate_load w cover reads = let one = sum_by-cons load (Names (map name reads) (name w) (written cover)) [] in omega arith

  pub flop_load : (w : Wire) (first : Bool) (input : Wire) → driven w (flop first input) ≡ 4
  flop_load w first input = refl

  within_load : (w : Wire) (b : Bool) (ss : List (Driver Wire)) → driven w ss ≤ 8 → driven w (within b ss) ≤ 8
  within_load w true ss few = few
  within_load w false ss few = omega arith

  light : (w : Wire) (cover : Cover) (reads : List Wire) → length (written cover).cubes ≤ 4 → driven w (gate cover reads) ≤ 8
  light w cover reads few = let e = gate_load w cover reads in omega arith

  light_flop : (w : Wire) (first : Bool) (input : Wire) → driven w (flop first input) ≤ 8
  light_flop w first input = let e = flop_load w first input in omega arith

  light_constant : (w : Wire) (bit : Bool) → driven w (gate (constant bit) []) ≤ 8
  light_constant w true = light w (constant true) [] (omega arith)
  light_constant w false = light w (constant false) [] (omega arith)

  given_light : (j : ℕ) → wire_load (given j) ≤ 8
  unfolding emitted
  given_light j = within_load (given j) (nat_lt j q.inputs) (gate buffer (entry j ∷ [])) (light (given j) buffer (entry j ∷ []) (omega arith))

  steady_light : (bit : Bool) → wire_load (steady bit) ≤ 8
  unfolding emitted
  steady_light bit = light_constant (steady bit) bit

  valid_light : wire_load valid ≤ 8
  unfolding emitted
  valid_light = light valid buffer (last_link q (sink q) ∷ []) (omega arith)

  stop_light : wire_load stop ≤ 8
  unfolding emitted
  stop_light = light stop negation (last_link q 0 ∷ []) (omega arith)

  shown_light : (j : ℕ) → wire_load (shown j) ≤ 8
  unfolding emitted
  shown_light j = by (slice_get q.shows j)
    where
      by : (o : Option Wire) → driven (shown j) (option_map_or (λ wire. gate both (last_link q (sink q) ∷ wire ∷ [])) o []) ≤ 8
      by None = omega arith
      by (Some wire) = light (shown j) both (last_link q (sink q) ∷ wire ∷ []) (omega arith)

  may_light : (v i : ℕ) → wire_load (may v i) ≤ 8
  unfolding emitted
  may_light v zero = within_load (may v zero) (nat_lt v q.actors) (gate (constant true) []) (light_constant (may v zero) true)
  may_light v (suc i) = within_load (may v (suc i)) (nat_lt v q.actors) (option_map_or (link q v i) (slice_get (ends q v) i) []) (by (slice_get (ends q v) i))
    where
      by : (o : Option ActorEnd) → driven (may v (suc i)) (option_map_or (link q v i) o []) ≤ 8
      by None = omega arith
      by (Some (drains s)) = light (may v (suc i)) both (may v i ∷ level s 1 ∷ []) (omega arith)
      by (Some (fills s)) = light (may v (suc i)) without (may v i ∷ level s (q.capacity s) ∷ []) (omega arith)

  fire_light : (v : ℕ) → wire_load (fire v) ≤ 8
  unfolding emitted
  fire_light v = within_load (fire v) (nat_lt v q.actors) (firing q v) (by (v == 0) (v == sink q))
    where
      by : (a b : Bool) → driven (fire v) (cond a (gate both (last_link q v ∷ offer ∷ [])) (cond b (gate without (last_link q v ∷ block ∷ [])) (gate buffer (last_link q v ∷ [])))) ≤ 8
      by true b = light (fire v) both (last_link q v ∷ offer ∷ []) (omega arith)
      by false true = light (fire v) without (last_link q v ∷ block ∷ []) (omega arith)
      by false false = light (fire v) buffer (last_link q v ∷ []) (omega arith)

  level_light : (s i : ℕ) → wire_load (level s i) ≤ 8
  unfolding emitted
  level_light s i = within_load (level s i) (nat_lt s q.stations) (level_in q s i) (at i)
    where
      by : (w : Wire) (i : ℕ) (b : Bool) → driven w (cond b (flop (not (nat_lt (q.first s) (suc i))) (grown s (suc i))) (within (i == q.capacity s) (gate (constant false) []))) ≤ 8
      by w i true = light_flop w (not (nat_lt (q.first s) (suc i))) (grown s (suc i))
      by w i false = within_load w (i == q.capacity s) (gate (constant false) []) (light_constant w false)

      at : (i : ℕ) → driven (level s i) (level_in q s i) ≤ 8
      at zero = light_constant (level s zero) true
      at (suc i) = by (level s (suc i)) i (nat_lt i (q.capacity s))

  grown_light : (s i : ℕ) → wire_load (grown s i) ≤ 8
  unfolding emitted
  grown_light s i = within_load (grown s i) (nat_lt s q.stations) (grown_in q s i) (at i)
    where
      at : (i : ℕ) → driven (grown s i) (grown_in q s i) ≤ 8
      at zero = omega arith
      at (suc i) =
          within_load (grown s (suc i)) (nat_lt i (q.capacity s)) (gate count (fire (q.drainer s) ∷ fire (q.filler s) ∷ level s i ∷ level s (suc i) ∷ level s (suc (suc i)) ∷ []))
          (light (grown s (suc i)) count (fire (q.drainer s) ∷ fire (q.filler s) ∷ level s i ∷ level s (suc i) ∷ level s (suc (suc i)) ∷ []) (omega arith))

  place_light : (s i j : ℕ) → wire_load (place s i j) ≤ 8
  unfolding emitted
  place_light s i j = within_load (place s i j) (nat_lt s q.stations && nat_lt j (q.width s)) (place_drivers q s i j) (by (nat_lt i (q.capacity s)))
    where
      by : (b : Bool) → driven (place s i j) (cond b (flop (q.begins s j) (moved s i j)) (within (i == q.capacity s) (gate (constant false) []))) ≤ 8
      by true = light_flop (place s i j) (q.begins s j) (moved s i j)
      by false = within_load (place s i j) (i == q.capacity s) (gate (constant false) []) (light_constant (place s i j) false)

  moved_light : (s i j : ℕ) → wire_load (moved s i j) ≤ 8
  unfolding emitted
  moved_light s i j =
      within_load (moved s i j) (nat_lt s q.stations && nat_lt j (q.width s)) (moved_in q s i j)
      (within_load (moved s i j) (nat_lt i (q.capacity s)) (gate move (fire (q.drainer s) ∷ level s (suc i) ∷ place s i j ∷ level s (suc (suc i)) ∷ place s (suc i) j ∷ q.put s j ∷ []))
      (light (moved s i j) move (fire (q.drainer s) ∷ level s (suc i) ∷ place s i j ∷ level s (suc (suc i)) ∷ place s (suc i) j ∷ q.put s j ∷ []) (omega arith)))

  pub outer_load : wires_load (outer_wires q) ≤ 8 * (q.inputs + length q.shows + 4)
  outer_load =
      let shown_ones = from_each shown 0 (length q.shows) in
      let a = two_weights wire_load (from_each given 0 q.inputs) (steady false ∷ steady true ∷ valid ∷ stop ∷ shown_ones) in
      let b = sum_by-cons wire_load (steady false) (steady true ∷ valid ∷ stop ∷ shown_ones) in
      let c = sum_by-cons wire_load (steady true) (valid ∷ stop ∷ shown_ones) in
      let d = sum_by-cons wire_load valid (stop ∷ shown_ones) in
      let e = sum_by-cons wire_load stop shown_ones in
      let givens = kind_weight wire_load 8 given given_light 0 q.inputs in
      let showns = kind_weight wire_load 8 shown shown_light 0 (length q.shows) in
      let no = steady_light false in
      let yes = steady_light true in
      let v = valid_light in
      let s = stop_light in
      omega arith

  -- a bit has 2 wires for each token and one more, which with 6 and 2 for each are at most 5 for each
  pub station_load : (s : ℕ) → 2 ≤ q.capacity s → wires_load (station_wires q s) + 32 ≤ 40 * (q.capacity s * (1 + q.width s))
  station_load s room =
      let all = station_weight wire_load q s 8 8 8 8 (level_light s) (grown_light s) (place_light s) (λ i j within. moved_light s i j) in
      let product : 2 * q.width s ≤ q.capacity s * q.width s = mul-le-mul_right (q.width s) room in
      omega arith

  pub stations_load : ((s : ℕ) → 2 ≤ q.capacity s) → (k n : ℕ) → wires_load (flat_map (station_wires q) (from_each (λ s. s) k n)) + 32 * n ≤ 40 * sum_by (λ s. q.capacity s * (1 + q.width s)) (from_each (λ s. s) k n)
  stations_load room k n =
      let all = each_weight wire_load (station_wires q) (λ s. q.capacity s * (1 + q.width s)) 32 40 0 k n (λ s low high. let here = station_load s (room s) in omega arith) in
      let same = sum_each (λ s. q.capacity s * (1 + q.width s)) (λ s. s) k n in
      omega arith

  pub actors_load : (k n : ℕ) → wires_load (flat_map (actor_wires q) (from_each (λ v. v) k n)) ≤ 8 * total (λ v. length (ends q v)) k n + 16 * n
  actors_load k n =
      let all = each_weight wire_load (actor_wires q) (λ v. length (ends q v)) 0 8 16 k n (λ v low high. let here = actor_weight wire_load q v 8 8 (may_light v) (fire_light v) in omega arith) in
      omega arith
