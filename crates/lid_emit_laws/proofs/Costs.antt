-- How long the texts of the cells of wires outside of shells are at most.
use Rattle.std.proofs.Common.{◌≡◌, ℕ, zero, suc, ◌+◌, ◌*◌, ◌<◌, ◌≤◌, ◌==◌, ◌&&◌, nat_lt, not, Bool, true, false, cond, List, [], ◌∷◌, length, map, Option, Some, None, slice_get, refl, mul-le-mul_right, arith}
use Rattle.std.specs.Option.{option_map_or}
use Rattle.std.specs.List.{flat_map, sum_by}
use Rattle.std.proofs.lemmas.List.Sums.{sum_by-cons}
use Rattle.lid_base.specs.Lists.{Among}
use Rattle.lid_base.proofs.Lists.{get_among}
use Rattle.lid_cover.specs.declared.Cover.{Cover}
use Rattle.lid_design.specs.Network.{Driver, from_input, from_latch, from_cover, from_connection}
use Rattle.lid_base.specs.Each.{from_each}
use Rattle.lid_emit_circuit.specs.Wires.{Wire, entry, given, offer, block, steady, may, fire, level, grown, place, moved, shown, valid, stop, ActorEnd, drains, fills}
use Rattle.lid_emit_circuit.specs.Gates.{constant, buffer, negation, both, without, count, move}
use Rattle.lid_emit_circuit.specs.Plans.{CircuitPlan, ends}
use Rattle.lid_emit_circuit.specs.Network.{within, gate, flop, link, last_link, sink, firing, level_in, grown_in, place_drivers, moved_in, emitted}
use Rattle.lid_emit_circuit.specs.Lists.{outer_wires, station_wires, actor_wires}
use Rattle.lid_emit_names.specs.Named.{written}
use Rattle.lid_check_laws.proofs.Totals.{total}
use Rattle.lid_emit_laws.specs.Shortness.{word_most}
use Rattle.lid_emit_laws.proofs.Lines.{line_size}
use Rattle.lid_emit_laws.proofs.Sums.{sum_each}
use Rattle.lid_emit_laws.proofs.Weights.{two_weights, each_weight, actor_weight, station_weight}

module _ (q : CircuitPlan) (name : Wire → List ℕ) where
  abbrev pub most : Wire → ℕ
  most w = word_most name w

  abbrev pub all_most : List Wire → ℕ
  all_most ws = sum_by most ws

  -- how long the text of the cell is that drives a wire so
  abbrev pub cost : Wire → Driver Wire → ℕ
  cost w (from_input j) = 0
  cost w (from_latch first input) = 9 + most input + most w
  cost w (from_cover cover reads) = 7 + all_most reads + most w + length (written cover).cubes * (cover.inputs + 3)
  cost w (from_connection other) = 0

  abbrev pub costs : Wire → List (Driver Wire) → ℕ
  costs w ss = sum_by (cost w) ss

  abbrev pub wire_cost : Wire → ℕ
  wire_cost w = costs w (emitted q w)

  abbrev pub wires_cost : List Wire → ℕ
  wires_cost ws = sum_by wire_cost ws

  pub gate_cost : (w : Wire) (cover : Cover) (reads : List Wire) → costs w (gate cover reads) ≡ 7 + all_most reads + most w + length (written cover).cubes * (cover.inputs + 3)
  gate_cost w cover reads = let e = sum_by-cons (cost w) (from_cover cover reads) [] in omega arith

  pub flop_cost : (w : Wire) (first : Bool) (input : Wire) → costs w (flop first input) ≡ 9 + most input + most w
  flop_cost w first input = let e = sum_by-cons (cost w) (from_latch first input) [] in omega arith

  within_cost : (n : ℕ) (w : Wire) (b : Bool) (ss : List (Driver Wire)) → costs w ss ≤ n → costs w (within b ss) ≤ n
  within_cost n w true ss few = few
  within_cost n w false ss few = omega arith

  one_read : (a : Wire) → all_most (a ∷ []) ≡ most a
  one_read a = let e = sum_by-cons most a [] in omega arith

  two_reads : (a b : Wire) → all_most (a ∷ b ∷ []) ≡ most a + most b
  two_reads a b = let e = sum_by-cons most a (b ∷ []) in let f = one_read b in omega arith

  constant_cost : (n : ℕ) (w : Wire) (bit : Bool) → most w + 10 ≤ n → costs w (gate (constant bit) []) ≤ n
  constant_cost n w true room = let e = gate_cost w (constant true) [] in omega arith
  constant_cost n w false room = let e = gate_cost w (constant false) [] in omega arith

  -- a cover of one row
  buffer_cost : (n : ℕ) (w a : Wire) → most w + most a + 11 ≤ n → costs w (gate buffer (a ∷ [])) ≤ n
  buffer_cost n w a room = let e = gate_cost w buffer (a ∷ []) in let f = one_read a in omega arith

  negation_cost : (n : ℕ) (w a : Wire) → most w + most a + 11 ≤ n → costs w (gate negation (a ∷ [])) ≤ n
  negation_cost n w a room = let e = gate_cost w negation (a ∷ []) in let f = one_read a in omega arith

  both_cost : (n : ℕ) (w a b : Wire) → most w + most a + most b + 12 ≤ n → costs w (gate both (a ∷ b ∷ [])) ≤ n
  both_cost n w a b room = let e = gate_cost w both (a ∷ b ∷ []) in let f = two_reads a b in omega arith

  without_cost : (n : ℕ) (w a b : Wire) → most w + most a + most b + 12 ≤ n → costs w (gate without (a ∷ b ∷ [])) ≤ n
  without_cost n w a b room = let e = gate_cost w without (a ∷ b ∷ []) in let f = two_reads a b in omega arith

  given_cost : (j : ℕ) → wire_cost (given j) ≤ 48 + most (entry j)
  unfolding emitted
  given_cost j = within_cost (48 + most (entry j)) (given j) (nat_lt j q.inputs) (gate buffer (entry j ∷ [])) (buffer_cost (48 + most (entry j)) (given j) (entry j) (omega arith))

  steady_cost : (bit : Bool) → wire_cost (steady bit) ≤ 47
  unfolding emitted
  steady_cost bit = constant_cost 47 (steady bit) bit (omega arith)

  valid_cost : wire_cost valid ≤ 82
  unfolding emitted
  valid_cost = buffer_cost 82 valid (last_link q (sink q)) (omega arith)

  stop_cost : wire_cost stop ≤ 82
  unfolding emitted
  stop_cost = negation_cost 82 stop (last_link q 0) (omega arith)

  may_cost : (v i : ℕ) → wire_cost (may v i) ≤ 186
  unfolding emitted
  may_cost v zero = within_cost 186 (may v zero) (nat_lt v q.actors) (gate (constant true) []) (constant_cost 186 (may v zero) true (omega arith))
  may_cost v (suc i) = within_cost 186 (may v (suc i)) (nat_lt v q.actors) (option_map_or (link q v i) (slice_get (ends q v) i) []) (by (slice_get (ends q v) i))
    where
      by : (o : Option ActorEnd) → costs (may v (suc i)) (option_map_or (link q v i) o []) ≤ 186
      by None = omega arith
      by (Some (drains s)) = both_cost 186 (may v (suc i)) (may v i) (level s 1) (omega arith)
      by (Some (fills s)) = without_cost 186 (may v (suc i)) (may v i) (level s (q.capacity s)) (omega arith)

  fire_cost : (v : ℕ) → wire_cost (fire v) ≤ 120
  unfolding emitted
  fire_cost v = within_cost 120 (fire v) (nat_lt v q.actors) (firing q v) (by (v == 0) (v == sink q))
    where
      by : (a b : Bool) → costs (fire v) (cond a (gate both (last_link q v ∷ offer ∷ [])) (cond b (gate without (last_link q v ∷ block ∷ [])) (gate buffer (last_link q v ∷ [])))) ≤ 120
      by true b = both_cost 120 (fire v) (last_link q v) offer (omega arith)
      by false true = without_cost 120 (fire v) (last_link q v) block (omega arith)
      by false false = buffer_cost 120 (fire v) (last_link q v) (omega arith)

  level_cost : (s i : ℕ) → wire_cost (level s i) ≤ 125
  unfolding emitted
  level_cost s i = within_cost 125 (level s i) (nat_lt s q.stations) (level_in q s i) (at i)
    where
      by : (i : ℕ) (b : Bool) → costs (level s (suc i)) (cond b (flop (not (nat_lt (q.first s) (suc i))) (grown s (suc i))) (within (i == q.capacity s) (gate (constant false) []))) ≤ 125
      by i true = let e = flop_cost (level s (suc i)) (not (nat_lt (q.first s) (suc i))) (grown s (suc i)) in omega arith
      by i false = within_cost 125 (level s (suc i)) (i == q.capacity s) (gate (constant false) []) (constant_cost 125 (level s (suc i)) false (omega arith))

      at : (i : ℕ) → costs (level s i) (level_in q s i) ≤ 125
      at zero = constant_cost 125 (level s zero) true (omega arith)
      at (suc i) = by i (nat_lt i (q.capacity s))

  grown_cost : (s i : ℕ) → wire_cost (grown s i) ≤ 345
  unfolding emitted
  grown_cost s i = within_cost 345 (grown s i) (nat_lt s q.stations) (grown_in q s i) (at i)
    where
      five : (s i : ℕ) → costs (grown s (suc i)) (gate count (fire (q.drainer s) ∷ fire (q.filler s) ∷ level s i ∷ level s (suc i) ∷ level s (suc (suc i)) ∷ [])) ≤ 345
      five s i =
          let e = gate_cost (grown s (suc i)) count (fire (q.drainer s) ∷ fire (q.filler s) ∷ level s i ∷ level s (suc i) ∷ level s (suc (suc i)) ∷ []) in
          let a = sum_by-cons most (fire (q.drainer s)) (fire (q.filler s) ∷ level s i ∷ level s (suc i) ∷ level s (suc (suc i)) ∷ []) in
          let b = sum_by-cons most (fire (q.filler s)) (level s i ∷ level s (suc i) ∷ level s (suc (suc i)) ∷ []) in
          let c = sum_by-cons most (level s i) (level s (suc i) ∷ level s (suc (suc i)) ∷ []) in
          let d = two_reads (level s (suc i)) (level s (suc (suc i))) in
          omega arith

      at : (i : ℕ) → costs (grown s i) (grown_in q s i) ≤ 345
      at zero = omega arith
      at (suc i) =
          within_cost 345 (grown s (suc i)) (nat_lt i (q.capacity s)) (gate count (fire (q.drainer s) ∷ fire (q.filler s) ∷ level s i ∷ level s (suc i) ∷ level s (suc (suc i)) ∷ [])) (five s i)

  place_cost : (s i j : ℕ) → wire_cost (place s i j) ≤ 167
  unfolding emitted
  place_cost s i j = within_cost 167 (place s i j) (nat_lt s q.stations && nat_lt j (q.width s)) (place_drivers q s i j) (by (nat_lt i (q.capacity s)))
    where
      by : (b : Bool) → costs (place s i j) (cond b (flop (q.begins s j) (moved s i j)) (within (i == q.capacity s) (gate (constant false) []))) ≤ 167
      by true = let e = flop_cost (place s i j) (q.begins s j) (moved s i j) in omega arith
      by false = within_cost 167 (place s i j) (i == q.capacity s) (gate (constant false) []) (constant_cost 167 (place s i j) false (omega arith))

  -- where what is put has a name that is no longer than others
  module _ (put_short : (s j : ℕ) → s < q.stations → j < q.width s → most (q.put s j) ≤ 79) where
    moved_cost : (s i j : ℕ) → s < q.stations → j < q.width s → wire_cost (moved s i j) ≤ 512
    unfolding emitted
    moved_cost s i j there within_width =
        within_cost 512 (moved s i j) (nat_lt s q.stations && nat_lt j (q.width s)) (moved_in q s i j)
        (within_cost 512 (moved s i j) (nat_lt i (q.capacity s)) (gate move (fire (q.drainer s) ∷ level s (suc i) ∷ place s i j ∷ level s (suc (suc i)) ∷ place s (suc i) j ∷ q.put s j ∷ [])) six)
      where
        six : costs (moved s i j) (gate move (fire (q.drainer s) ∷ level s (suc i) ∷ place s i j ∷ level s (suc (suc i)) ∷ place s (suc i) j ∷ q.put s j ∷ [])) ≤ 512
        six =
            let e = gate_cost (moved s i j) move (fire (q.drainer s) ∷ level s (suc i) ∷ place s i j ∷ level s (suc (suc i)) ∷ place s (suc i) j ∷ q.put s j ∷ []) in
            let a = sum_by-cons most (fire (q.drainer s)) (level s (suc i) ∷ place s i j ∷ level s (suc (suc i)) ∷ place s (suc i) j ∷ q.put s j ∷ []) in
            let b = sum_by-cons most (level s (suc i)) (place s i j ∷ level s (suc (suc i)) ∷ place s (suc i) j ∷ q.put s j ∷ []) in
            let c = sum_by-cons most (place s i j) (level s (suc (suc i)) ∷ place s (suc i) j ∷ q.put s j ∷ []) in
            let d = sum_by-cons most (level s (suc (suc i))) (place s (suc i) j ∷ q.put s j ∷ []) in
            let f = two_reads (place s (suc i) j) (q.put s j) in
            let put = put_short s j there within_width in
            omega arith

    givens_cost : (k m : ℕ) → wires_cost (from_each given k m) ≤ 48 * m + line_size (map name (from_each entry k m))
    givens_cost k zero = omega arith
    givens_cost k (suc m) =
        let whole = sum_by-cons wire_cost (given k) (from_each given (k + 1) m) in
        let size = sum_by-cons (λ (word : List ℕ). 1 + length word) (name (entry k)) (map name (from_each entry (k + 1) m)) in
        let here = given_cost k in
        let later = givens_cost (k + 1) m in
        omega arith

    -- with two ends and a mover
    pub station_cost : (s : ℕ) → s < q.stations → 2 ≤ q.capacity s → wires_cost (station_wires q s) + 678 ≤ 940 * (q.capacity s * (1 + q.width s))
    station_cost s there room =
        let all = station_weight wire_cost q s 125 345 167 512 (level_cost s) (grown_cost s) (place_cost s) (λ i j within. moved_cost s i j there within) in
        let product : 2 * q.width s ≤ q.capacity s * q.width s = mul-le-mul_right (q.width s) room in
        omega arith

    pub stations_cost : ((s : ℕ) → 2 ≤ q.capacity s) → (k n : ℕ) → k + n ≤ q.stations → wires_cost (flat_map (station_wires q) (from_each (λ s. s) k n)) + 678 * n ≤ 940 * sum_by (λ s. q.capacity s * (1 + q.width s)) (from_each (λ s. s) k n)
    stations_cost room k n inside =
        let all = each_weight wire_cost (station_wires q) (λ s. q.capacity s * (1 + q.width s)) 678 940 0 k n (λ s low high. let here = station_cost s (omega arith) (room s) in omega arith) in
        let same = sum_each (λ s. q.capacity s * (1 + q.width s)) (λ s. s) k n in
        omega arith

    pub actors_cost : (k n : ℕ) → wires_cost (flat_map (actor_wires q) (from_each (λ v. v) k n)) ≤ 186 * total (λ v. length (ends q v)) k n + 306 * n
    actors_cost k n =
        let all = each_weight wire_cost (actor_wires q) (λ v. length (ends q v)) 0 186 306 k n (λ v low high. let here = actor_weight wire_cost q v 186 120 (may_cost v) (fire_cost v) in omega arith) in
        omega arith

    -- where what is shown has a name that is no longer than others
    module _ (show_short : (wire : Wire) → Among wire q.shows → most wire ≤ 79) where
      shown_cost : (j : ℕ) → wire_cost (shown j) ≤ 149 + most (shown j)
      unfolding emitted
      shown_cost j = by (slice_get q.shows j) refl
        where
          by : (o : Option Wire) → slice_get q.shows j ≡ o → costs (shown j) (option_map_or (λ wire. gate both (last_link q (sink q) ∷ wire ∷ [])) o []) ≤ 149 + most (shown j)
          by None here = omega arith
          by (Some wire) here = let short = show_short wire (get_among q.shows j wire here) in both_cost (149 + most (shown j)) (shown j) (last_link q (sink q)) wire (omega arith)

      showns_cost : (k m : ℕ) → wires_cost (from_each shown k m) ≤ 149 * m + line_size (map name (from_each shown k m))
      showns_cost k zero = omega arith
      showns_cost k (suc m) =
          let whole = sum_by-cons wire_cost (shown k) (from_each shown (k + 1) m) in
          let size = sum_by-cons (λ (word : List ℕ). 1 + length word) (name (shown k)) (map name (from_each shown (k + 1) m)) in
          let here = shown_cost k in
          let later = showns_cost (k + 1) m in
          omega arith

      pub outer_cost : wires_cost (outer_wires q) ≤ 149 * (q.inputs + length q.shows) + line_size (map name (from_each entry 0 q.inputs)) + line_size (map name (from_each shown 0 (length q.shows))) + 258
      outer_cost =
          let shown_ones = from_each shown 0 (length q.shows) in
          let a = two_weights wire_cost (from_each given 0 q.inputs) (steady false ∷ steady true ∷ valid ∷ stop ∷ shown_ones) in
          let b = sum_by-cons wire_cost (steady false) (steady true ∷ valid ∷ stop ∷ shown_ones) in
          let c = sum_by-cons wire_cost (steady true) (valid ∷ stop ∷ shown_ones) in
          let d = sum_by-cons wire_cost valid (stop ∷ shown_ones) in
          let e = sum_by-cons wire_cost stop shown_ones in
          let givens = givens_cost 0 q.inputs in
          let showns = showns_cost 0 (length q.shows) in
          let no = steady_cost false in
          let yes = steady_cost true in
          let v = valid_cost in
          let s = stop_cost in
          omega arith
