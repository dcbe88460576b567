-- All cells of a station, put together.
use Rattle.std.proofs.Common.{◌≡◌, ℕ, ◌+◌, List, ◌++◌, length, flat_map, sym, ◌∙◌, ap, append_assoc}
use Rattle.lid_base.specs.Each.{from_each}
use Rattle.lid_emit_circuit.specs.Wires.{Wire, level, grown}
use Rattle.lid_emit_circuit.specs.Plans.{CircuitPlan}
use Rattle.lid_emit_circuit.specs.Lists.{bit_wires, station_wires}
use Rattle.lid_emit_cells.specs.declared.station.Station.{Station}
use Rattle.lid_emit_cells.specs.Drafts.{Draft, with_wires}
use Rattle.lid_emit_cells.specs.Matches.{IsStationOf}
use Rattle.lid_emit_cells.proofs.Drafting.{more_wires}

module _ (q : CircuitPlan) (s : ℕ) (station : Station) (is : IsStationOf q s station) where
  abbrev levels : ℕ → List Wire
  levels capacity = from_each (level s) 0 (capacity + 2)

  abbrev growns : ℕ → List Wire
  growns capacity = from_each (grown s) 1 capacity

  abbrev bits : ℕ → List Wire
  bits width = flat_map (bit_wires q s) (from_each (λ j. j) 0 width)

  -- what was pushed one after the other
  pub station_done : (old first second third : Draft) → first ≡ with_wires q old (levels station.capacity) → second ≡ with_wires q first (growns station.capacity) → third ≡ with_wires q second (bits (length station.bits)) → third ≡ with_wires q old (station_wires q s)
  station_done old first second third one two three =
      more_wires q old second third (levels station.capacity ++ growns station.capacity) (bits (length station.bits)) (more_wires q old first second (levels station.capacity) (growns station.capacity) one two) three
      ∙ ap (with_wires q old) (append_assoc (levels station.capacity) (growns station.capacity) (bits (length station.bits))
      ∙ ap (λ (c : ℕ). levels c ++ (growns c ++ bits (length station.bits))) (sym is.capacity)
      ∙ ap (λ (w : ℕ). levels (q.capacity s) ++ (growns (q.capacity s) ++ bits w)) (sym is.width))
