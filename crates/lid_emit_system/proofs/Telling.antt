-- What a wrapped system tells.
use Rattle.std.proofs.Common.{◌≡◌, ℕ, ◌+◌, ◌<◌, Bool, true, false, List, length, Some, slice_get, ◌∙◌, ap, arith}
use Rattle.std.specs.Prelude.{◌↔◌, option_map}
use Rattle.std.specs.List.{AllByRecursion}
use Rattle.std.proofs.lemmas.Option.{slice_get-get_or, slice_get-map}
use Rattle.lid_base.specs.Lists.{Among}
use Rattle.lid_design.specs.Network.{Table, IsStrict}
use Rattle.lid_base.specs.Each.{from_each}
use Rattle.lid_system.specs.declared.System.{System}
use Rattle.lid_system.specs.declared.InBit.{InBit}
use Rattle.lid_system.specs.declared.InBit.TheVariants.{Const}
use Rattle.lid_system.specs.Systems.{IsWellFormed}
use Rattle.lid_stations.specs.declared.placement.Placement.{Placement}
use Rattle.lid_stations.specs.Placements.{links_of, Fits}
use Rattle.lid_emit_circuit.specs.Wires.{Wire, shown, valid, stop}
use Rattle.lid_emit_circuit.specs.Plans.{CircuitPlan}
use Rattle.lid_emit_circuit.specs.Laws.{SourceIsStopped}
use Rattle.lid_emit_circuit.proofs.Outside.{tells_stop, tells_rows, is_quiet}
use Rattle.lid_emit_system.specs.Nets.{NetWires, read_wire}
use Rattle.lid_emit_system.specs.Faces.{fired_by, IsStopped, TellsItsState}
use Rattle.lid_emit_system.specs.Wrapping.{sink_reads, input_count, circuit_plan, wrapped, face_of}
use Rattle.lid_emit_system.proofs.Planning.{plan_is}
use Rattle.lid_base.proofs.Each.{among_each}
use Rattle.lid_base.proofs.Alls.{all_from_among}

module _ (s : System) (p : Placement) (n : NetWires) (well : IsWellFormed s) (fits : Fits s p) (rows : List (List Bool)) (b : Table Wire) (strict : IsStrict (wrapped s p n) rows b) where
  abbrev q : CircuitPlan
  q = circuit_plan s p n

  -- the wire of a data output
  pub output_wire : (j : ℕ) (x : InBit) → slice_get (sink_reads s) j ≡ Some x → slice_get q.shows j ≡ Some (read_wire p x)
  output_wire j x here = slice_get-map (read_wire p) (sink_reads s) j ∙ ap (option_map (read_wire p)) here

  quiet_row : (k : ℕ) → k < length rows → b k valid ≡ false → AllByRecursion (λ bit. bit ≡ false) (from_each (λ j. b k (shown j)) 0 (length (sink_reads s)))
  quiet_row k below void = all_from_among (λ (bit : Bool). bit ≡ false) (from_each (λ j. b k (shown j)) 0 (length (sink_reads s))) each
    where
      each : (bit : Bool) → Among bit (from_each (λ j. b k (shown j)) 0 (length (sink_reads s))) → bit ≡ false
      each bit among =
          let at = among_each (λ j. b k (shown j)) 0 (length (sink_reads s)) bit among in
          let high : at.0 < 0 + length (sink_reads s) = at.2 in
          let here = output_wire at.0 _ (slice_get-get_or (sink_reads s) at.0 (Const false) (omega arith)) in
          at.3 ∙ is_quiet q (plan_is s p n well fits) rows b strict k below at.0 _ here void

  stops : (k : ℕ) → k < length rows → b k stop ≡ true ↔ IsStopped (links_of s) p (fired_by (links_of s) p (input_count s) rows k)
  stops k below = (λ h. there (told.0 h), λ stopped. told.1 (back stopped))
    where
      told : b k stop ≡ true ↔ SourceIsStopped q rows k
      told = tells_stop q (plan_is s p n well fits) rows b strict k below

      there : SourceIsStopped q rows k → IsStopped (links_of s) p (fired_by (links_of s) p (input_count s) rows k)
      there stopped = record { station = stopped.station; there = stopped.there; filled = stopped.filled; full = stopped.full }

      back : IsStopped (links_of s) p (fired_by (links_of s) p (input_count s) rows k) → SourceIsStopped q rows k
      back stopped = record { station = stopped.station; there = stopped.there; filled = stopped.filled; full = stopped.full }

  pub tells : TellsItsState (links_of s) p (input_count s) rows (face_of s b)
  tells = record {
    stops = stops;
    offers = λ k below. tells_rows q (plan_is s p n well fits) rows b strict k below;
    quiet = quiet_row;
  }
