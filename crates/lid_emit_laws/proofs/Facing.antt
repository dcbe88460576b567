-- What an emitted design shows is what the network shows.
use Rattle.std.proofs.Common.{◌≡◌, ℕ, zero, suc, ◌-◌, Bool, true, false, cond, List, [], ◌∷◌, ◌++◌, length, map, refl, sym, ◌∙◌, ap, subst}
use Rattle.std.specs.Prelude.{Option, ◌↔◌}
use Rattle.std.specs.Option.{option_map_or}
use Rattle.std.specs.List.{AllByRecursion}
use Rattle.std.proofs.lemmas.Simd.{map-map}
use Rattle.lid_base.specs.Lists.{Extends}
use Rattle.lid_design.specs.declared.Design.{Design}
use Rattle.lid_design.specs.Network.{Table, IsStrict}
use Rattle.lid_base.specs.Each.{from_each}
use Rattle.lid_design.specs.Columns.{Column, column, drivers, root_inputs, root_outputs, IsStrictOutput}
use Rattle.lid_design.specs.Walks.{HasTable}
use Rattle.lid_system.specs.declared.System.{System}
use Rattle.lid_system.specs.declared.Node.{Node}
use Rattle.lid_system.specs.declared.Node.TheVariants.{Sink}
use Rattle.lid_system.specs.Systems as system
use Rattle.lid_system.specs.Tables.{source_width, input_reads}
use Rattle.lid_system.proofs.Points.{first_node, last_node}
use Rattle.lid_net_law.specs.Agreement.{IsSystemOf}
use Rattle.lid_net_law.proofs.Agreeing.{output_there}
use Rattle.lid_stations.specs.declared.placement.Placement.{Placement}
use Rattle.lid_stations.specs.Placements.{links_of, Fits}
use Rattle.lid_shell_laws.specs.Runs.{sink_of}
use Rattle.lid_emit_circuit.specs.Wires.{Wire, shown}
use Rattle.lid_emit_circuit.specs.Plans.{CircuitPlan}
use Rattle.lid_emit_circuit.specs.Runs.{counts_up, rows_where}
use Rattle.lid_emit_system.specs.Nets.{NetWires, AreNetWires}
use Rattle.lid_emit_system.specs.Wrapping.{sink_reads, input_count, circuit_plan, wrapped, face_of}
use Rattle.lid_emit_system.specs.Faces.{fired_by, Face, IsStopped, IsSinkServed, TellsItsState, accepted_rows, delivered_rows, AreInStep, Delivers}
use Rattle.lid_emit_system.proofs.Telling.{tells}
use Rattle.lid_emit_system.proofs.Delivering.{delivers}
use Rattle.lid_emit_system.proofs.Connecting.{connected}
use Rattle.lid_emit_names.specs.Named.{named_design, IsNaming, seen_at}
use Rattle.lid_emit_names.proofs.Tables.{runs}
use Rattle.lid_emit_laws.specs.Flats.{AreFlatsOf, ArePortNames}
use Rattle.lid_emit_meaning.specs.Runs as emitted
use Rattle.lid_emit_laws.proofs.Following.{flats_follow}
use Rattle.lid_base.proofs.Each.{each_map}

-- rows that are the same in each cycle
same_rows : (picked : ℕ → Bool) (row other : ℕ → List Bool) (n : ℕ) → ((k : ℕ) → row k ≡ other k) → rows_where picked row n ≡ rows_where picked other n
same_rows picked row other zero same = refl
same_rows picked row other (suc k) same =
    ap (λ (xs : List (List Bool)). xs ++ cond (picked k) (row k ∷ []) []) (same_rows picked row other k same)
    ∙ ap (λ (y : List Bool). rows_where picked other k ++ cond (picked k) (y ∷ []) []) (same k)

module _ (d : Design) (s : System) (p : Placement) (n : NetWires) (name : Wire → List ℕ) (root : List ℕ) (has : HasTable (drivers d)) (of : IsSystemOf d s) (well : system.IsWellFormed s) (fits : Fits s p) (nets : AreNetWires s p n) (flats : AreFlatsOf d s n) (naming : IsNaming (circuit_plan s p n) name) (ports : ArePortNames d name) (rows : List (List Bool)) (b : Table Column) (strict : IsStrict (drivers (named_design (circuit_plan s p n) name root)) rows b) where
  abbrev q : CircuitPlan
  q = circuit_plan s p n

  abbrev seen : Table Wire
  seen = seen_at name b

  network : IsStrict (wrapped s p n) rows seen
  network = runs q (connected s p n well fits nets) name naming root rows b strict

  inputs_same : input_count s ≡ length (root_inputs d)
  inputs_same =
      let columns = first_node s well in
      ap (λ (o : Option Node). option_map_or source_width o 0) columns.1 ∙ ap length (of.source 0 columns.0 columns.1)

  outputs_same : length (sink_reads s) ≡ length (root_outputs d)
  outputs_same =
      let node = last_node s well in
      let is_sink : system.IsSink s (length s.nodes - 1) node.0 node.1 = well.each_node (length s.nodes - 1) (Sink node.0 node.1) node.2 in
      ap (λ (o : Option Node). length (option_map_or input_reads o [])) node.2 ∙ is_sink.width ∙ ap length (of.sink (length s.nodes - 1) node.0 node.1 node.2).0

  abbrev face : Face
  face = emitted.face_of (root_outputs d) b

  abbrev inner : Face
  inner = face_of s seen

  row_same : (k : ℕ) → inner.row k ≡ face.row k
  row_same k =
      ap (from_each (λ j. seen k (shown j)) 0) outputs_same
      ∙ each_map (seen k) shown 0 (length (root_outputs d))
      ∙ sym (map-map (λ net. b k (column [] net)) name (from_each shown 0 (length (root_outputs d))))
      ∙ ap (map (λ net. b k (column [] net))) ports.outputs

  stop_same : (k : ℕ) → inner.stop k ≡ face.stop k
  stop_same k = ap (λ (net : List ℕ). b k (column [] net)) ports.stops

  valid_same : (k : ℕ) → inner.valid k ≡ face.valid k
  valid_same k = ap (λ (net : List ℕ). b k (column [] net)) ports.valids

  told : TellsItsState (links_of s) p (length (root_inputs d)) rows inner
  told = subst (λ (m : ℕ). TellsItsState (links_of s) p m rows inner) inputs_same (tells s p n well fits rows seen network)

  pub tells_state : TellsItsState (links_of s) p (length (root_inputs d)) rows face
  tells_state = record {
    stops = λ k below. subst (λ (x : Bool). x ≡ true ↔ IsStopped (links_of s) p (fired_by (links_of s) p (length (root_inputs d)) rows k)) (stop_same k) (told.stops k below);
    offers = λ k below. subst (λ (x : Bool). x ≡ true ↔ IsSinkServed (links_of s) p (fired_by (links_of s) p (length (root_inputs d)) rows k)) (valid_same k) (told.offers k below);
    quiet = λ k below void. subst (AllByRecursion (λ (bit : Bool). bit ≡ false)) (row_same k) (told.quiet k below (valid_same k ∙ void));
  }

  delivered_same : delivered_rows (links_of s) p (length (root_inputs d)) rows inner ≡ delivered_rows (links_of s) p (length (root_inputs d)) rows face
  delivered_same = same_rows (counts_up (fired_by (links_of s) p (length (root_inputs d)) rows) (sink_of (links_of s))) inner.row face.row (length rows) row_same

  pub delivers_outputs : Delivers (links_of s) p (length (root_inputs d)) rows face (IsStrictOutput d)
  delivers_outputs given outs begins output =
      subst (λ (xs : List (List Bool)). AreInStep xs outs) delivered_same
      (subst (λ (m : ℕ). Extends (accepted_rows (links_of s) p m rows) given → AreInStep (delivered_rows (links_of s) p m rows inner) outs) inputs_same
      (λ first. delivers s p n well fits nets (flats_follow d s n has of well flats) rows seen network given outs first (output_there d s given outs of well output))
      begins)

  pub runs_as : emitted.RunsAs d (links_of s) p rows face
  runs_as = record { tells = tells_state; delivers = delivers_outputs }
