-- What a wrapped system delivers: the output rows for the rows that it accepts.
use Rattle.std.proofs.Common.{◌≡◌, ℕ, suc, ◌+◌, ◌-◌, ◌<◌, Bool, true, false, List, [], length, get_or, Some, slice_get, sym, ◌∙◌, ap, subst, arith}
use Rattle.std.specs.Prelude.{Option}
use Rattle.std.specs.Option.{option_map_or}
use Rattle.std.proofs.lemmas.Option.{get_or_from_slice_get}
use Rattle.lid_base.specs.Lists.{Extends}
use Rattle.lid_base.proofs.Lists.{all_at}
use Rattle.lid_design.specs.Network.{Table, IsStrict}
use Rattle.lid_base.specs.Each.{from_each}
use Rattle.lid_system.specs.declared.System.{System}
use Rattle.lid_system.specs.declared.Node.{Node}
use Rattle.lid_system.specs.declared.Node.TheVariants.{Sink}
use Rattle.lid_system.specs.declared.InBit.{InBit}
use Rattle.lid_system.specs.Systems.{Point, IsRead, IsSink, IsWellFormed}
use Rattle.lid_system.specs.Tables.{IsTable, in_bit, input_reads}
use Rattle.lid_system.specs.Streams.{output_row, IsOutput}
use Rattle.lid_system.proofs.Points.{last_node}
use Rattle.lid_stations.specs.declared.placement.Placement.{Placement}
use Rattle.lid_stations.specs.Placements.{links_of, Fits}
use Rattle.lid_emit_circuit.specs.Wires.{Wire, shown}
use Rattle.lid_emit_circuit.specs.Plans.{CircuitPlan}
use Rattle.lid_emit_circuit.specs.Network.{sink}
use Rattle.lid_emit_circuit.specs.Runs.{held_by, counts_up, row_bit, data_row}
use Rattle.lid_emit_circuit.specs.Counts.{graph, fired}
use Rattle.lid_emit_circuit.proofs.Counts.{begins_at}
use Rattle.lid_emit_circuit.proofs.Holding.{risen}
use Rattle.lid_emit_circuit.proofs.Firing.{goes, rises_is}
use Rattle.lid_emit_circuit.proofs.Outside.{gives_row}
use Rattle.lid_emit_system.specs.Nets.{NetWires, AreNetWires, FollowTables, read_wire}
use Rattle.lid_emit_system.specs.Faces.{accepted_rows, AreInStep, delivered_rows, Delivers}
use Rattle.lid_emit_system.specs.Wrapping.{sink_reads, input_count, circuit_plan, wrapped, face_of}
use Rattle.lid_emit_system.proofs.Planning.{plan_is}
use Rattle.lid_emit_system.proofs.Cycles.{each_is_map, row_there, in_step}
use Rattle.lid_emit_system.proofs.Carrying.{o, read_taken, carries_table}
use Rattle.lid_emit_system.proofs.Telling.{output_wire}
use Rattle.lid_base.proofs.Places.{get_left}
use Rattle.lid_base.proofs.Each.{each_at}

module _ (s : System) (p : Placement) (n : NetWires) (well : IsWellFormed s) (fits : Fits s p) (nets : AreNetWires s p n) (follow : FollowTables s n) (rows : List (List Bool)) (b : Table Wire) (strict : IsStrict (wrapped s p n) rows b) where
  abbrev q : CircuitPlan
  q = circuit_plan s p n

  -- counts rise where they are said to
  first : (v : ℕ) → fired q rows 0 v ≡ 0
  first v = begins_at (graph q) (held_by q.inputs (sink q) rows) v

  step : (v : ℕ) → v < q.actors → (k : ℕ) → fired q rows (suc k) v ≡ risen (counts_up (fired q rows) v k) (fired q rows k v)
  step v actor k = goes q (plan_is s p n well fits) rows k v actor ∙ ap (λ (x : Bool). risen x (fired q rows k v)) (sym (rises_is q (plan_is s p n well fits) rows k v actor))

  source_acts : 0 < q.actors
  source_acts = omega (arith, well.least)

  module _ (given : List (List Bool)) (begins : Extends (accepted_rows (links_of s) p (input_count s) rows) given) where
    -- a row that is accepted stands where the source has fired so often
    accepts : (k x : ℕ) → k < length rows → x < input_count s → counts_up (fired q rows) 0 k ≡ true → fired q rows k 0 < length given → row_bit given (fired q rows k 0) x ≡ row_bit rows k x
    accepts k x below within rising few =
        let there : slice_get (accepted_rows (links_of s) p (input_count s) rows) (fired q rows k 0) ≡ Some (data_row (input_count s) rows k) = row_there (counts_up (fired q rows) 0) (data_row (input_count s) rows) (λ j. fired q rows j 0) (first 0) (step 0 source_acts) (length rows) k below rising in
        let longer : slice_get given (fired q rows k 0) ≡ Some (data_row (input_count s) rows k) = ap (λ (xs : List (List Bool)). slice_get xs (fired q rows k 0)) begins.1 ∙ get_left (accepted_rows (links_of s) p (input_count s) rows) begins.0 (fired q rows k 0) (data_row (input_count s) rows k) there in
        let row : get_or given (fired q rows k 0) [] ≡ data_row (input_count s) rows k = get_or_from_slice_get given (fired q rows k 0) (data_row (input_count s) rows k) [] longer in
        let place : 0 + x ≡ x = omega arith in
        ap (λ (bits : List Bool). get_or bits x false) row ∙ each_at (row_bit rows k) 0 (input_count s) x false within ∙ ap (row_bit rows k) place

    module _ (a : Table Point) (table : IsTable s given a) where
      abbrev bits : ℕ → Table ℕ
      bits = (follow given a table).0

      -- the sink reads what its inputs read
      reads : (j : ℕ) (x : InBit) → slice_get (sink_reads s) j ≡ Some x → IsRead s (length s.nodes - 1) x
      reads j x here =
          let node = last_node s well in
          let is_sink : IsSink s (length s.nodes - 1) node.0 node.1 = well.each_node (length s.nodes - 1) (Sink node.0 node.1) node.2 in
          let ins : sink_reads s ≡ node.1 = ap (λ (n : Option Node). option_map_or input_reads n []) node.2 in
          all_at (IsRead s (length s.nodes - 1)) node.1 j x is_sink.reads (ap (λ (xs : List InBit). slice_get xs j) (sym ins) ∙ here)

      row_is : (k : ℕ) → k < length rows → counts_up (fired q rows) (sink q) k ≡ true → fired q rows k (sink q) < length given → from_each (λ j. b k (shown j)) 0 (length (sink_reads s)) ≡ output_row s a (fired q rows k (sink q))
      row_is k below rising few = each_is_map (λ j. b k (shown j)) (in_bit s a (fired q rows k (sink q))) (sink_reads s) 0 bit
        where
          bit : (j : ℕ) (x : InBit) → slice_get (sink_reads s) j ≡ Some x → b k (shown (0 + j)) ≡ in_bit s a (fired q rows k (sink q)) x
          bit j x here =
              let place : 0 + j ≡ j = omega arith in
              ap (λ (i : ℕ). b k (shown i)) place
              ∙ gives_row q (plan_is s p n well fits) rows b strict k below (o s p n well fits given a table bits) j (read_wire p x) (λ m. in_bit s a m x)
              (carries_table s p n well fits given a table bits rows accepts nets (follow given a table).1)
              (output_wire s p n well fits rows b strict j x here)
              (read_taken s p n well fits given a table bits (sink q) x (reads j x here))
              rising few

      pub are_in_step : AreInStep (delivered_rows (links_of s) p (input_count s) rows (face_of s b)) (from_each (output_row s a) 0 (length given))
      are_in_step =
          in_step (counts_up (fired q rows) (sink q)) (λ k. from_each (λ j. b k (shown j)) 0 (length (sink_reads s))) (λ k. fired q rows k (sink q)) (first (sink q)) (step (sink q) (plan_is s p n well fits).last)
          (output_row s a) (length given) (length rows) row_is

  pub delivers : Delivers (links_of s) p (input_count s) rows (face_of s b) (IsOutput s)
  delivers given outs begins output =
      let a = output.some.0 in
      let table = output.some.1 in
      subst (λ (xs : List (List Bool)). AreInStep (delivered_rows (links_of s) p (input_count s) rows (face_of s b)) xs) (sym (output.each a table)) (are_in_step given begins a table)
