-- The text of a wrapped system, by the size.
use Rattle.std.proofs.Common.{◌≡◌, ℕ, ◌+◌, ◌*◌, ◌≤◌, List, [], ◌∷◌, ◌++◌, length, map, None, inl, inr, refl, sym, ◌∙◌, ap, subst, append-nil, arith}
use Rattle.std.specs.Prelude.{codes}
use Rattle.std.specs.List.{flat_map, sum_by}
use Rattle.std.proofs.lemmas.List.{map-append}
use Rattle.std.proofs.lemmas.List.Sums.{sum_by-cons, sum_by-append}
use Rattle.lid_base.specs.Lists.{Among}
use Rattle.lid_base.proofs.Lists.{among_left}
use Rattle.lid_design.specs.declared.Design.{Design}
use Rattle.lid_design.specs.declared.Cell.{Cell}
use Rattle.lid_design.specs.declared.Cell.TheVariants.{Names, Latch}
use Rattle.lid_design.specs.declared.LatchKind.TheVariants.{Plain}
use Rattle.lid_design.specs.Network.{Driver, from_input, from_latch, from_cover, from_connection}
use Rattle.lid_base.specs.Each.{from_each}
use Rattle.lid_design.specs.Columns.{root_inputs, root_outputs}
use Rattle.lid_base_lines.specs.Texts.{Words}
use Rattle.lid_blifout.specs.Canonical.{listed, cell_lines, body_lines, model_lines, canonical_text}
use Rattle.lid_system.specs.declared.System.{System}
use Rattle.lid_system.specs.Systems.{IsWellFormed}
use Rattle.lid_net_law.specs.Agreement.{IsSystemOf}
use Rattle.lid_stations.specs.declared.placement.Placement.{Placement}
use Rattle.lid_stations.specs.Placements.{links_of, Fits}
use Rattle.lid_emit_circuit.specs.Wires.{Wire, entry, offer, block, shown, valid, stop}
use Rattle.lid_emit_circuit.specs.Plans.{CircuitPlan}
use Rattle.lid_emit_circuit.specs.Network.{emitted}
use Rattle.lid_emit_circuit.specs.Known.{IsKnown}
use Rattle.lid_emit_circuit.specs.Connected.{IsConnected}
use Rattle.lid_emit_circuit.specs.Lists.{shell_wires, wires}
use Rattle.lid_emit_system.specs.Nets.{NetWires, AreNetWires}
use Rattle.lid_emit_system.specs.Wrapping.{circuit_plan}
use Rattle.lid_emit_names.specs.Named.{written, init_of, cell_of, cells_driving, input_wires, output_wires, named_model, named_design}
use Rattle.lid_emit_names.proofs.Cells.{listed_known, listed_cell, reads_known}
use Rattle.lid_emit_names.proofs.Written.{written_inputs}
use Rattle.lid_check_laws.proofs.Totals.{total}
use Rattle.lid_emit_laws.specs.Flats.{AreFlatsOf, ArePortNames}
use Rattle.lid_emit_meaning.specs.Sizes.{ports_size, size}
use Rattle.lid_emit_laws.specs.Passing.{SkipBuffers}
use Rattle.lid_emit_laws.specs.Shortness.{AreShort}
use Rattle.lid_emit_laws.specs.Bounds.{plan_cells}
use Rattle.lid_emit_laws.proofs.Ports.{as_many_inputs, as_many_outputs}
use Rattle.lid_emit_laws.proofs.Lines.{line_size, lines_size, lines_two, lines_more, cell_text, names_text, latch_text, cells_text}
use Rattle.lid_emit_laws.proofs.Costs.{most, all_most, cost, costs, wire_cost, wires_cost, stations_cost, actors_cost, outer_cost}
use Rattle.lid_emit_laws.proofs.Weights.{each_weight, all_weights}
use Rattle.lid_emit_laws.proofs.Inner.{put_inner, shows_inner}
use Rattle.lid_emit_laws.proofs.ShellCosts.{shell_cost}
use Rattle.lid_emit_laws.proofs.Nodes.{connected, ports_few, room, relays_few, ends_few, shell_at, node_few, node_skips, shells_few, pearls_few}
use Rattle.lid_base.proofs.Sums.{sum_flat, sum_le}

-- the text of what drives a wire is no longer than its cost
module _ (q : CircuitPlan) (con : IsConnected q) (name : Wire → List ℕ) (short : AreShort q name) where
  reads_short : (reads : List Wire) → ((r : Wire) → Among r reads → IsKnown q r) → line_size (map name reads) ≤ all_most q name reads
  reads_short [] known = omega arith
  reads_short (r ∷ rs) known =
      let a = sum_by-cons (λ (word : List ℕ). 1 + length word) (name r) (map name rs) in
      let b = sum_by-cons (most q name) r rs in
      let here = short r (known r (inl refl)) in
      let rest = reads_short rs (λ x i. known x (inr i)) in
      omega arith

  one_text : (cell : Cell) → sum_by cell_text (cell ∷ []) ≡ cell_text cell
  one_text cell = let e = sum_by-cons cell_text cell [] in omega arith

  source_text : (w : Wire) (there : Among w (wires q)) (s : Driver Wire) → Among s (emitted q w) → sum_by cell_text (cell_of name w s) ≤ cost q name w s
  source_text w there (from_input j) drives = omega arith
  source_text w there (from_connection c) drives = omega arith
  source_text w there (from_latch first input) drives =
      let own = short w (listed_known q con name w there) in
      let read = short input (reads_known q con name w there (from_latch first input) drives input (inl refl)) in
      let text = latch_text (name input) (name w) first in
      let one = one_text (Latch (name input) (name w) Plain None (init_of first)) in
      omega arith
  source_text w there (from_cover cover reads) drives =
      let own = short w (listed_known q con name w there) in
      let read = reads_short reads (λ r i. reads_known q con name w there (from_cover cover reads) drives r (among_left r reads [] i)) in
      let text = names_text (map name reads) (name w) (written cover) in
      let same : (written cover).inputs ≡ cover.inputs = written_inputs cover in
      let product : length (written cover).cubes * ((written cover).inputs + 3) ≡ length (written cover).cubes * (cover.inputs + 3) = ap (λ (m : ℕ). length (written cover).cubes * (m + 3)) same in
      let one = one_text (Names (map name reads) (name w) (written cover)) in
      omega arith

  wire_text : (w : Wire) → Among w (wires q) → sum_by cell_text (cells_driving q name w) ≤ wire_cost q name w
  wire_text w there = by (listed_cell q con name w there).source (listed_cell q con name w there).only
    where
      by : (s : Driver Wire) → emitted q w ≡ s ∷ [] → sum_by cell_text (cells_driving q name w) ≤ wire_cost q name w
      by s only =
          let text : sum_by cell_text (cells_driving q name w) ≡ sum_by cell_text (cell_of name w s ++ []) = ap (λ (ss : List (Driver Wire)). sum_by cell_text (flat_map (cell_of name w) ss)) only in
          let none : sum_by cell_text (cell_of name w s ++ []) ≡ sum_by cell_text (cell_of name w s) = ap (sum_by cell_text) (append-nil (cell_of name w s)) in
          let whole : wire_cost q name w ≡ costs q name w (s ∷ []) = ap (costs q name w) only in
          let one = sum_by-cons (cost q name w) s [] in
          let few = source_text w there s (subst (Among s) (sym only) (inl refl)) in
          omega arith

  pub cells_short : lines_size (flat_map cell_lines (plan_cells q name)) ≤ wires_cost q name (wires q)
  cells_short =
      let each = cells_text (plan_cells q name) in
      let flat = sum_flat cell_text (cells_driving q name) (λ w. sum_by cell_text (cells_driving q name w)) (wires q) (λ w i. refl) in
      let less = sum_le (λ w. sum_by cell_text (cells_driving q name w)) (wire_cost q name) (wires q) wire_text in
      omega arith

listed_size : (keyword : List ℕ) (names : Words) (lines : List Words) → lines_size (listed keyword names ++ lines) ≤ 1 + length keyword + line_size names + lines_size lines
listed_size keyword [] lines = omega arith
listed_size keyword (name ∷ names) lines =
    let a = lines_more keyword (name ∷ names) lines in
    let b = sum_by-cons (λ (word : List ℕ). 1 + length word) keyword (name ∷ names) in
    omega arith

-- the text of a design of named wires is that of its ports and its cells
design_size : (q : CircuitPlan) (name : Wire → List ℕ) (root : List ℕ) → length (canonical_text (named_design q name root)) ≤ 35 + length root + line_size (map name (input_wires q)) + line_size (map name (output_wires q)) + lines_size (flat_map cell_lines (plan_cells q name))
unfolding canonical_text
design_size q name root =
    let m = named_model q name root in
    let cells = flat_map cell_lines (plan_cells q name) in
    let last = (codes ".end" ∷ []) ∷ [] in
    let a : length (canonical_text (named_design q name root)) ≡ lines_size (model_lines m) = ap lines_size (append-nil (model_lines m)) in
    let b = lines_more (codes ".model") (root ∷ []) (body_lines m) in
    let b1 = sum_by-cons (λ (word : List ℕ). 1 + length word) (codes ".model") (root ∷ []) in
    let b2 = sum_by-cons (λ (word : List ℕ). 1 + length word) root [] in
    let c = listed_size (codes ".inputs") (map name (input_wires q)) (listed (codes ".outputs") (map name (output_wires q)) ++ (cells ++ last)) in
    let e = listed_size (codes ".outputs") (map name (output_wires q)) (cells ++ last) in
    let f = lines_two cells last in
    let g = lines_more (codes ".end") [] [] in
    let g1 = sum_by-cons (λ (word : List ℕ). 1 + length word) (codes ".end") [] in
    let k1 : length (codes ".model") ≡ 6 = refl in
    let k2 : length (codes ".inputs") ≡ 7 = refl in
    let k3 : length (codes ".outputs") ≡ 8 = refl in
    let k4 : length (codes ".end") ≡ 4 = refl in
    omega arith

module _ (d : Design) (s : System) (p : Placement) (n : NetWires) (name : Wire → List ℕ) (root : List ℕ) (of : IsSystemOf d s) (well : IsWellFormed s) (fits : Fits s p) (nets : AreNetWires s p n) (flats : AreFlatsOf d s n) (skips : SkipBuffers s n) (short : AreShort (circuit_plan s p n) name) (ports : ArePortNames d name) where
  abbrev q : CircuitPlan
  q = circuit_plan s p n

  con : IsConnected q
  con = connected d s p n of well fits nets flats skips

  node_cost : (v : ℕ) → wires_cost q name (shell_wires q v) ≤ 376 * shell_at d s p n of well fits nets flats skips v
  node_cost v =
      let whole = shell_cost q con name v (node_skips d s p n of well fits nets flats skips v) in
      let few = node_few d s p n of well fits nets flats skips v in
      omega arith

  nodes_cost : (k m : ℕ) → wires_cost q name (flat_map (shell_wires q) (from_each (λ v. v) k m)) ≤ 376 * total (shell_at d s p n of well fits nets flats skips) k m
  nodes_cost k m = let all = each_weight (wire_cost q name) (shell_wires q) (shell_at d s p n of well fits nets flats skips) 0 376 0 k m (λ v low high. let here = node_cost v in omega arith) in omega arith

  entries : line_size (map name (from_each entry 0 q.inputs)) ≡ line_size (root_inputs d)
  entries = ap (λ (m : ℕ). line_size (map name (from_each entry 0 m))) (as_many_inputs d s p n of well) ∙ ap line_size ports.inputs

  showns : line_size (map name (from_each shown 0 (length q.shows))) ≡ line_size (root_outputs d)
  showns = ap (λ (m : ℕ). line_size (map name (from_each shown 0 m))) (as_many_outputs d s p n of well) ∙ ap line_size ports.outputs

  -- the sizes of names are those of words
  names_size : line_size (root_inputs d) + line_size (root_outputs d) ≡ ports_size d
  names_size = let both = sum_by-append (λ (word : List ℕ). 1 + length word) (root_inputs d) (root_outputs d) in omega arith

  two_names : (a b : Wire) → line_size (map name (a ∷ b ∷ [])) ≡ 1 + length (name a) + (1 + length (name b))
  two_names a b =
      let e = sum_by-cons (λ (word : List ℕ). 1 + length word) (name a) (name b ∷ []) in
      let f = sum_by-cons (λ (word : List ℕ). 1 + length word) (name b) [] in
      omega arith

  inputs_size : line_size (map name (input_wires q)) ≤ line_size (root_inputs d) + 26
  inputs_size =
      let split = ap line_size (map-append name (from_each entry 0 q.inputs) (offer ∷ block ∷ [])) in
      let both = sum_by-append (λ (word : List ℕ). 1 + length word) (map name (from_each entry 0 q.inputs)) (map name (offer ∷ block ∷ [])) in
      let two = two_names offer block in
      let a = short offer tt in
      let b = short block tt in
      let own = entries in
      omega arith

  outputs_size : line_size (map name (output_wires q)) ≤ line_size (root_outputs d) + 26
  outputs_size =
      let split = ap line_size (map-append name (from_each shown 0 (length q.shows)) (valid ∷ stop ∷ [])) in
      let both = sum_by-append (λ (word : List ℕ). 1 + length word) (map name (from_each shown 0 (length q.shows))) (map name (valid ∷ stop ∷ [])) in
      let two = two_names valid stop in
      let a = short valid tt in
      let b = short stop tt in
      let own = showns in
      omega arith

  parts_cost : wires_cost q name (wires q) + ports_size d ≤ 940 * size d (links_of s) p + 900
  unfolding size
  parts_cost =
      let parts = all_weights (wire_cost q name) q in
      let outer = outer_cost q name (put_inner q con name) (shows_inner q con name) in
      let count = ports_few d s p n of well fits nets flats skips in
      let sizes_of_names = names_size in
      let ins = entries in
      let outs = showns in
      let at_stations = stations_cost q name (put_inner q con name) (room d s p n of well fits nets flats skips) 0 q.stations (omega arith) in
      let at_actors = actors_cost q name (put_inner q con name) 0 q.actors in
      let two_ends = ends_few d s p n of well fits nets flats skips q.actors in
      let movers = relays_few d s p n of well fits nets flats skips in
      let nodes = of.nodes in
      let at_nodes = nodes_cost 0 q.nodes in
      let sizes = shells_few d s p n of well fits nets flats skips q.nodes in
      let many = pearls_few d s p n of well fits nets flats skips in
      omega arith

  pub short_text : size d (links_of s) p ≤ 16384 → length root ≤ 1024 → length (canonical_text (named_design q name root)) ≤ 16777216
  short_text small root_short =
      let whole = design_size q name root in
      let cells = cells_short q con name short in
      let most_cost = parts_cost in
      let ins = inputs_size in
      let outs = outputs_size in
      let sizes_of_names = names_size in
      omega arith
