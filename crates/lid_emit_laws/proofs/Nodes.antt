-- Stations, actors and shells of a wrapped system, by its size.
use Rattle.std.proofs.Common.{◌≡◌, ◌⊎◌, ℕ, zero, suc, ◌+◌, ◌*◌, ◌<◌, ◌≤◌, ◌==◌, List, length, get_or, map, filter, Option, Some, None, slice_get, inl, inr, refl, ◌∙◌, ap, subst, length-append, arith}
use Rattle.std.specs.List.{All}
use Rattle.std.specs.Option.{option_map_or}
use Rattle.std.proofs.lemmas.Bool.{cases_lt}
use Rattle.std.proofs.lemmas.List.{length-map, get_or_past}
use Rattle.std.proofs.lemmas.List.Elements.{All-get_or}
use Rattle.std.proofs.lemmas.List.Sums.{length-filter}
use Rattle.std.proofs.lemmas.Option.{slice_get_within}
use Rattle.lid_base.specs.Lists.{Among}
use Rattle.lid_base.proofs.Lists.{among_get}
use Rattle.lid_design.specs.declared.Design.{Design}
use Rattle.lid_design.specs.declared.Flat.{Flat}
use Rattle.lid_design.specs.declared.FlatCover.{FlatCover}
use Rattle.lid_base.specs.Each.{from_each}
use Rattle.lid_design.specs.Loops.{pearls}
use Rattle.lid_system.specs.declared.System.{System}
use Rattle.lid_system.specs.declared.Node.{Node}
use Rattle.lid_system.specs.declared.Node.TheVariants.{Source, Shell, Sink}
use Rattle.lid_system.specs.Systems.{IsWellFormed}
use Rattle.lid_system.proofs.Points.{inner_node}
use Rattle.lid_net_law.specs.Agreement.{IsSystemOf}
use Rattle.lid_check_rules.specs.Buffers.{passes_on}
use Rattle.lid_stations.specs.declared.placement.Placement.{Placement}
use Rattle.lid_stations.specs.Placements.{links_of, station_count, IsCapacity, Fits}
use Rattle.lid_stations.specs.Stations.{filler, drainer, relay_count}
use Rattle.lid_emit_circuit.specs.Wires.{drains, fills}
use Rattle.lid_emit_circuit.specs.Plans.{CircuitPlan, ends}
use Rattle.lid_emit_circuit.specs.Connected.{IsConnected}
use Rattle.lid_emit_system.specs.Nets.{NetWires, AreNetWires}
use Rattle.lid_emit_system.specs.Wrapping.{circuit_plan, flat_in, no_flat}
use Rattle.lid_emit_system.proofs.Connecting as wrapped
use Rattle.lid_check.specs.Flats.{IsFlatOf}
use Rattle.lid_check_laws.proofs.Totals.{total, total_add, total_same}
use Rattle.lid_emit_laws.specs.Flats.{AreFlatsOf}
use Rattle.lid_emit_meaning.specs.Sizes.{ports_size, pearl_size, at_path, pearls_size}
use Rattle.lid_emit_laws.specs.Passing.{SkipBuffers}
use Rattle.lid_emit_laws.proofs.Sums.{weight_at, spread_few, sum_ones, shifted, total_slots}
use Rattle.lid_emit_laws.proofs.Ports.{ports_counted, as_many_inputs, as_many_outputs}
use Rattle.lid_emit_laws.proofs.Parts.{flat_size, part_few}
use Rattle.lid_base.proofs.Sums.{sum_le}
use Rattle.lid_base.proofs.Each.{each_length}

-- a station holds two tokens at least
room_for : (caps : List ℕ) (station : ℕ) → All IsCapacity caps → 2 ≤ get_or caps station 2
room_for caps station range = by (cases_lt station (length caps))
  where
    by : (station < length caps) ⊎ (length caps ≤ station) → 2 ≤ get_or caps station 2
    by (inl below) = (All-get_or IsCapacity caps station 2 below range).0
    by (inr past) = let e = get_or_past caps station 2 past in omega arith

abbrev one : ℕ → ℕ
one x = 1

-- the numbers that belong to some are no more than all
belong_few : (f : ℕ → ℕ) (xs : List ℕ) (n : ℕ) → total (λ v. length (filter (λ x. f x == v) xs)) 0 n ≤ length xs
belong_few f xs n =
    let same = total_same (λ v. length (filter (λ x. f x == v) xs)) (weight_at f one xs) 0 n (λ v. length-filter (λ x. f x == v) xs) in
    let few = spread_few f one n xs in
    let ones = sum_ones xs in
    omega arith

module _ (d : Design) (s : System) (p : Placement) (n : NetWires) (of : IsSystemOf d s) (well : IsWellFormed s) (fits : Fits s p) (nets : AreNetWires s p n) (flats : AreFlatsOf d s n) (skips : SkipBuffers s n) where
  abbrev pub q : CircuitPlan
  q = circuit_plan s p n

  pub connected : IsConnected q
  connected = wrapped.connected s p n well fits nets

  pub ports_few : q.inputs + length q.shows ≤ ports_size d
  ports_few =
      let all = ports_counted d in
      let a = as_many_inputs d s p n of well in
      let b = as_many_outputs d s p n of well in
      omega arith

  pub room : (station : ℕ) → 2 ≤ q.capacity station
  room station = room_for p.caps station fits.rules.range

  pub relays_few : relay_count p.relays ≤ station_count p.relays
  relays_few = sum_le (λ (k : ℕ). k) (λ (k : ℕ). k + 1) p.relays (λ k i. omega arith)

  -- each station has two ends
  pub ends_few : (m : ℕ) → total (λ v. length (ends q v)) 0 m ≤ 2 * station_count p.relays
  ends_few m =
      let stations = from_each (λ (station : ℕ). station) 0 (station_count p.relays) in
      let parts = total_same (λ v. length (ends q v)) (λ v. length (q.ins v) + length (q.outs v)) 0 m (λ v. each v) in
      let both = total_add (λ v. length (q.ins v)) (λ v. length (q.outs v)) 0 m in
      let ins = belong_few (λ station. drainer (links_of s) p station) stations m in
      let outs = belong_few (λ station. filler (links_of s) p station) stations m in
      let many = each_length (λ (station : ℕ). station) 0 (station_count p.relays) in
      omega arith
    where
      each : (v : ℕ) → length (ends q v) ≡ length (q.ins v) + length (q.outs v)
      each v =
          let a = length-append (map drains (q.ins v)) (map fills (q.outs v)) in
          let b = length-map (q.ins v) drains in
          let c = length-map (q.outs v) fills in
          omega arith

  -- the size of the pearl at a place
  abbrev pearl_at : ℕ → ℕ
  pearl_at i = option_map_or (at_path d (pearl_size d)) (slice_get (pearls d) i) 0

  abbrev pub shell_at : ℕ → ℕ
  shell_at zero = 0
  shell_at (suc i) = pearl_at i

  path_size : (v number : ℕ) (f : Flat) (place : v ≡ number + 1) (part : IsFlatOf d number f) → shell_at v ≡ pearl_size d part.of.number
  path_size v number f place part =
      (let next : v ≡ suc number = omega arith in ap shell_at next)
      ∙ ap (λ (o : Option (List ℕ)). option_map_or (at_path d (pearl_size d)) o 0) part.of.here
      ∙ ap (λ (o : Option ℕ). option_map_or (pearl_size d) o 0) part.of.leads

  -- the flat part of a node is no larger than its pearl
  pub node_few : (v : ℕ) → flat_size (q.flat v) ≤ shell_at v
  node_few v = by (slice_get s.nodes v) refl
    where
      bare : q.flat v ≡ no_flat → flat_size (q.flat v) ≤ shell_at v
      bare is = let none : flat_size (q.flat v) ≡ 0 = ap flat_size is in omega arith

      by : (o : Option Node) → slice_get s.nodes v ≡ o → flat_size (q.flat v) ≤ shell_at v
      by None here = bare (ap (λ (o : Option Node). option_map_or (flat_in n v) o no_flat) here)
      by (Some (Source columns)) here = bare (ap (λ (o : Option Node). option_map_or (flat_in n v) o no_flat) here)
      by (Some (Sink columns ins)) here = bare (ap (λ (o : Option Node). option_map_or (flat_in n v) o no_flat) here)
      by (Some (Shell pearl ins)) here =
          let same : flat_size (q.flat v) ≡ flat_size (n.flat v) = ap (λ (o : Option Node). flat_size (option_map_or (flat_in n v) o no_flat)) here in
          let part = flats v pearl ins here in
          let few = part_few d part.0 (n.flat v) part.2 (nets v pearl ins here).rules in
          let large = path_size v part.0 (n.flat v) part.1 part.2 in
          omega arith

  -- its nets are skipped where covers pass on
  pub node_skips : (v : ℕ) (c : FlatCover) → Among c (q.flat v).covers → q.skips v c.out ≡ passes_on c.cover
  node_skips v c = by (slice_get s.nodes v) refl
    where
      inside : (o : Option Node) → slice_get s.nodes v ≡ o → Among c (q.flat v).covers → Among c (option_map_or (flat_in n v) o no_flat).covers
      inside o here there = subst (λ (o : Option Node). Among c (option_map_or (flat_in n v) o no_flat).covers) here there

      by : (o : Option Node) → slice_get s.nodes v ≡ o → Among c (q.flat v).covers → q.skips v c.out ≡ passes_on c.cover
      by None here there = absurd (inside None here there)
      by (Some (Source columns)) here there = absurd (inside (Some (Source columns)) here there)
      by (Some (Sink columns ins)) here there = absurd (inside (Some (Sink columns ins)) here there)
      by (Some (Shell pearl ins)) here there = skips v pearl ins here c (inside (Some (Shell pearl ins)) here there)

  pub shells_few : (m : ℕ) → total shell_at 0 m ≤ pearls_size d
  shells_few zero = omega arith
  shells_few (suc m) =
      let next : total shell_at 1 m ≡ total pearl_at 0 m = shifted shell_at 0 m in
      let few = total_slots (at_path d (pearl_size d)) (pearls d) m in
      omega arith

  -- each pearl counts
  pearl_counts : (path : List ℕ) → Among path (pearls d) → 1 ≤ at_path d (pearl_size d) path
  pearl_counts path among =
      let at = among_get (pearls d) path among in
      let below = slice_get_within (pearls d) at.0 path at.1 in
      let nodes = of.nodes in
      let node = inner_node s well (suc at.0) (omega arith) (omega arith) in
      let part = flats (suc at.0) node.0 node.1 node.2 in
      let large = path_size (suc at.0) part.0 (n.flat (suc at.0)) part.1 part.2 in
      let here : shell_at (suc at.0) ≡ at_path d (pearl_size d) path = ap (λ (o : Option (List ℕ)). option_map_or (at_path d (pearl_size d)) o 0) at.1 in
      omega arith

  pub pearls_few : length (pearls d) ≤ pearls_size d
  pearls_few =
      let ones = sum_ones (pearls d) in
      let less = sum_le (λ (path : List ℕ). 1) (at_path d (pearl_size d)) (pearls d) pearl_counts in
      omega arith
