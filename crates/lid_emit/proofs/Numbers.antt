-- The numbers of the wires of a plan are small.
use Rattle.std.proofs.Common.{◌≡◌, ℕ, zero, suc, ◌^◌, ◌<◌, ◌≤◌, true, false, length, map, inl, inr, refl, sym, ◌∙◌, ap, subst, arith, length-append}
use Rattle.std.specs.Prelude.{Option, Some, None, slice_get}
use Rattle.std.specs.List.{AllByRecursion}
use Rattle.std.specs.Option.{option_map_or}
use Rattle.std.proofs.lemmas.List.{length-map}
use Rattle.std.proofs.lemmas.List.FromFn.{length-map-range_with_len}
use Rattle.lid_base.proofs.Lists.{all_among}
use Rattle.lid_design.specs.declared.Design.{Design}
use Rattle.lid_design.specs.declared.Flat.{Flat}
use Rattle.lid_design.specs.declared.FlatLatch.{FlatLatch}
use Rattle.lid_design.specs.declared.FlatCover.{FlatCover}
use Rattle.lid_design.specs.Elaboration.{columns}
use Rattle.lid_check_drivers.specs.Judged.{IsJudged}
use Rattle.lid_check_drivers.proofs.Limits.{few_columns}
use Rattle.lid_check_elab.specs.Numbers.{start_of, columns_in}
use Rattle.lid_check_elab.proofs.Numbering.{numbering}
use Rattle.lid_check_parts.proofs.Columns.{stands_few}
use Rattle.lid_check.specs.Flats.{IsFlatOf}
use Rattle.lid_system.specs.declared.System.{System}
use Rattle.lid_system.specs.declared.Node.{Node}
use Rattle.lid_system.specs.declared.Node.TheVariants.{Source, Shell, Sink}
use Rattle.lid_stations.specs.declared.placement.Placement.{Placement}
use Rattle.lid_emit_circuit.specs.Wires.{entry, given, offer, block, steady, may, fire, level, grown, place, moved, now, kept, later, shown, valid, stop, drains, fills}
use Rattle.lid_emit_circuit.specs.Plans.{CircuitPlan, ends}
use Rattle.lid_emit_circuit.specs.Known.{IsLatchNet, IsCoverNet}
use Rattle.lid_emit_circuit.specs.Connected.{IsConnected}
use Rattle.lid_emit_system.specs.Nets.{NetWires}
use Rattle.lid_emit_system.specs.Wrapping.{flat_in, no_flat, circuit_plan}
use Rattle.lid_emit_laws.specs.Flats.{AreFlatsOf}
use Rattle.lid_emit_names.specs.Spelling.{AreSmall}
use Rattle.lid_emit_cells.specs.declared.all.All.{All}
use Rattle.lid_emit_cells.specs.Matches.{station_of, AreAllSmall, IsAllOf}
use Rattle.lid_base.proofs.Places.{item_at}

-- the nets of a flat part are no more than there are columns
flat_few : (d : Design) → IsJudged d → (pearl : ℕ) (f : Flat) → IsFlatOf d pearl f → f.nets ≤ 1048576
flat_few d judged pearl f flat =
    let own = columns_in (length d.models) d flat.of.path flat.of.number in
    let within = stands_few (columns d) (start_of d flat.of.path) own (numbering d judged flat.of.path flat.of.number flat.of.leads) in
    let whole = sym (length-map-range_with_len flat.col 0 f.nets) ∙ ap length flat.all in
    let few = few_columns d judged in
    omega (arith, within, whole, few)

pub nets_few : (d : Design) (s : System) (p : Placement) (n : NetWires) → IsJudged d → AreFlatsOf d s n → (v : ℕ) → ((circuit_plan s p n).flat v).nets ≤ 1048576
nets_few d s p n judged flats v = by (slice_get s.nodes v) refl
  where
    by : (o : Option Node) → slice_get s.nodes v ≡ o → (option_map_or (flat_in n v) o no_flat).nets ≤ 1048576
    by None here = omega arith
    by (Some (Source columns)) here = omega arith
    by (Some (Shell pearl ins)) here = let flat = flats v pearl ins here in flat_few d judged flat.0 (n.flat v) flat.2
    by (Some (Sink columns ins)) here = omega arith

module _ (q : CircuitPlan) (con : IsConnected q) (few : (v : ℕ) → (q.flat v).nets ≤ 1048576) (all : All) (is : IsAllOf q all) (sound : AreAllSmall all) (narrow : q.inputs ≤ 16384) where
  record IsSmallStation (s : ℕ) : Type 0 where
    number : s < 2 ^ 32
    capacity : q.capacity s ≤ 16
    width : q.width s ≤ 31

  station_small : (s : ℕ) → s < q.stations → IsSmallStation s
  station_small s below =
      let at = item_at all.stations s (omega (arith, below, is.stations)) in
      let one = is.each_station s at.0 at.1 in
      let small = sound.stations s at.0 at.1 in
      record {
        number = omega (arith, below, is.stations, sound.few_stations);
        capacity = omega (arith, one.capacity, small.0);
        width = omega (arith, one.width, small.1);
      }

  record IsSmallActor (v : ℕ) : Type 0 where
    number : v < 2 ^ 32
    ends : length (ends q v) < 2 ^ 32

  actor_small : (v : ℕ) → v < q.actors → IsSmallActor v
  actor_small v below =
      let at = item_at all.actors v (omega (arith, below, is.actors)) in
      let one = is.each_actor v at.0 at.1 in
      let small = sound.actors v at.0 at.1 in
      let both = length-append (map drains (q.ins v)) (map fills (q.outs v)) in
      let ins = length-map (q.ins v) drains ∙ ap length one.ins in
      let outs = length-map (q.outs v) fills ∙ ap length one.outs ∙ length-map at.0.outs station_of in
      record {
        number = omega (arith, below, is.actors, sound.few_actors);
        ends = omega (arith, both, ins, outs, small);
      }

  record IsSmallNet (v k : ℕ) : Type 0 where
    shell : v < 2 ^ 64
    net : k < 2 ^ 64

  net_small : (v k : ℕ) → k < (q.flat v).nets → IsSmallNet v k
  net_small v k below =
      let node = con.shells v (omega (arith, below)) in
      record { shell = omega (arith, node, is.nodes, sound.few_shells); net = omega (arith, below, few v) }

  latch_small : (v k : ℕ) → IsLatchNet q v k → IsSmallNet v k
  latch_small v k at =
      let rules = (con.rules v).below.latches in
      net_small v k (subst (λ (m : ℕ). m < (q.flat v).nets) at.2 (all_among (λ (l : FlatLatch). (l.input < (q.flat v).nets) × (l.out < (q.flat v).nets)) (q.flat v).latches at.0 rules at.1).1)

  cover_small : (v k : ℕ) → IsCoverNet q v k → IsSmallNet v k
  cover_small v k at =
      let rules = (con.rules v).below.covers in
      net_small v k (subst (λ (m : ℕ). m < (q.flat v).nets) at.2 (all_among (λ (c : FlatCover). AllByRecursion (λ k. k < (q.flat v).nets) c.ins × (c.out < (q.flat v).nets)) (q.flat v).covers at.0 rules at.1).1)

  pub are_small : AreSmall q
  are_small (entry j) known = tt
  are_small offer known = tt
  are_small block known = tt
  are_small (shown j) known = tt
  are_small valid known = tt
  are_small stop known = tt
  are_small (given j) known = (omega (arith, known, narrow), tt)
  are_small (steady true) known = (omega arith, tt)
  are_small (steady false) known = (omega arith, tt)
  are_small (may v i) known = let actor = actor_small v known.0 in (omega (arith, actor.number), (omega (arith, actor.ends, known.1), tt))
  are_small (fire v) known = let actor = actor_small v known in (omega (arith, actor.number), tt)
  are_small (level s i) known = let station = station_small s known.0 in (omega (arith, station.number), (omega (arith, station.capacity, known.1), tt))
  are_small (grown s zero) known = absurd known
  are_small (grown s (suc i)) known = let station = station_small s known.0 in (omega (arith, station.number), (omega (arith, station.capacity, known.1), tt))
  are_small (place s i j) known = let station = station_small s known.0 in (omega (arith, station.number), (omega (arith, station.capacity, known.1), (omega (arith, station.width, known.2), tt)))
  are_small (moved s i j) known = let station = station_small s known.0 in (omega (arith, station.number), (omega (arith, station.capacity, known.1), (omega (arith, station.width, known.2), tt)))
  are_small (now v k) (inl latch) = let net = latch_small v k latch in (net.shell, (net.net, tt))
  are_small (now v k) (inr cover) = let net = cover_small v k cover in (net.shell, (net.net, tt))
  are_small (kept v k) known = let net = latch_small v k known in (net.shell, (net.net, tt))
  are_small (later v k) known = let net = cover_small v k known in (net.shell, (net.net, tt))
