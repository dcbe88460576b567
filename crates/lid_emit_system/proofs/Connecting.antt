-- The wires of a wrapped system are connected.
use Rattle.std.proofs.Common.{◌≡◌, ℕ, zero, suc, ◌+◌, ◌-◌, ◌<◌, ◌⊎◌, inl, inr, false, List, [], length, get_or, Some, None, slice_get, refl, sym, ◌∙◌, ap, subst, arith}
use Rattle.std.specs.Prelude.{Option}
use Rattle.std.specs.Option.{option_map_or}
use Rattle.std.proofs.lemmas.Option.{slice_get-get_or, slice_get_within}
use Rattle.lid_base.specs.Lists.{Among}
use Rattle.lid_base.proofs.Lists.{among_get, among_at, map_among, all_among, all_at}
use Rattle.lid_design.specs.declared.Flat.{Flat}
use Rattle.lid_design.specs.Flat.{flat_drivers, IsFlat}
use Rattle.lid_pearl.specs.Pearls.{View}
use Rattle.lid_system.specs.declared.System.{System}
use Rattle.lid_system.specs.declared.Node.{Node}
use Rattle.lid_system.specs.declared.Node.TheVariants.{Source, Shell, Sink}
use Rattle.lid_system.specs.declared.InBit.{InBit}
use Rattle.lid_system.specs.declared.InBit.TheVariants.{Const, Port}
use Rattle.lid_system.specs.declared.Channel.{Channel}
use Rattle.lid_system.specs.Systems.{IsRead, IsSink, IsWellFormed}
use Rattle.lid_system.specs.Tables.{source_width, input_reads}
use Rattle.lid_system.proofs.Points.{first_node, last_node, inner_node, shell_is}
use Rattle.lid_stations.specs.declared.placement.Placement.{Placement}
use Rattle.lid_stations.specs.Placements.{links_of, station_count, Fits}
use Rattle.lid_stations.specs.Stations.{spot_at, channel_at, filler}
use Rattle.lid_stations.proofs.Spots.{stands_between}
use Rattle.lid_stations.proofs.Movers.{carries}
use Rattle.lid_emit_circuit.specs.Wires.{Wire, given, place}
use Rattle.lid_emit_circuit.specs.Plans.{CircuitPlan}
use Rattle.lid_emit_circuit.specs.Carried.{AreWired}
use Rattle.lid_emit_circuit.specs.Connected as wires
use Rattle.lid_emit_system.specs.Nets.{NetWires, AreNetWires, read_wire}
use Rattle.lid_emit_system.specs.Wrapping.{channel_of, port_wire, first_put, put_wire, no_flat, flat_in, sink_reads, circuit_plan}
use Rattle.lid_emit_system.proofs.Planning.{plan_is}
use Rattle.lid_emit_system.proofs.Carrying.{last, at_last, last_channel, from_source, from_shell, later_filler, channel_is}
use Rattle.std.proofs.lemmas.Bool.{cases_eq}

none_is_flat : IsFlat no_flat
unfolding flat_drivers
none_is_flat = record {
  below = record { ins = tt; outs = tt; latches = tt; covers = tt };
  once = λ k. omega arith;
  driven = λ k below. absurd (omega arith);
  earlier = tt;
  apart = λ n input output none. absurd none;
  covers = tt;
}

module _ (s : System) (p : Placement) (n : NetWires) (well : IsWellFormed s) (fits : Fits s p) (nets : AreNetWires s p n) where
  abbrev q : CircuitPlan
  q = circuit_plan s p n

  -- what a node reads has a wire
  read_there : (v : ℕ) (x : InBit) → IsRead s v x → wires.IsReadWire q (read_wire p x)
  read_there v (Const bit) read = inl (bit, refl)
  read_there v (Port chan bit) read =
      inr (
        last s p n well fits chan read.0 read.1,
        0,
        bit,
        refl,
        ((at_last s p n well fits chan read.0 read.1).0, omega arith, subst (λ (d : Channel). bit < length d.ports) (sym (last_channel s p n well fits chan read.0 read.1)) read.3),
      )

  shows_there : (wire : Wire) → Among wire q.shows → wires.IsReadWire q wire
  shows_there wire there =
      let found = map_among {A = InBit} {B = Wire} (read_wire p) wire (sink_reads s) there in
      let at = among_get (sink_reads s) found.0 found.1 in
      let node = last_node s well in
      let is_sink : IsSink s (length s.nodes - 1) node.0 node.1 = well.each_node (length s.nodes - 1) (Sink node.0 node.1) node.2 in
      let ins : sink_reads s ≡ node.1 = ap (λ (o : Option Node). option_map_or input_reads o []) node.2 in
      subst (wires.IsReadWire q) (sym found.2) (read_there (length s.nodes - 1) found.0 (all_at (IsRead s (length s.nodes - 1)) node.1 at.0 found.0 is_sink.reads (ap (λ (xs : List InBit). slice_get xs at.0) (sym ins) ∙ at.1)))

  -- by the node at a place
  abbrev FlatAt : ℕ → Option Node → Flat
  FlatAt v o = option_map_or (flat_in n v) o no_flat

  shell_there : (v : ℕ) (o : Option Node) → slice_get s.nodes v ≡ o → 0 < (FlatAt v o).nets → v < length s.nodes
  shell_there v None here some = absurd (omega (arith, some))
  shell_there v (Some node) here some = slice_get_within s.nodes v node here

  rules_at : (v : ℕ) (o : Option Node) → slice_get s.nodes v ≡ o → IsFlat (FlatAt v o)
  rules_at v None here = none_is_flat
  rules_at v (Some (Source columns)) here = none_is_flat
  rules_at v (Some (Shell pearl ins)) here = (nets v pearl ins here).rules
  rules_at v (Some (Sink columns ins)) here = none_is_flat

  shell_reads : (v : ℕ) (pearl : View) (ins : List InBit) (here : slice_get s.nodes v ≡ Some (Shell pearl ins)) (k : ℕ) → Among k (n.flat v).ins → wires.IsReadWire q (n.here v k) × wires.IsReadWire q (n.after v k)
  shell_reads v pearl ins here k among =
      let are = nets v pearl ins here in
      let at = among_get (n.flat v).ins k among in
      let x = get_or ins at.0 (Const false) in
      let there : slice_get ins at.0 ≡ Some x = slice_get-get_or ins at.0 (Const false) (omega (arith, slice_get_within (n.flat v).ins at.0 k at.1, are.width)) in
      let read = read_there v x (all_at (IsRead s v) ins at.0 x (shell_is s well v pearl ins here).reads there) in
      let both = are.inputs at.0 k x at.1 there in
      (subst (wires.IsReadWire q) (sym both.0) read, subst (wires.IsReadWire q) (sym both.1) read)

  reads_at : (v : ℕ) (o : Option Node) → slice_get s.nodes v ≡ o → (k : ℕ) → Among k (FlatAt v o).ins → wires.IsReadWire q (n.here v k) × wires.IsReadWire q (n.after v k)
  reads_at v None here k none = absurd none
  reads_at v (Some (Source columns)) here k none = absurd none
  reads_at v (Some (Shell pearl ins)) here k among = shell_reads v pearl ins here k among
  reads_at v (Some (Sink columns ins)) here k none = absurd none

  none_wired : (v : ℕ) → AreWired v no_flat (n.here v) (n.after v) (n.skips v)
  none_wired v = record { latches = λ l none. absurd none; covers = λ c none. absurd none }

  wired_at : (v : ℕ) (o : Option Node) → slice_get s.nodes v ≡ o → AreWired v (FlatAt v o) (n.here v) (n.after v) (n.skips v)
  wired_at v None here = none_wired v
  wired_at v (Some (Source columns)) here = none_wired v
  wired_at v (Some (Shell pearl ins)) here = (nets v pearl ins here).wired
  wired_at v (Some (Sink columns ins)) here = none_wired v

  module _ (st j : ℕ) (there : st < station_count p.relays) (bit : j < length (channel_of s p st).ports) where
    abbrev port : ℕ
    port = get_or (channel_of s p st).ports j 0

    abbrev from : ℕ
    from = (channel_of s p st).from

    put_first : (from ≡ 0) ⊎ (from ≡ 0 → ⊥) → wires.IsPutWire q (first_put s n (channel_of s p st) j)
    put_first (inl source) =
        let columns = first_node s well in
        let at = from_source s p n well fits st j there bit columns.0 columns.1 source in
        inl (
          port,
          ap (λ (o : Option Node). option_map_or (port_wire n from port) o (given 0)) (ap (slice_get s.nodes) source ∙ columns.1),
          subst (λ (y : ℕ). port < y) (sym (ap (λ (o : Option Node). option_map_or source_width o 0) columns.1)) at.1,
        )
    put_first (inr other) =
        let comes = (channel_is s p n well fits st there).comes in
        let shell = inner_node s well from (omega (arith, other)) comes in
        let at = from_shell s p n well fits st j there bit from shell.0 shell.1 shell.2 refl in
        let are = nets from shell.0 shell.1 shell.2 in
        let net = get_or (n.flat from).outs port 0 in
        let net_there : Among net (n.flat from).outs = among_at (n.flat from).outs port 0 (omega (arith, at.1, are.outs)) in
        inr (inr (
          from,
          net,
          ap (λ (o : Option Node). option_map_or (port_wire n from port) o (given 0)) shell.2,
          subst (λ (f : Flat). net < f.nets) (sym (ap (FlatAt from) shell.2)) (all_among (λ (k : ℕ). k < (n.flat from).nets) (n.flat from).outs net are.rules.below.outs net_there),
        ))

    put_later : (i : ℕ) → (spot_at p.relays st).place ≡ suc i → wires.IsPutWire q (place (st - 1) 0 j)
    put_later i is =
        let found = carries s p well fits (filler (links_of s) p st) (later_filler s p n well fits st i is) (stands_between s p well fits st there).filled in
        let on = found.1 in
        let next : st ≡ found.0 + 1 = on.fills_one st there refl in
        let before : st - 1 ≡ found.0 = omega (arith, next) in
        let channel : (spot_at p.relays st).channel ≡ (spot_at p.relays (st - 1)).channel = ap (λ (u : ℕ). (spot_at p.relays u).channel) next ∙ on.channel ∙ ap (λ (u : ℕ). (spot_at p.relays u).channel) (sym before) in
        let same_channel : channel_of s p st ≡ channel_of s p (st - 1) = ap (channel_at (links_of s)) channel in
        inr (inl (inr (st - 1, 0, j, refl, (omega (arith, there), omega arith, subst (λ (d : Channel). j < length d.ports) same_channel bit))))

    put_there : wires.IsPutWire q (put_wire s p n st (spot_at p.relays st).place j)
    put_there = by (spot_at p.relays st).place refl
      where
        by : (i : ℕ) → (spot_at p.relays st).place ≡ i → wires.IsPutWire q (put_wire s p n st (spot_at p.relays st).place j)
        by zero is = subst (λ (i : ℕ). wires.IsPutWire q (put_wire s p n st i j)) (sym is) (put_first (cases_eq from 0))
        by (suc i) is = subst (λ (i : ℕ). wires.IsPutWire q (put_wire s p n st i j)) (sym is) (put_later i is)

  pub connected : wires.IsConnected q
  connected = record {
    plan = plan_is s p n well fits;
    put = put_there;
    shows = shows_there;
    shells = λ v some. shell_there v (slice_get s.nodes v) refl some;
    rules = λ v. rules_at v (slice_get s.nodes v) refl;
    ins = λ v k among. reads_at v (slice_get s.nodes v) refl k among;
    wired = λ v. wired_at v (slice_get s.nodes v) refl;
  }
