-- What a wrapped system carries: the tokens and bits of a table of the system.
use Rattle.std.proofs.Common.{◌≡◌, ℕ, zero, suc, ◌+◌, ◌-◌, ◌<◌, ◌≤◌, ◌⊎◌, inl, inr, Bool, true, false, List, [], length, get_or, map, Some, slice_get, refl, sym, ◌∙◌, ap, subst, arith}
use Rattle.std.specs.Prelude.{Option, if◌then◌else◌}
use Rattle.std.specs.Option.{option_map_or}
use Rattle.std.proofs.lemmas.List.{length-map, get_or-map}
use Rattle.std.proofs.lemmas.Option.{slice_get-get_or, slice_get_within, get_or_from_slice_get}
use Rattle.std.proofs.lemmas.Bool.{eq-eqb, ne_eqb, cases_eq}
use Rattle.lid_base.specs.Lists.{Among}
use Rattle.lid_base.proofs.Lists.{among_get, among_at, all_among, all_at}
use Rattle.lid_design.specs.declared.Flat.{Flat}
use Rattle.lid_design.specs.Network.{from_input, Table, bit_of, IsStrict}
use Rattle.lid_base.specs.Each.{from_each}
use Rattle.lid_design.specs.Flat.{flat_drivers, IsFlat}
use Rattle.lid_pearl.specs.Pearls.{View}
use Rattle.lid_system.specs.declared.System.{System}
use Rattle.lid_system.specs.declared.Node.{Node}
use Rattle.lid_system.specs.declared.Node.TheVariants.{Source, Shell}
use Rattle.lid_system.specs.declared.InBit.{InBit}
use Rattle.lid_system.specs.declared.InBit.TheVariants.{Const, Port}
use Rattle.lid_system.specs.declared.Channel.{Channel}
use Rattle.lid_system.specs.Systems.{Point, source_port, shell_net, ports_of, ports_at, IsRead, IsChannel, IsWellFormed}
use Rattle.lid_system.specs.Tables.{carried, carried_at, system_drivers, in_bit, source_width, IsTable}
use Rattle.lid_system.proofs.Points.{carried_is, port_drives, first_node, inner_node, shell_is}
use Rattle.lid_system.proofs.Shelling.{shell_shows, ports_are}
use Rattle.lid_stations.specs.declared.placement.Placement.{Placement}
use Rattle.lid_stations.specs.Placements.{links_of, station_count, Fits}
use Rattle.lid_stations.specs.Stations.{Spot, spot_at, channel_at, no_channel, fills, drains, mover, filler, drainer, start_count, starts}
use Rattle.lid_stations.specs.Laws.{StandsAt}
use Rattle.lid_stations.proofs.Spots.{channel_there, spot_of_station, station_at_spot, stands_between}
use Rattle.lid_stations.proofs.Movers.{carries}
use Rattle.lid_emit_circuit.specs.Wires.{Wire, given, place}
use Rattle.lid_emit_circuit.specs.Plans.{CircuitPlan}
use Rattle.lid_emit_circuit.specs.Runs.{counts_up, row_bit}
use Rattle.lid_emit_circuit.specs.Counts.{fired}
use Rattle.lid_emit_circuit.specs.Carried as carry
use Rattle.lid_emit_system.specs.Nets.{NetWires, AreNetWires, AreNetsOf, HasBits, last_station, read_wire}
use Rattle.lid_emit_system.specs.Faces.{first_count}
use Rattle.lid_emit_system.specs.Wrapping.{channel_of, point, port_wire, put_wire, no_flat, flat_in, input_count, circuit_plan}
use Rattle.lid_base.proofs.Each.{each_length, each_at}

-- the bits of a table of the system for some rows
abbrev pub original : System → Placement → List (List Bool) → Table Point → (ℕ → Table ℕ) → carry.Original
original s p rows a bits = record { rows = length rows; token = λ station m j. a m (point s p station j); net = bits }

-- an actor takes the same bits by another name
pub taken_as : (q : CircuitPlan) (o : carry.Original) (v : ℕ) (wire : Wire) (bits others : ℕ → Bool) → ((m : ℕ) → m < o.rows → others m ≡ bits m) → carry.IsTaken q o v wire bits → carry.IsTaken q o v wire others
taken_as q o v wire bits others same (inl has) = inl (record { bit = has.bit; is = has.is; same = λ m within. same m within ∙ has.same m within })
taken_as q o v wire bits others same (inr takes) = inr (record { station = takes.station; there = takes.there; bit = takes.bit; within = takes.within; drained = takes.drained; is = takes.is; same = λ m within. same m within ∙ takes.same m within })

module _ (s : System) (p : Placement) (n : NetWires) (well : IsWellFormed s) (fits : Fits s p) where
  abbrev q : CircuitPlan
  q = circuit_plan s p n

  -- the channel of a station
  stands_at : (st : ℕ) → st < station_count p.relays → StandsAt p.relays st (spot_at p.relays st).channel (spot_at p.relays st).place
  stands_at st there = spot_of_station p.relays st there

  pub channel_is : (st : ℕ) → st < station_count p.relays → IsChannel s (channel_of s p st)
  channel_is st there = channel_there s p well fits (spot_at p.relays st).channel (stands_at st there).below

  module _ (st j : ℕ) (there : st < station_count p.relays) (bit : j < length (channel_of s p st).ports) where
    abbrev port : ℕ
    port = get_or (channel_of s p st).ports j 0

    port_below : port < length (ports_at s (channel_of s p st).from)
    port_below = all_among (λ port. port < length (ports_at s (channel_of s p st).from)) (channel_of s p st).ports port (channel_is st there).below (among_at (channel_of s p st).ports j 0 bit)

    point_is : point s p st j ≡ get_or (ports_at s (channel_of s p st).from) port (source_port 0)
    point_is = get_or-map (λ port. get_or (ports_at s (channel_of s p st).from) port (source_port 0)) (channel_of s p st).ports j 0 (source_port 0) bit

    -- of a channel that comes from the source
    pub from_source : (columns : List (List ℕ)) → slice_get s.nodes 0 ≡ Some (Source columns) → (channel_of s p st).from ≡ 0 → (point s p st j ≡ source_port port) × (port < length columns)
    from_source columns node from =
        let ports : ports_at s (channel_of s p st).from ≡ from_each source_port 0 (length columns) = ap (ports_at s) from ∙ ap (λ (o : Option Node). option_map_or (ports_of 0) o []) node in
        let below : port < length columns = subst (λ (m : ℕ). port < m) (ap length ports ∙ each_length source_port 0 (length columns)) port_below in
        let place : 0 + port ≡ port = omega arith in
        (point_is ∙ ap (λ (xs : List Point). get_or xs port (source_port 0)) ports ∙ each_at source_port 0 (length columns) port (source_port 0) below ∙ ap source_port place, below)

    -- of one that comes from a shell
    pub from_shell : (v : ℕ) (pearl : View) (ins : List InBit) → slice_get s.nodes v ≡ Some (Shell pearl ins) → (channel_of s p st).from ≡ v → (point s p st j ≡ shell_net v (get_or pearl.flat.outs port 0)) × (port < length pearl.flat.outs)
    from_shell v pearl ins node from =
        let ports : ports_at s (channel_of s p st).from ≡ map (shell_net v) pearl.flat.outs = ap (ports_at s) from ∙ ap (λ (o : Option Node). option_map_or (ports_of v) o []) node in
        let below : port < length pearl.flat.outs = subst (λ (m : ℕ). port < m) (ap length ports ∙ length-map pearl.flat.outs (shell_net v)) port_below in
        (point_is ∙ ap (λ (xs : List Point). get_or xs port (source_port 0)) ports ∙ get_or-map (shell_net v) pearl.flat.outs port 0 (source_port 0) below, below)

  -- a station is the first of its channel, or a mover fills it
  first_filler : (st : ℕ) → (spot_at p.relays st).place ≡ 0 → filler (links_of s) p st ≡ (channel_of s p st).from
  first_filler st is = ap (λ (i : ℕ). fills (links_of s) p (spot_at p.relays st).channel i) is

  first_starts : (st : ℕ) → (spot_at p.relays st).place ≡ 0 → start_count p st ≡ 1
  first_starts st is = ap starts is

  pub later_filler : (st i : ℕ) → (spot_at p.relays st).place ≡ suc i → length s.nodes ≤ filler (links_of s) p st
  later_filler st i is = let same : filler (links_of s) p st ≡ mover (links_of s) p (spot_at p.relays st).channel i = ap (λ (i : ℕ). fills (links_of s) p (spot_at p.relays st).channel i) is in omega arith

  later_starts : (st i : ℕ) → (spot_at p.relays st).place ≡ suc i → start_count p st ≡ 0
  later_starts st i is = ap starts is

  -- the tokens that a station starts with
  none_first : (st : ℕ) → filler (links_of s) p st ≡ 0 → first_count (links_of s) p st ≡ 0
  none_first st is = ap (λ (b : Bool). if b then 0 else start_count p st) (eq-eqb (filler (links_of s) p st) 0 is)

  as_starts : (st : ℕ) → 0 < filler (links_of s) p st → first_count (links_of s) p st ≡ start_count p st
  as_starts st some = ap (λ (b : Bool). if b then 0 else start_count p st) (ne_eqb (filler (links_of s) p st) 0 (λ is. omega (arith, some)))

  -- the last station of a channel is drained by the node to which the channel leads
  module _ (chan : ℕ) (c : Channel) (here : slice_get s.channels chan ≡ Some c) where
    chan_below : chan < length p.relays
    chan_below = omega (arith, slice_get_within s.channels chan c here, fits.counts)

    abbrev pub last : ℕ
    last = last_station p chan

    pub at_last : (last < station_count p.relays) × StandsAt p.relays last chan (get_or p.relays chan 0)
    at_last = station_at_spot p.relays chan (get_or p.relays chan 0) chan_below (omega arith)

    channel_same : channel_at (links_of s) chan ≡ c
    channel_same = get_or_from_slice_get s.channels chan c no_channel here

    pub last_channel : channel_of s p last ≡ c
    last_channel = ap (λ (spot : Spot). channel_at (links_of s) spot.channel) at_last.1.spot ∙ channel_same

    last_drainer : drainer (links_of s) p last ≡ c.to
    last_drainer =
        ap (λ (spot : Spot). drains (links_of s) p spot.channel spot.place) at_last.1.spot
        ∙ ap (λ (b : Bool). if b then (channel_at (links_of s) chan).to else mover (links_of s) p chan (get_or p.relays chan 0)) (eq-eqb (get_or p.relays chan 0) (get_or p.relays chan 0) refl)
        ∙ ap (λ (d : Channel). d.to) channel_same

    last_point : (j : ℕ) → point s p last j ≡ carried_at s chan j
    last_point j = ap (λ (d : Channel). get_or (carried s d) j (source_port 0)) last_channel ∙ sym (carried_is s chan j c here)

  module _ (given_rows : List (List Bool)) (a : Table Point) (table : IsTable s given_rows a) (bits : ℕ → Table ℕ) where
    abbrev pub o : carry.Original
    o = original s p given_rows a bits

    -- what a node reads is taken
    pub read_taken : (v : ℕ) (x : InBit) → IsRead s v x → carry.IsTaken q o v (read_wire p x) (λ m. in_bit s a m x)
    read_taken v (Const bit) read = inl (record { bit = bit; is = refl; same = λ m within. refl })
    read_taken v (Port chan bit) read =
        let c = read.0 in
        inr (record {
          station = last chan c read.1;
          there = (at_last chan c read.1).0;
          bit = bit;
          within = subst (λ (d : Channel). bit < length d.ports) (sym (last_channel chan c read.1)) read.3;
          drained = last_drainer chan c read.1 ∙ read.2;
          is = refl;
          same = λ m within. ap (a m) (sym (last_point chan c read.1 bit));
        })

    module _ (v : ℕ) (pearl : View) (ins : List InBit) (node : slice_get s.nodes v ≡ Some (Shell pearl ins)) (nets : AreNetsOf p n v pearl ins) (has : HasBits s given_rows a v (n.flat v) ins (bits v)) where
      flat_is : q.flat v ≡ n.flat v
      flat_is = ap (λ (o : Option Node). option_map_or (flat_in n v) o no_flat) node

      given_net : (k : ℕ) → Among k (n.flat v).ins → carry.IsTaken q o v (n.here v k) (λ m. bits v m k)
      given_net k among =
          let at = among_get (n.flat v).ins k among in
          let shell = shell_is s well v pearl ins node in
          let x = get_or ins at.0 (Const false) in
          let there : slice_get ins at.0 ≡ Some x = slice_get-get_or ins at.0 (Const false) (omega (arith, slice_get_within (n.flat v).ins at.0 k at.1, nets.width)) in
          let wire = (nets.inputs at.0 k x at.1 there).0 in
          taken_as q o v (n.here v k) (λ m. in_bit s a m x) (λ m. bits v m k) (λ m within. has.reads m at.0 k x within at.1 there)
          (subst (λ (w : Wire). carry.IsTaken q o v w (λ m. in_bit s a m x)) (sym wire) (read_taken v x (all_at (IsRead s v) ins at.0 x shell.reads there)))

      pub shell_carries : carry.IsCarriedShell q o v
      shell_carries = record {
        rules = subst IsFlat (sym flat_is) nets.rules;
        inputs = has.inputs;
        long = has.long;
        table = subst (λ (f : Flat). IsStrict (flat_drivers f) has.inputs (bits v)) (sym flat_is) has.table;
        given = λ k among. given_net k (subst (λ (f : Flat). Among k f.ins) flat_is among);
        wired = subst (λ (f : Flat). carry.AreWired v f (n.here v) (n.after v) (n.skips v)) (sym flat_is) nets.wired;
      }

    -- a station that starts with a token is filled by a shell, and has the outputs of its pearl in the first row
    begins_with : (st j : ℕ) → st < station_count p.relays → j < length (channel_of s p st).ports → AreNetWires s p n → first_count (links_of s) p st ≡ 1 → 0 < length given_rows → a 0 (point s p st j) ≡ q.begins st j
    begins_with st j there bit nets one some = by (spot_at p.relays st).place refl
      where
        no_source : filler (links_of s) p st ≡ 0 → ⊥
        no_source is = let none = none_first st is in omega (arith, none, one)

        starts_one : start_count p st ≡ 1
        starts_one = sym (as_starts st (omega (arith, no_source))) ∙ one

        c : Channel
        c = channel_of s p st

        v : ℕ
        v = (channel_of s p st).from

        with_shell : filler (links_of s) p st ≡ (channel_of s p st).from → (shell : (pearl : View) × (ins : List InBit) × (slice_get s.nodes (channel_of s p st).from ≡ Some (Shell pearl ins))) → a 0 (point s p st j) ≡ q.begins st j
        with_shell filled shell =
            let from = (channel_of s p st).from in
            let pearl = shell.0 in
            let at = from_shell st j there bit from pearl shell.1 shell.2 refl in
            let port_at = get_or (channel_of s p st).ports j 0 in
            let shows : n.begins from ≡ map (λ k. a 0 (shell_net from k)) pearl.flat.outs =
            shell_shows s given_rows a from pearl shell.1 shell.2 table 0 pearl refl (shell_is s well from pearl shell.1 shell.2).begins (n.begins from) some (nets from pearl shell.1 shell.2).begins
            ∙ ports_are s given_rows a from pearl shell.1 shell.2 0 in
            ap (a 0) at.0
            ∙ sym (get_or-map (λ k. a 0 (shell_net from k)) pearl.flat.outs port_at 0 false at.1)
            ∙ ap (λ (bits : List Bool). get_or bits port_at false) (sym shows)
            ∙ ap (λ (u : ℕ). get_or (n.begins u) port_at false) (sym filled)

        by : (i : ℕ) → (spot_at p.relays st).place ≡ i → a 0 (point s p st j) ≡ q.begins st j
        by zero is =
            let filled = first_filler st is in
            let comes = (channel_is st there).comes in
            with_shell filled (inner_node s well (channel_of s p st).from (omega (arith, no_source, filled)) comes)
        by (suc i) is = absurd (omega (arith, later_starts st i is, starts_one))

    module _ (rows : List (List Bool)) (accepts : (k x : ℕ) → k < length rows → x < input_count s → counts_up (fired q rows) 0 k ≡ true → fired q rows k 0 < length given_rows → row_bit given_rows (fired q rows k 0) x ≡ row_bit rows k x) (nets : AreNetWires s p n) (have : (v : ℕ) (pearl : View) (ins : List InBit) → slice_get s.nodes v ≡ Some (Shell pearl ins) → HasBits s given_rows a v (n.flat v) ins (bits v)) where
      module _ (st j : ℕ) (there : st < station_count p.relays) (bit : j < length (channel_of s p st).ports) where
        abbrev port_at : ℕ
        port_at = get_or (channel_of s p st).ports j 0

        given_port : (m x : ℕ) → m < length given_rows → x < input_count s → a m (source_port x) ≡ row_bit given_rows m x
        given_port m x within below =
            let columns = first_node s well in
            all_among (λ r. a m (source_port x) ≡ bit_of given_rows a m r) (system_drivers s (source_port x)) (from_input x) (table m (source_port x) within)
            (port_drives s x columns.0 columns.1 (subst (λ (y : ℕ). x < y) (ap (λ (o : Option Node). option_map_or source_width o 0) columns.1) below))

        put_by_source : (spot_at p.relays st).place ≡ 0 → (channel_of s p st).from ≡ 0 → carry.FromEntry q rows o st j
        put_by_source is from =
            let columns = first_node s well in
            let at = from_source st j there bit columns.0 columns.1 from in
            let filled : filler (links_of s) p st ≡ 0 = first_filler st is ∙ from in
            let within : port_at < input_count s = subst (λ (y : ℕ). port_at < y) (sym (ap (λ (o : Option Node). option_map_or source_width o 0) columns.1)) at.1 in
            record {
              input = port_at;
              within = within;
              wire = ap (λ (i : ℕ). put_wire s p n st i j) is ∙ ap (λ (o : Option Node). option_map_or (port_wire n (channel_of s p st).from port_at) o (given 0)) (ap (slice_get s.nodes) from ∙ columns.1);
              none = none_first st filled;
              same = λ k below rising few.
                  ap (a (fired q rows k (filler (links_of s) p st))) at.0
                  ∙ given_port (fired q rows k (filler (links_of s) p st)) port_at few within
                  ∙ subst (λ (u : ℕ). counts_up (fired q rows) u k ≡ true → fired q rows k u < length given_rows → row_bit given_rows (fired q rows k u) port_at ≡ row_bit rows k port_at) (sym filled) (accepts k port_at below within) rising few;
            }

        put_by_shell : (spot_at p.relays st).place ≡ 0 → 0 < (channel_of s p st).from → carry.FromNet q o st j
        put_by_shell is some =
            let from = (channel_of s p st).from in
            let comes = (channel_is st there).comes in
            let shell = inner_node s well from some comes in
            let at = from_shell st j there bit from shell.0 shell.1 shell.2 refl in
            let filled : filler (links_of s) p st ≡ from = first_filler st is in
            let net = get_or (n.flat from).outs port_at 0 in
            let within_outs : port_at < length (n.flat from).outs = omega (arith, at.1, (nets from shell.0 shell.1 shell.2).outs) in
            record {
              net = net;
              out = subst (λ (f : Flat). Among net f.outs) (sym (ap (λ (u : ℕ). q.flat u) filled ∙ ap (λ (o : Option Node). option_map_or (flat_in n from) o no_flat) shell.2)) (among_at (n.flat from).outs port_at 0 within_outs);
              after_source = omega (arith, filled, some);
              before_sink = omega (arith, filled, comes);
              wire = ap (λ (i : ℕ). put_wire s p n st i j) is ∙ ap (λ (o : Option Node). option_map_or (port_wire n from port_at) o (given 0)) shell.2 ∙ ap (λ (u : ℕ). n.after u net) (sym filled);
              one = as_starts st (omega (arith, filled, some)) ∙ first_starts st is;
              same = λ m within.
                  ap (a m) (point_is st j there bit)
                  ∙ sym (get_or-map (a m) (ports_at s from) port_at (source_port 0) false (port_below st j there bit))
                  ∙ ap (λ (xs : List Bool). get_or xs port_at false) (sym ((have from shell.0 shell.1 shell.2).gives m within))
                  ∙ get_or-map (bits from m) (n.flat from).outs port_at 0 false within_outs
                  ∙ ap (λ (u : ℕ). bits u m net) (sym filled);
            }

        put_by_mover : (i : ℕ) → (spot_at p.relays st).place ≡ suc i → carry.FromStation q o st j
        put_by_mover i is =
            let m = filler (links_of s) p st in
            let past = later_filler st i is in
            let found = carries s p well fits m past (stands_between s p well fits st there).filled in
            let r = found.0 in
            let on = found.1 in
            let next : st ≡ r + 1 = on.fills_one st there refl in
            let channel : (spot_at p.relays st).channel ≡ (spot_at p.relays r).channel = ap (λ (u : ℕ). (spot_at p.relays u).channel) next ∙ on.channel in
            let same_channel : channel_of s p st ≡ channel_of s p r = ap (channel_at (links_of s)) channel in
            let before : st - 1 ≡ r = omega (arith, next) in
            record {
              station = r;
              there = omega (arith, on.next);
              bit = j;
              within = subst (λ (d : Channel). j < length d.ports) same_channel bit;
              drained = on.drained;
              wire = ap (λ (i : ℕ). put_wire s p n st i j) is ∙ ap (λ (u : ℕ). place u 0 j) before;
              none = as_starts st (omega (arith, past, well.least)) ∙ later_starts st i is;
              same = λ m within. ap (λ (d : Channel). a m (get_or (carried s d) j (source_port 0))) same_channel;
            }

        put_by : carry.IsPut q rows o st j
        put_by = by (spot_at p.relays st).place refl
          where
            by_node : (spot_at p.relays st).place ≡ 0 → ((channel_of s p st).from ≡ 0) ⊎ ((channel_of s p st).from ≡ 0 → ⊥) → carry.IsPut q rows o st j
            by_node is (inl from) = inl (put_by_source is from)
            by_node is (inr other) = inr (inl (put_by_shell is (omega (arith, other))))

            by : (i : ℕ) → (spot_at p.relays st).place ≡ i → carry.IsPut q rows o st j
            by zero is = by_node is (cases_eq (channel_of s p st).from 0)
            by (suc i) is = inr (inr (put_by_mover i is))

      pub carries_table : carry.IsCarried q rows o
      carries_table = record {
        begins = λ st j there bit one some. begins_with st j there bit nets one some;
        put = λ st j there bit. put_by st j there bit;
        shells = λ v after_source before_sink.
            let shell = inner_node s well v after_source (omega (arith, before_sink)) in
            shell_carries v shell.0 shell.1 shell.2 (nets v shell.0 shell.1 shell.2) (have v shell.0 shell.1 shell.2);
      }
