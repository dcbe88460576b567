-- Tokens and output rows are those of each table, since two tables agree where ports are.
use Rattle.std.proofs.Common.{◌≡◌, ℕ, ◌+◌, ◌-◌, ◌^◌, ◌<◌, ◌≤◌, Bool, false, List, [], length, get_or, map, Option, Some, None, slice_get, refl, sym, ◌∙◌, ap, subst, arith}
use Rattle.std.specs.List.{AllByRecursion}
use Rattle.std.specs.Option.{option_map_or}
use Rattle.std.proofs.lemmas.List.{length-map, get_or-map}
use Rattle.std.proofs.lemmas.Simd.{map-map}
use Rattle.std.proofs.Math.Nat.{pow-le-pow_right}
use Rattle.lid_base.specs.Lists.{Among}
use Rattle.lid_base.proofs.Lists.{all_among, all_at, map_among, among_at, map_same}
use Rattle.lid_cover.specs.Masks.{packed}
use Rattle.lid_design.specs.Network.{Table}
use Rattle.lid_base.specs.Each.{from_each}
use Rattle.lid_design.proofs.Tables.{has_table, has_one_table}
use Rattle.lid_strict_engine.specs.Rows.{bit_at}
use Rattle.lid_strict_engine.specs.Truth.{is_set}
use Rattle.lid_strict_engine.proofs.Tabling.{packed_bound, packed_bit}
use Rattle.lid_system.specs.declared.System.{System}
use Rattle.lid_system.specs.declared.Node.{Node}
use Rattle.lid_system.specs.declared.Node.TheVariants.{Source, Shell, Sink}
use Rattle.lid_system.specs.declared.InBit.{InBit}
use Rattle.lid_system.specs.declared.InBit.TheVariants.{Const, Port}
use Rattle.lid_system.specs.declared.Channel.{Channel}
use Rattle.lid_system.specs.Systems.{Point, source_port, ports_at, IsRead, IsNode, IsChannel, IsWellFormed}
use Rattle.lid_system.specs.Tables.{carried, carried_at, in_bit, input_reads, input_bits, port_bits, system_drivers, IsTable}
use Rattle.lid_system.specs.Streams.{token_at, tokens_of, output_row, IsStream, IsOutput}
use Rattle.lid_system.proofs.Points.{carried_is, carried_port, ports_driven, points_once}
use Rattle.lid_system.proofs.Walking.{limit, points_end, points_reads_driven}
use Rattle.lid_base.proofs.Each.{each_length, each_get, each_same, all_each}
use Rattle.lid_base.proofs.Places.{item_at}
use Rattle.lid_base.proofs.Options.{same_some}

module _ (s : System) where
  -- a bit of a token is a bit of what the channel carries
  pub unpacked_bit : (b : Table Point) (t chan bit : ℕ) (channel : Channel) → slice_get s.channels chan ≡ Some channel → bit < length channel.ports → is_set (token_at s b channel t) bit ≡ in_bit s b t (Port chan bit)
  unpacked_bit b t chan bit channel here below =
      let within : bit < length (carried s channel) = subst (λ (n : ℕ). bit < n) (sym (length-map channel.ports (λ (port : ℕ). get_or (ports_at s channel.from) port (source_port 0)))) below in
      packed_bit (map (b t) (carried s channel)) bit
      ∙ get_or-map (b t) (carried s channel) bit (source_port 0) false within
      ∙ ap (b t) (sym (carried_is s chan bit channel here))

  -- the ports' bits, packed, are the token
  pub packed_token : (b : Table Point) (t : ℕ) (channel : Channel) → IsChannel s channel → packed (map (bit_at (port_bits s b channel.from t)) channel.ports) ≡ token_at s b channel t
  packed_token b t channel is =
      let ports = ports_at s channel.from in
      ap packed
      (map_same (bit_at (port_bits s b channel.from t)) (λ (port : ℕ). b t (get_or ports port (source_port 0))) channel.ports (λ port among. get_or-map (b t) ports port (source_port 0) false (all_among (λ (p : ℕ). p < length ports) channel.ports port is.below among))
      ∙ sym (map-map (b t) (λ (port : ℕ). get_or ports port (source_port 0)) channel.ports))

  -- tokens have 31 bits
  pub small_token : (b : Table Point) (t : ℕ) (channel : Channel) → length channel.ports ≤ 31 → token_at s b channel t < 2 ^ 31
  small_token b t channel few =
      let bits = map (b t) (carried s channel) in
      let long : length bits ≡ length channel.ports = length-map (carried s channel) (b t) ∙ length-map channel.ports (λ (port : ℕ). get_or (ports_at s channel.from) port (source_port 0)) in
      let h : packed bits < 2 ^ length bits = packed_bound bits in
      let two : 0 < 2 = omega arith in
      let short : length bits ≤ 31 = omega arith in
      let le : 2 ^ length bits ≤ 2 ^ 31 = pow-le-pow_right two short in
      omega arith

  module _ (rows : List (List Bool)) where
    pub same_streams : (c : ℕ) (tokens others : List ℕ) → IsStream s rows c tokens → IsStream s rows c others → tokens ≡ others
    same_streams c tokens others is is' =
        let b = is.some.0 in
        is.each b is.some.1
        ∙ ap (λ (channel : Channel). tokens_of s b channel (length rows)) (same_some (slice_get s.channels c) is.channel is'.channel is.is_channel is'.is_channel)
        ∙ sym (is'.each b is.some.1)

    pub stream_long : (c : ℕ) (tokens : List ℕ) → IsStream s rows c tokens → length tokens ≡ length rows
    stream_long c tokens is =
        let b = is.some.0 in
        ap length (is.each b is.some.1) ∙ each_length (token_at s b is.channel) 0 (length rows)

    pub stream_at : (c t : ℕ) (tokens : List ℕ) (channel : Channel) (b : Table Point) → IsStream s rows c tokens → slice_get s.channels c ≡ Some channel → IsTable s rows b → t < length rows → slice_get tokens t ≡ Some (token_at s b channel t)
    stream_at c t tokens channel b is here table below =
        let place : 0 + t ≡ t = omega arith in
        ap (λ (xs : List ℕ). slice_get xs t) (is.each b table)
        ∙ each_get (token_at s b is.channel) 0 (length rows) t below
        ∙ ap (λ (u : ℕ). Some (token_at s b is.channel u)) place
        ∙ ap (λ (ch : Channel). Some (token_at s b ch t)) (same_some (slice_get s.channels c) is.channel channel is.is_channel here)

    pub same_outputs : (outs others : List (List Bool)) → IsOutput s rows outs → IsOutput s rows others → outs ≡ others
    same_outputs outs others is is' = is.each is.some.0 is.some.1 ∙ sym (is'.each is.some.0 is.some.1)

    pub output_long : (outs : List (List Bool)) → IsOutput s rows outs → length outs ≡ length rows
    output_long outs is = ap length (is.each is.some.0 is.some.1) ∙ each_length (output_row s is.some.0) 0 (length rows)

  module _ (well : IsWellFormed s) (rows : List (List Bool)) where
    channel_is : (c : ℕ) (channel : Channel) → slice_get s.channels c ≡ Some channel → IsChannel s channel
    channel_is c channel here = all_at (IsChannel s) s.channels c channel well.each_channel here

    some_table : (b : Table Point) × IsTable s rows b
    some_table = has_table (system_drivers s) (limit s well) (points_end s well) (points_once s well) rows

    tables_agree : (b b' : Table Point) → IsTable s rows b → IsTable s rows b' → (t : ℕ) → t < length rows → (n : ℕ) (a : Point) → Among a (ports_at s n) → b t a ≡ b' t a
    tables_agree b b' table table' t below n a port =
        has_one_table (system_drivers s) (limit s well) (points_end s well) (points_reads_driven s well) rows b b' table table' t a below (ports_driven s well n a port)

    carried_agree : (b b' : Table Point) → IsTable s rows b → IsTable s rows b' → (t : ℕ) → t < length rows → (channel : Channel) → IsChannel s channel → (a : Point) → Among a (carried s channel) → b t a ≡ b' t a
    carried_agree b b' table table' t below channel is a among =
        let ports = ports_at s channel.from in
        let found = map_among {A = ℕ} {B = Point} (λ port. get_or ports port (source_port 0)) a channel.ports among in
        let inside : found.0 < length ports = all_among (λ (p : ℕ). p < length ports) channel.ports found.0 is.below found.1 in
        tables_agree b b' table table' t below channel.from a (subst (λ (p : Point). Among p ports) (sym found.2) (among_at ports found.0 (source_port 0) inside))

    pub some_stream : (c : ℕ) → c < length s.channels → (tokens : List ℕ) × IsStream s rows c tokens
    some_stream c below = (tokens_of s b channel (length rows), record { some = some_table; channel = channel; is_channel = here; each = each })
      where
        b : Table Point
        b = some_table.0

        channel : Channel
        channel = (item_at s.channels c below).0

        here : slice_get s.channels c ≡ Some channel
        here = (item_at s.channels c below).1

        each : (b' : Table Point) → IsTable s rows b' → tokens_of s b channel (length rows) ≡ tokens_of s b' channel (length rows)
        each b' table' =
            each_same (token_at s b channel) (token_at s b' channel) 0 (length rows)
            (λ t h. ap packed (map_same (b t) (b' t) (carried s channel) (carried_agree b b' some_table.1 table' t (omega arith) channel (channel_is c channel here))))

    pub stream_small : (c : ℕ) (tokens : List ℕ) → IsStream s rows c tokens → AllByRecursion (λ token. token < 2 ^ 31) tokens
    stream_small c tokens is =
        let b = is.some.0 in
        subst (AllByRecursion (λ token. token < 2 ^ 31)) (sym (is.each b is.some.1))
        (all_each (λ token. token < 2 ^ 31) (token_at s b is.channel) 0 (length rows) (λ t. small_token b t is.channel (channel_is c is.channel is.is_channel).few))

    -- what the inputs of a node read
    ins_read : (i : ℕ) (node : Node) → IsNode s i node → AllByRecursion (IsRead s i) (input_reads node)
    ins_read i (Source columns) is = tt
    ins_read i (Shell pearl ins) is = is.reads
    ins_read i (Sink columns ins) is = is.reads

    in_agree : (b b' : Table Point) → IsTable s rows b → IsTable s rows b' → (t : ℕ) → t < length rows → (i : ℕ) (x : InBit) → IsRead s i x → in_bit s b t x ≡ in_bit s b' t x
    in_agree b b' table table' t below i (Const bit) read = refl
    in_agree b b' table table' t below i (Port chan bit) read =
        let found = carried_port s well i chan bit read in
        tables_agree b b' table table' t below found.0 (carried_at s chan bit) found.1

    pub inputs_agree : (b b' : Table Point) → IsTable s rows b → IsTable s rows b' → (i t : ℕ) → t < length rows → input_bits s b i t ≡ input_bits s b' i t
    inputs_agree b b' table table' i t below = by (slice_get s.nodes i) refl
      where
        by : (o : Option Node) → slice_get s.nodes i ≡ o → map (in_bit s b t) (option_map_or input_reads o []) ≡ map (in_bit s b' t) (option_map_or input_reads o [])
        by None here = refl
        by (Some node) here =
            map_same (in_bit s b t) (in_bit s b' t) (input_reads node) (λ x among. in_agree b b' table table' t below i x (all_among (IsRead s i) (input_reads node) x (ins_read i node (well.each_node i node here)) among))

    pub some_output : (outs : List (List Bool)) × IsOutput s rows outs
    some_output = (from_each (output_row s b) 0 (length rows), record { some = some_table; each = each })
      where
        b : Table Point
        b = some_table.0

        each : (b' : Table Point) → IsTable s rows b' → from_each (output_row s b) 0 (length rows) ≡ from_each (output_row s b') 0 (length rows)
        each b' table' = each_same (output_row s b) (output_row s b') 0 (length rows) (λ t h. inputs_agree b b' some_table.1 table' (length s.nodes - 1) t (omega arith))
