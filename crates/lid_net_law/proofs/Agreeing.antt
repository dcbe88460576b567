-- A strict table of a design, seen at the points of its system, is a table of the system.
use Rattle.std.proofs.Common.{◌≡◌, ◌⊎◌, ℕ, zero, suc, ◌+◌, ◌-◌, ◌<◌, Bool, false, List, [], ◌∷◌, length, get_or, map, option_map, Option, Some, None, slice_get, inl, inr, refl, sym, ◌∙◌, ap, subst, arith}
use Rattle.std.specs.Option.{option_map_or}
use Rattle.std.proofs.lemmas.List.{length-map}
use Rattle.std.proofs.lemmas.Option.{slice_get-get_or, slice_get-map, slice_get_within}
use Rattle.std.proofs.lemmas.Simd.{map-map}
use Rattle.lid_base.specs.Lists.{Among}
use Rattle.lid_base.proofs.Lists.{among_get}
use Rattle.lid_cover.specs.Cover.{cover_value}
use Rattle.lid_cover.specs.Masks.{packed}
use Rattle.lid_design.specs.declared.Design.{Design}
use Rattle.lid_design.specs.declared.Flat.{Flat}
use Rattle.lid_design.specs.Network.{Driver, from_input, from_latch, from_cover, from_connection, Table, latch_bit, bit_of, IsStrict}
use Rattle.lid_base.specs.Each.{from_each}
use Rattle.lid_design.specs.Walks.{IsDriven}
use Rattle.lid_design.specs.Flat.{flat_drivers, IsFlat}
use Rattle.lid_design.specs.Columns.{Column, column, drivers, root_inputs, root_outputs, output_row, output_rows, IsStrictOutput}
use Rattle.lid_design.proofs.Parts.{input_drives, same_of_one}
use Rattle.lid_design.proofs.Tables.{has_one_table}
use Rattle.lid_pearl.specs.Pearls.{View}
use Rattle.lid_system.specs.declared.System.{System}
use Rattle.lid_system.specs.declared.Node.{Node}
use Rattle.lid_system.specs.declared.Node.TheVariants.{Source, Shell, Sink}
use Rattle.lid_system.specs.declared.InBit.{InBit}
use Rattle.lid_system.specs.declared.InBit.TheVariants.{Const}
use Rattle.lid_system.specs.declared.Channel.{Channel}
use Rattle.lid_system.specs.Systems.{Point, source_port, shell_net, ports_of, ports_at, IsWellFormed}
use Rattle.lid_system.specs.Tables.{carried, in_shell, in_bit, input_reads, system_drivers, IsTable}
use Rattle.lid_system.specs.Streams.{token_at, tokens_of, output_row as system_row, IsStream, IsOutput}
use Rattle.lid_system.proofs.Points.{input_among, drives_shell, other_drivers, source_drivers, sink_drivers, port_driver, port_within, shell_is, first_node, last_node}
use Rattle.lid_system.proofs.Walking.{limit, points_end, points_reads_driven}
use Rattle.lid_system.proofs.Shelling.{read_bit}
use Rattle.lid_system.proofs.Streaming.{inputs_agree}
use Rattle.lid_check_parts.specs.Standing.{StandsFor, IsInput}
use Rattle.lid_net_law.specs.Agreement.{column_of, seen, IsPearlShell, IsSystemOf}
use Rattle.lid_net_law.proofs.Inputs.{root_input_drives}
use Rattle.lid_net_law.proofs.Leading.{passed_value, given_bit, led_bit, led_bits}
use Rattle.lid_base.proofs.Alls.{all_from_among}
use Rattle.lid_base.proofs.Each.{each_same}
use Rattle.lid_base.proofs.Options.{same_some}

-- the place of an input of a flat part
input_place : (f : Flat) (k j : ℕ) → IsFlat f → Among {A = Driver ℕ} (from_input j) (flat_drivers f k) → slice_get f.ins j ≡ Some k
input_place f k j flat among =
    let found = among_get f.ins k (input_among f k j among) in
    let other : Among {A = Driver ℕ} (from_input found.0) (flat_drivers f k) = input_drives f k found.0 found.1 in
    let same : from_input found.0 ≡ from_input j = same_of_one {A = Driver ℕ} (flat_drivers f k) (from_input found.0) (from_input j) (flat.once k) other among in
    let place : found.0 ≡ j = ap place_of same in
    subst (λ (i : ℕ). slice_get f.ins i ≡ Some k) place found.1
  where
    place_of : Driver ℕ → ℕ
    place_of (from_input i) = i
    place_of (from_latch first k) = 0
    place_of (from_cover cover ks) = 0
    place_of (from_connection k) = 0

module _ (d : Design) (s : System) (of : IsSystemOf d s) (well : IsWellFormed s) (rows : List (List Bool)) (b : Table Column) (strict : IsStrict (drivers d) rows b) where
  abbrev at : Table Point
  at = seen d of.columns b

  module _ (t : ℕ) (below : t < length rows) where
    abbrev HasBit : Column → Driver Point → Type 0
    HasBit c r = b t c ≡ bit_of rows at t r

    -- a net of a shell has the bit that its driver gives
    module _ (i : ℕ) (pearl : View) (ins : List InBit) (here : slice_get s.nodes i ≡ Some (Shell pearl ins)) where
      shell : IsPearlShell d s of.columns i pearl ins
      shell = of.shells i pearl ins here

      rules : IsFlat pearl.flat
      rules = (shell_is s well i pearl ins here).rules

      abbrev col : ℕ → Column
      col = of.columns i

      input_bit : (k j : ℕ) → Among {A = Driver ℕ} (from_input j) (flat_drivers pearl.flat k) → HasBit (col k) (in_shell s i ins (from_input j))
      input_bit k j drives =
          let place : slice_get pearl.flat.ins j ≡ Some k = input_place pearl.flat k j rules drives in
          let wide : length ins ≡ length pearl.flat.ins = (shell_is s well i pearl ins here).width in
          let inside : j < length pearl.flat.ins = slice_get_within pearl.flat.ins j k place in
          let x = get_or ins j (Const false) in
          let reads : slice_get ins j ≡ Some x = slice_get-get_or ins j (Const false) (omega arith) in
          let is : slice_get (map col pearl.flat.ins) j ≡ Some (col k) = slice_get-map col pearl.flat.ins j ∙ ap (option_map col) place in
          let led = shell.led j (col k) x is reads in
          led_bit d s of.columns rows b strict t below led.0 (col k) x led.1 ∙ sym (read_bit s rows at i pearl ins here t x)

      latch_is : (u : ℕ) (first : Bool) (k : ℕ) → latch_bit b first (col k) u ≡ latch_bit at first (shell_net i k) u
      latch_is zero first k = refl
      latch_is (suc u) first k = refl

      bits_are : (ks : List ℕ) → map (b t) (map col ks) ≡ map (at t) (map (shell_net i) ks)
      bits_are ks = map-map (b t) col ks ∙ sym (map-map (at t) (shell_net i) ks)

      by_driver : (k : ℕ) (r : Driver ℕ) → Among r (flat_drivers pearl.flat k) → IsInput r ⊎ ((q : Driver Column) × Among q (drivers d (col k)) × StandsFor col r q) → HasBit (col k) (in_shell s i ins r)
      by_driver k (from_input j) drives stands = input_bit k j drives
      by_driver k (from_latch first a) drives (inl none) = absurd none
      by_driver k (from_latch first a) drives (inr stands) =
          given_bit d s of.columns rows b strict t below (col k) stands.0 stands.1
          ∙ ap (bit_of rows b t) stands.2
          ∙ latch_is t first a
      by_driver k (from_cover cover ks) drives (inl none) = absurd none
      by_driver k (from_cover cover ks) drives (inr stands) = given_bit d s of.columns rows b strict t below (col k) stands.0 stands.1 ∙ by stands.2
        where
          by : StandsFor col (from_cover cover ks) stands.0 → bit_of rows b t stands.0 ≡ cover_value cover (map (at t) (map (shell_net i) ks))
          by (inl same) = ap (bit_of rows b t) same ∙ ap (cover_value cover) (bits_are ks)
          by (inr buffer) =
              let value : cover_value cover (map (at t) (map (shell_net i) (buffer.0 ∷ []))) ≡ b t (col buffer.0) = passed_value cover buffer.2 (b t (col buffer.0)) in
              ap (bit_of rows b t) buffer.3
              ∙ sym value
              ∙ ap (λ (ks : List ℕ). cover_value cover (map (at t) (map (shell_net i) ks))) (sym buffer.1)
      by_driver k (from_connection a) drives (inl none) = absurd none
      by_driver k (from_connection a) drives (inr stands) = absurd stands.2

      net_bit : (k : ℕ) (r : Driver Point) → Among r (system_drivers s (shell_net i k)) → HasBit (col k) r
      net_bit k r among =
          let found = drives_shell s i k pearl ins here r among in
          subst (HasBit (col k)) (sym found.2) (by_driver k found.0 found.1 (shell.each k found.0 found.1))

    node_bit : (i : ℕ) (node : Node) → slice_get s.nodes i ≡ Some node → (k : ℕ) (r : Driver Point) → Among r (system_drivers s (shell_net i k)) → HasBit (of.columns i k) r
    node_bit i (Source columns) here k r among = absurd (subst (λ (rs : List (Driver Point)). Among r rs) (source_drivers s i k columns here) among)
    node_bit i (Shell pearl ins) here k r among = net_bit i pearl ins here k r among
    node_bit i (Sink columns ins) here k r among = absurd (subst (λ (rs : List (Driver Point)). Among r rs) (sink_drivers s i k columns ins here) among)

    point_bit : (p : Point) (r : Driver Point) → Among r (system_drivers s p) → HasBit (column_of d of.columns p) r
    point_bit (source_port j) r among =
        let first = first_node s well in
        let within : j < length (root_inputs d) = subst (λ (names : List (List ℕ)). j < length names) (of.source 0 first.0 first.1) (port_within s j r first.0 first.1 among) in
        given_bit d s of.columns rows b strict t below (column [] (get_or (root_inputs d) j [])) (from_input j) (root_input_drives d j within)
        ∙ ap (bit_of rows at t) (sym (port_driver s j r among))
    point_bit (shell_net i k) r among = by (slice_get s.nodes i) refl
      where
        by : (o : Option Node) → slice_get s.nodes i ≡ o → HasBit (of.columns i k) r
        by None here = absurd (subst (λ (rs : List (Driver Point)). Among r rs) (other_drivers s i k here) among)
        by (Some node) here = node_bit i node here k r among

    -- the output row of the system is that of the design
    pub row_is : system_row s at t ≡ output_row d b t
    row_is =
        let last = last_node s well in
        let is = well.each_node (length s.nodes - 1) (Sink last.0 last.1) last.2 in
        let sink = of.sink (length s.nodes - 1) last.0 last.1 last.2 in
        let wide : length last.1 ≡ length (map (column []) (root_outputs d)) = is.width ∙ ap length sink.0 ∙ sym (length-map (root_outputs d) (column [])) in
        ap (λ o. map (in_bit s at t) (option_map_or input_reads o [])) last.2
        ∙ led_bits d s of.columns rows b strict t below (map (column []) (root_outputs d)) last.1 wide sink.1
        ∙ map-map (b t) (column []) (root_outputs d)

  pub table_is : IsTable s rows (seen d of.columns b)
  table_is t p below = all_from_among (λ (r : Driver Point). b t (column_of d of.columns p) ≡ bit_of rows at t r) (system_drivers s p) (λ r among. point_bit t below p r among)

  pub bits_same : (a : Table Point) (t : ℕ) (p : Point) → IsTable s rows a → t < length rows → IsDriven (system_drivers s) p → a t p ≡ b t (column_of d of.columns p)
  bits_same a t p table below driven = has_one_table (system_drivers s) (limit s well) (points_end s well) (points_reads_driven s well) rows a at table table_is t p below driven

  pub tokens_are : (c : ℕ) (channel : Channel) (tokens : List ℕ) → slice_get s.channels c ≡ Some channel → IsStream s rows c tokens → tokens ≡ from_each (λ t. packed (map (b t) (map (column_of d of.columns) (carried s channel)))) 0 (length rows)
  tokens_are c channel tokens here is =
      is.each at table_is
      ∙ ap (λ (ch : Channel). tokens_of s at ch (length rows)) (same_some (slice_get s.channels c) is.channel channel is.is_channel here)
      ∙ each_same (token_at s at channel) (λ t. packed (map (b t) (map (column_of d of.columns) (carried s channel)))) 0 (length rows)
      (λ t h. ap packed (sym (map-map (b t) (column_of d of.columns) (carried s channel))))

  pub rows_are : from_each (system_row s (seen d of.columns b)) 0 (length rows) ≡ output_rows d b (length rows)
  rows_are = each_same (system_row s at) (output_row d b) 0 (length rows) (λ t h. row_is t (omega arith))

  pub output_is : (outs : List (List Bool)) → ((b : Table Column) → IsStrict (drivers d) rows b → outs ≡ output_rows d b (length rows)) → IsOutput s rows outs
  output_is outs each = record { some = (at, table_is); each = λ a table. each b strict ∙ sym rows_are ∙ each_same (system_row s at) (system_row s a) 0 (length rows) (λ t h. inputs_agree s well rows at a table_is table (length s.nodes - 1) t (omega arith)) }

pub output_there : (d : Design) (s : System) (rows outs : List (List Bool)) → IsSystemOf d s → IsWellFormed s → IsStrictOutput d rows outs → IsOutput s rows outs
output_there d s rows outs of well is = output_is d s of well rows is.some.0 is.some.1 outs is.each

pub output_back : (d : Design) (s : System) (rows outs : List (List Bool)) (b : Table Column) → IsSystemOf d s → IsWellFormed s → IsStrict (drivers d) rows b → IsOutput s rows outs → IsStrictOutput d rows outs
output_back d s rows outs b of well strict is =
    record { some = (b, strict); each = λ b' strict'. is.each (seen d of.columns b') (table_is d s of well rows b' strict') ∙ rows_are d s of well rows b' strict' }

-- the ports of the source stand for the root's data inputs, and those of a shell for the pearl's outputs
each_name : (d : Design) (columns : ℕ → ℕ → Column) (k : ℕ) (names : List (List ℕ)) → ((j : ℕ) → j < length names → get_or (root_inputs d) (k + j) [] ≡ get_or names j []) → map (column_of d columns) (from_each source_port k (length names)) ≡ map (column []) names
each_name d columns k [] same = refl
each_name d columns k (name ∷ names) same =
    let place : k ≡ k + 0 = omega arith in
    let first : get_or (root_inputs d) k [] ≡ name = ap (λ (n : ℕ). get_or (root_inputs d) n []) place ∙ same 0 (omega arith) in
    let head : column [] (get_or (root_inputs d) k []) ≡ column [] name = ap (column []) first in
    let tail : map (column_of d columns) (from_each source_port (k + 1) (length names)) ≡ map (column []) names =
    each_name d columns (k + 1) names (λ j h. (let next : (k + 1) + j ≡ k + suc j = omega arith in ap (λ (n : ℕ). get_or (root_inputs d) n []) next ∙ same (suc j) (omega arith))) in
    cc

pub source_ports : (d : Design) (s : System) (of : IsSystemOf d s) → IsWellFormed s → map (column_of d of.columns) (ports_at s 0) ≡ map (column []) (root_inputs d)
source_ports d s of well =
    let first = first_node s well in
    ap (λ o. map (column_of d of.columns) (option_map_or (ports_of 0) o [])) first.1
    ∙ ap (λ (names : List (List ℕ)). map (column_of d of.columns) (from_each source_port 0 (length names))) (of.source 0 first.0 first.1)
    ∙ each_name d of.columns 0 (root_inputs d) (λ j h. (let place : 0 + j ≡ j = omega arith in ap (λ (n : ℕ). get_or (root_inputs d) n []) place))

pub shell_ports : (d : Design) (s : System) (i : ℕ) (pearl : View) (ins : List InBit) (of : IsSystemOf d s) (here : slice_get s.nodes i ≡ Some (Shell pearl ins)) → map (column_of d of.columns) (ports_at s i) ≡ map (column (of.shells i pearl ins here).path) (of.shells i pearl ins here).model.outputs
shell_ports d s i pearl ins of here =
    ap (λ o. map (column_of d of.columns) (option_map_or (ports_of i) o [])) here
    ∙ map-map (column_of d of.columns) (shell_net i) pearl.flat.outs
    ∙ (of.shells i pearl ins here).outputs
