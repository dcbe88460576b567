-- The tokens and the output rows of a system are those of its design.
use Rattle.std.proofs.Common.{◌≡◌, ℕ, suc, ◌+◌, ◌-◌, ◌<◌, ◌==◌, nat_lt, Bool, if◌then◌else◌, List, [], length, get_or, map, Some, slice_get, refl, sym, ◌∙◌, ap, subst, arith}
use Rattle.std.specs.Option.{option_map_or}
use Rattle.std.proofs.lemmas.List.{get_or-map}
use Rattle.std.proofs.lemmas.Option.{slice_get-get_or}
use Rattle.std.proofs.lemmas.Simd.{map-map}
use Rattle.lid_base.proofs.Lists.{all_among, map_same}
use Rattle.lid_base.specs.declared.runs.Shown.{Shown}
use Rattle.lid_cover.specs.Masks.{packed}
use Rattle.lid_design.specs.declared.Design.{Design}
use Rattle.lid_design.specs.declared.Model.{Model}
use Rattle.lid_design.specs.Network.{Table, IsStrict}
use Rattle.lid_design.specs.Columns.{Column, column, model_at, drivers, output_rows, IsStrictOutput}
use Rattle.lid_design.specs.Loops.{pearls}
use Rattle.lid_system.specs.declared.System.{System}
use Rattle.lid_system.specs.declared.Node.{Node}
use Rattle.lid_system.specs.declared.Node.TheVariants.{Source, Shell, Sink}
use Rattle.lid_system.specs.declared.Channel.{Channel}
use Rattle.lid_system.specs.Systems.{Point, source_port, ports_at, IsChannel, IsWellFormed}
use Rattle.lid_system.specs.Streams.{token_at, output_row, IsOutput}
use Rattle.lid_system.proofs.Streaming.{inputs_agree}
use Rattle.lid_stations.specs.declared.placement.Placement.{Placement}
use Rattle.lid_stations.specs.Placements.{links_of}
use Rattle.lid_stations.specs.Stations.{spot_at, no_channel}
use Rattle.lid_shell_laws.specs.Runs.{token_of}
use Rattle.lid_shell_laws.specs.Views.{shown_as}
use Rattle.lid_net_law.specs.Agreement.{column_of, seen, IsSystemOf}
use Rattle.lid_net_law.proofs.Agreeing.{source_ports, shell_ports, table_is, rows_are, output_back}
use Rattle.lid_net_law.specs.Ports.{ports_of, outputs_at}
use Rattle.lid_top_script.specs.Clocked.{channel_token, station_token}
use Rattle.lid_base.proofs.Each.{each_same}
use Rattle.lid_base.proofs.Alls.{all_weaker, all_or}

-- what a station shows, by its next token
pub shown_same : (cap put taken : ℕ) (f g : ℕ → ℕ) → f taken ≡ g taken → shown_as cap put taken f ≡ shown_as cap put taken g
shown_same cap put taken f g same =
    let with_token : ℕ → Shown = λ token. record { valid = nat_lt taken put; stop = put - taken == cap; token = if nat_lt taken put then token else 0 } in
    ap with_token same

module _ (d : Design) where
  ports_of_shell : (n : ℕ) (path : List ℕ) (model : Model) → slice_get (pearls d) n ≡ Some path → model_at d path ≡ Some model → ports_of d (suc n) ≡ map (column path) model.outputs
  unfolding ports_of
  ports_of_shell n path model here body =
      ap (λ o. option_map_or (outputs_at d) o []) here
      ∙ ap (λ o. option_map_or (λ (m : Model). map (column path) m.outputs) o []) body

  module _ (s : System) (of : IsSystemOf d s) (well : IsWellFormed s) where
    abbrev col : Point → Column
    col = column_of d of.columns

    ports_of_source : map col (ports_at s 0) ≡ ports_of d 0
    unfolding ports_of
    ports_of_source = source_ports d s of well

    -- the ports of a node of the system stand for those of the node of the design
    ports_same : (v : ℕ) → v + 1 < length s.nodes → map col (ports_at s v) ≡ ports_of d v
    ports_same v below = by (get_or s.nodes v (Sink [] [])) (slice_get-get_or s.nodes v (Sink [] []) (omega arith))
      where
        by : (node : Node) → slice_get s.nodes v ≡ Some node → map col (ports_at s v) ≡ ports_of d v
        by (Source columns) here =
            let first : v ≡ 0 = well.each_node v (Source columns) here in
            subst (λ (n : ℕ). map col (ports_at s n) ≡ ports_of d n) (sym first) ports_of_source
        by (Shell pearl ins) here =
            let is = of.shells v pearl ins here in
            let place = is.place in
            let after : suc is.number ≡ v = omega (arith, place) in
            shell_ports d s v pearl ins of here
            ∙ sym (ports_of_shell is.number is.path is.model is.here is.body)
            ∙ ap (ports_of d) after
        by (Sink columns ins) here = absurd (let last = (well.each_node v (Sink columns ins) here).last in omega (arith, last, below))

    module _ (b : Table Column) where
      abbrev Agrees : Channel → Type 0
      Agrees ch = (t : ℕ) → token_at s (seen d of.columns b) ch t ≡ channel_token d b ch t

      channel_agrees : (ch : Channel) → IsChannel s ch → Agrees ch
      channel_agrees ch is t =
          let ports = ports_at s ch.from in
          let port_of : ℕ → Point = λ port. get_or ports port (source_port 0) in
          ap packed (
          map-map (seen d of.columns b t) port_of ch.ports
          ∙ map_same (λ port. seen d of.columns b t (port_of port)) (λ port. b t (get_or (ports_of d ch.from) port (column [] []))) ch.ports (λ port among. ap (b t) (
          sym (get_or-map col ports port (source_port 0) (column [] []) (all_among (λ (p : ℕ). p < length ports) ch.ports port is.below among))
          ∙ ap (λ (cs : List Column). get_or cs port (column [] [])) (ports_same ch.from is.comes)
          ))
          )

      pub token_same : (p : Placement) (station i : ℕ) → token_of s p (seen d of.columns b) station i ≡ station_token d b (links_of s) p station i
      token_same p station i =
          all_or Agrees s.channels (spot_at p.relays station).channel no_channel (all_weaker (IsChannel s) Agrees s.channels channel_agrees well.each_channel) (λ t. refl) i

      -- the strict output rows of the design are the rows that the table of the system gives
      pub are_outputs : (rows : List (List Bool)) → IsStrict (drivers d) rows b → IsStrictOutput d rows (output_rows d b (length rows))
      are_outputs rows strict =
          let at = seen d of.columns b in
          let table = table_is d s of well rows b strict in
          let is : IsOutput s rows (output_rows d b (length rows)) = record {
            some = (at, table);
            each = λ a other. sym (rows_are d s of well rows b strict) ∙ each_same (output_row s at) (output_row s a) 0 (length rows) (λ t h. inputs_agree s well rows at a table other (length s.nodes - 1) t (omega (arith, h)));
          } in
          output_back d s rows (output_rows d b (length rows)) b of well strict is
