-- What is emitted is the plan of the system under names.
use Rattle.std.proofs.Common.{◌≡◌, ℕ, zero, suc, ◌+◌, ◌<◌, ◌≤◌, Bool, List, [], ◌∷◌, ◌++◌, length, map, flat_map, refl, sym, ◌∙◌, ap, subst, arith}
use Rattle.std.specs.Prelude.{Option, Some, None, slice_get, bytes_eq}
use Rattle.std.specs.List.{AllByRecursion, IsDistinct}
use Rattle.std.specs.Option.{option_map_or}
use Rattle.std.proofs.lemmas.List.{map-append}
use Rattle.lid_base.proofs.Lists.{all_append}
use Rattle.lid_design.specs.declared.Design.{Design}
use Rattle.lid_design.specs.declared.Model.{Model}
use Rattle.lid_design.specs.declared.Cell.{Cell}
use Rattle.lid_design.specs.Network.{Table, IsStrict}
use Rattle.lid_base.specs.Each.{from_each}
use Rattle.lid_design.specs.Columns.{Column, drivers, root_inputs, root_outputs}
use Rattle.lid_design.specs.WellFormed.{IsWellFormed}
use Rattle.lid_check.specs.Acceptance.{IsAccepted}
use Rattle.lid_check.proofs.Sound.{judged_of}
use Rattle.lid_base_lines.specs.Spelled.{IsSpelled}
use Rattle.lid_blifout.specs.Canonical.{canonical_text}
use Rattle.lid_blifout.specs.Writable.{IsWritableCell, IsWritable}
use Rattle.lid_system.specs.declared.System.{System}
use Rattle.lid_stations.specs.declared.placement.Placement.{Placement}
use Rattle.lid_stations.specs.Placements.{Links, links_of}
use Rattle.lid_emit_circuit.specs.Wires.{Wire, entry, offer, block, shown, valid, stop}
use Rattle.lid_emit_circuit.specs.Plans.{CircuitPlan}
use Rattle.lid_emit_circuit.specs.Connected.{IsConnected}
use Rattle.lid_emit_circuit.specs.Known.{IsKnown}
use Rattle.lid_emit_circuit.specs.Lists.{wires}
use Rattle.lid_emit_system.specs.Wrapping.{circuit_plan}
use Rattle.lid_emit_system.proofs.Connecting.{connected}
use Rattle.lid_emit_names.specs.Named.{cells_driving, input_wires, output_wires, named_design, IsNaming}
use Rattle.lid_emit_names.specs.Laws.{NamedDesignsAreWellFormed, NamedDesignsAreAccepted}
use Rattle.lid_emit_names.proofs.Cells.{as_many}
use Rattle.lid_emit_laws.specs.Flats.{ArePortNames}
use Rattle.lid_emit_laws.specs.Laws.{EmittedDesignsRun}
use Rattle.lid_emit_laws.specs.Shortness.{AreShort}
use Rattle.lid_emit_laws.specs.Bounds.{AreFew, WrappedDesignsAreSmall, WrappedDesignsHaveShortTexts}
use Rattle.lid_emit_laws.proofs.Ports.{ports_counted, as_many_inputs, as_many_outputs}
use Rattle.lid_emit_meaning.specs.Runs as emitted
use Rattle.lid_emit_meaning.specs.Ports.{offer_name, block_name, valid_name, stop_name, input_names, output_names, taken_name}
use Rattle.lid_emit_names.specs.Spelling.{AreSmall}
use Rattle.lid_emit_names.proofs.Naming.{all_named, is_naming}
use Rattle.lid_emit_cells.specs.declared.all.All.{All}
use Rattle.lid_emit_cells.specs.Shown.{design_ports}
use Rattle.lid_emit_meaning.specs.Sizes.{size}
use Rattle.lid_emit_meaning.specs.Emitted.{CanBeEmitted, IsEmitted, IsPlainCell}
use Rattle.lid_emit.specs.Steps.{root_name, name_with, IsCircuitLaidOut, AreCells, model_with, design_with}
use Rattle.lid_emit.proofs.Words.{two_inputs, two_outputs, wire_word, wire_short}
use Rattle.lid_emit.proofs.Written.{cells_written, cells_begun}
use Rattle.lid_emit.proofs.Ports.{ports_distinct, ports_free}
use Rattle.lid_emit.proofs.Numbers.{nets_few, are_small}

-- a size counts each port
pub few_ports : (d : Design) (l : Links) (p : Placement) → size d l p ≤ 16384 → length (root_inputs d) + length (root_outputs d) ≤ 16384
unfolding size
few_ports d l p few = let all = ports_counted d in omega (arith, all, few)

-- one name is distinct
alone : (name : List ℕ) → IsDistinct bytes_eq (name ∷ [])
unfolding IsDistinct
alone name = (tt, tt)

module _ (d : Design) (s : System) (p : Placement) (can : CanBeEmitted d s p) (formed : IsWellFormed d) (accepted : IsAccepted d) (free : taken_name d ≡ None) (few : size d (links_of s) p ≤ 16384) (all : All) (laid : IsCircuitLaidOut d s p all) (made : List Cell) (are : AreCells d all made) where
  abbrev q : CircuitPlan
  q = circuit_plan s p laid.nets

  abbrev name : Wire → List ℕ
  name = name_with d are.prefix

  con : IsConnected q
  con = connected s p laid.nets can.system can.fits laid.are

  inputs_same : q.inputs ≡ length (root_inputs d)
  inputs_same = as_many_inputs d s p laid.nets can.of can.system

  outputs_same : length q.shows ≡ length (root_outputs d)
  outputs_same = as_many_outputs d s p laid.nets can.of can.system

  narrow : q.inputs ≤ 16384
  narrow = let ports = few_ports d (links_of s) p few in omega (arith, ports, inputs_same)

  small : AreSmall q
  small = are_small q con (nets_few d s p laid.nets (judged_of d formed accepted.models) laid.flats) all laid.plan laid.sound narrow

  naming : IsNaming q name
  naming = is_naming q (design_ports (root_inputs d) (root_outputs d)) are.prefix inputs_same outputs_same (ports_distinct d formed accepted free) (ports_free d are.prefix are.short are.free) small

  port_names : ArePortNames d name
  port_names = record {
    inputs = all_named entry name (root_inputs d) (λ j. refl);
    offers = refl;
    blocks = refl;
    outputs = all_named shown name (root_outputs d) (λ j. refl);
    valids = refl;
    stops = refl;
  }

  inputs_named : map name (input_wires q) ≡ input_names d
  inputs_named =
      map-append name (from_each entry 0 q.inputs) (offer ∷ block ∷ [])
      ∙ ap (λ (xs : List (List ℕ)). xs ++ offer_name ∷ block_name ∷ []) (ap (λ (m : ℕ). map name (from_each entry 0 m)) inputs_same ∙ port_names.inputs)

  outputs_named : map name (output_wires q) ≡ output_names d
  outputs_named =
      map-append name (from_each shown 0 (length q.shows)) (valid ∷ stop ∷ [])
      ∙ ap (λ (xs : List (List ℕ)). xs ++ valid_name ∷ stop_name ∷ []) (ap (λ (m : ℕ). map name (from_each shown 0 m)) outputs_same ∙ port_names.outputs)

  abbrev wire_cells : List Cell
  wire_cells = flat_map (cells_driving q name) (wires q)

  cells_same : made ≡ wire_cells
  cells_same = are.each q laid.plan

  abbrev design : List (List ℕ) → List (List ℕ) → List Cell → Design
  design ins outs cells = record { models = record { name = root_name d; inputs = ins; outputs = outs; clocks = []; cells = cells; insts = [] } ∷ []; root = 0 }

  -- the design is that of the plan under its names
  is_named : design_with (model_with d made) ≡ named_design q name (root_name d)
  is_named =
      ap (design (input_names d) (output_names d)) cells_same
      ∙ ap (λ (ins : List (List ℕ)). design ins (output_names d) wire_cells) (sym inputs_named)
      ∙ ap (λ (outs : List (List ℕ)). design (map name (input_wires q)) outs wire_cells) (sym outputs_named)

  words : (w : Wire) → IsKnown q w → IsSpelled 1024 (name w)
  words w known = wire_word q (root_inputs d) (root_outputs d) are.prefix can.inputs can.outputs are.short inputs_same outputs_same small w known

  names_short : AreShort q name
  names_short = wire_short q (root_inputs d) (root_outputs d) are.prefix can.inputs can.outputs are.short inputs_same outputs_same small

  root_word : IsSpelled 1024 (root_name d)
  root_word = by (slice_get d.models d.root) refl
    where
      by : (o : Option Model) → slice_get d.models d.root ≡ o → IsSpelled 1024 (option_map_or (λ m. m.name) o [])
      by (Some m) here = can.name m here
      by None here = absurd (none_there d.models d.root formed.rooted here)
        where
          none_there : (ms : List Model) (k : ℕ) → k < length ms → slice_get ms k ≡ None → ⊥
          none_there [] k below none = omega (arith, below)
          none_there (m ∷ ms) zero below none = let e : Some m ≡ None = none in cc
          none_there (m ∷ ms) (suc k) below none = none_there ms k (omega (arith, below)) none

  module _ (law : WrappedDesignsAreSmall) (texts : WrappedDesignsHaveShortTexts) where
    few_cells : AreFew made
    few_cells = subst AreFew (sym cells_same) (law d s p laid.nets name can.of can.system can.fits laid.are laid.flats laid.skipped few)

    short_text : length (canonical_text (design_with (model_with d made))) ≤ 16777216
    short_text =
        subst (λ (e : Design). length (canonical_text e) ≤ 16777216) (sym is_named)
        (texts d s p laid.nets name (root_name d) can.of can.system can.fits laid.are laid.flats laid.skipped few names_short port_names root_word.short)

    writable : IsWritable (design_with (model_with d made))
    writable = record {
      rooted = refl;
      some = omega arith;
      distinct = alone (root_name d);
      models = (
        record {
          name = root_word;
          inputs = all_append (IsSpelled 1024) (root_inputs d) (offer_name ∷ block_name ∷ []) can.inputs two_inputs;
          outputs = all_append (IsSpelled 1024) (root_outputs d) (valid_name ∷ stop_name ∷ []) can.outputs two_outputs;
          clocks = tt;
          cells = subst (AllByRecursion IsWritableCell) (sym cells_same) (cells_written q con name words);
          insts = tt;
        },
        tt,
      );
      few_models = omega arith;
      few_rows = omega (arith, few_cells.rows);
      short = short_text;
    }

    few_wires : length (wires q) ≤ 262144
    few_wires = omega (arith, as_many q con name, ap length cells_same, few_cells.cells)

    module _ (wells : NamedDesignsAreWellFormed) (accepts : NamedDesignsAreAccepted) (run : EmittedDesignsRun) where
      runs : (rows : List (List Bool)) (b : Table Column) → IsStrict (drivers (design_with (model_with d made))) rows b → emitted.RunsAs d (links_of s) p rows (emitted.face_of (root_outputs d) b)
      runs rows b strict =
          run d s p laid.nets name (root_name d) formed accepted can.of can.system can.fits laid.are laid.flats naming port_names rows b
          (subst (λ (e : Design). IsStrict (drivers e) rows b) is_named strict)

      pub emitted_so : IsEmitted d (links_of s) p (design_with (model_with d made))
      emitted_so = record {
        model = model_with d made;
        one = refl;
        root = refl;
        name = λ m here. ap (λ (o : Option Model). option_map_or (λ m. m.name) o []) here;
        inputs = refl;
        outputs = refl;
        clocks = refl;
        insts = refl;
        latches = subst (AllByRecursion IsPlainCell) (sym cells_same) (cells_begun q con name words);
        formed = subst IsWellFormed (sym is_named) (wells q name (root_name d) con);
        accepted = subst IsAccepted (sym is_named) (accepts q name (root_name d) con naming few_wires (omega (arith, narrow)));
        writable = writable;
        runs = runs;
      }
