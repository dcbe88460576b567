-- The cells of named wires can be written.
use Rattle.std.proofs.Common.{◌≡◌, ◌⊎◌, ℕ, inl, inr, Bool, true, false, List, [], ◌∷◌, map, refl, sym, ◌∙◌, subst}
use Rattle.std.specs.List.{AllByRecursion}
use Rattle.std.proofs.lemmas.List.{length-map}
use Rattle.lid_base.specs.Lists.{Among}
use Rattle.lid_base.proofs.Lists.{among_left}
use Rattle.lid_cover.specs.declared.Cube.{Cube}
use Rattle.lid_design.specs.declared.Cell.{Cell}
use Rattle.lid_design.specs.declared.Init.TheVariants.{Zero, One}
use Rattle.lid_design.specs.Network.{Driver, from_input, from_latch, from_cover, from_connection}
use Rattle.lid_base_lines.specs.Spelled.{IsSpelled}
use Rattle.lid_blifout.specs.Writable.{IsWritableCell}
use Rattle.lid_emit_circuit.specs.Wires.{Wire}
use Rattle.lid_emit_circuit.specs.Plans.{CircuitPlan}
use Rattle.lid_emit_circuit.specs.Network.{emitted}
use Rattle.lid_emit_circuit.specs.Known.{IsKnown}
use Rattle.lid_emit_circuit.specs.Connected.{IsConnected, IsFormed}
use Rattle.lid_emit_meaning.specs.Emitted.{IsPlainCell}
use Rattle.lid_emit_names.specs.Named.{with_rows, init_of, cell_of}
use Rattle.lid_emit_names.proofs.Written.{written_formed, written_inputs}
use Rattle.lid_emit_names.proofs.Cells.{cells, listed_known, listed_cell, from_where, same_source, reads_known}
use Rattle.lid_base.proofs.Alls.{all_from_among}

-- a cover that is written is on where it has no rows
on_without_rows : (inputs : ℕ) (on : Bool) (cubes : List Cube) → (with_rows inputs on cubes).cubes ≡ [] → (with_rows inputs on cubes).on ≡ true
on_without_rows inputs true cubes none = refl
on_without_rows inputs false [] none = refl
on_without_rows inputs false (cube ∷ cubes) none = absurd (let e : cube ∷ cubes ≡ [] = none in cc)

-- a latch begins with 0 or 1
begun : (bit : Bool) → (init_of bit ≡ Zero) ⊎ (init_of bit ≡ One)
begun true = inr refl
begun false = inl refl

module _ (q : CircuitPlan) (con : IsConnected q) (name : Wire → List ℕ) (words : (w : Wire) → IsKnown q w → IsSpelled 1024 (name w)) where
  read_words : (reads : List Wire) → ((r : Wire) → Among r reads → IsKnown q r) → AllByRecursion (IsSpelled 1024) (map name reads)
  read_words [] known = tt
  read_words (r ∷ rs) known = (words r (known r (inl refl)), read_words rs (λ x i. known x (inr i)))

  module _ (cell : Cell) (among : Among cell (cells q con name)) where
    abbrev wire : Wire
    wire = (from_where q con name cell among).wire

    source_formed : (s : Driver Wire) → Among s (emitted q wire) → IsFormed s
    source_formed s drives =
        let of = listed_cell q con name wire (from_where q con name cell among).there in
        subst IsFormed (sym (same_source q con name wire of s drives)) of.formed

    wire_known : IsKnown q wire
    wire_known = listed_known q con name wire (from_where q con name cell among).there

    its_word : IsSpelled 1024 (name wire)
    its_word = words wire wire_known

    cell_written : (s : Driver Wire) → Among s (emitted q wire) → Among cell (cell_of name wire s) → IsWritableCell cell
    cell_written (from_input j) drives none = absurd none
    cell_written (from_connection c) drives none = absurd none
    cell_written (from_latch first input) drives (inr none) = absurd none
    cell_written (from_cover cover reads) drives (inr none) = absurd none
    cell_written (from_latch first input) drives (inl is) =
        subst IsWritableCell (sym is)
        record {
          reads = words input (reads_known q con name wire (from_where q con name cell among).there (from_latch first input) drives input (inl refl));
          driven = its_word;
          controlled = tt;
          plain = λ kind. refl;
        }
    cell_written (from_cover cover reads) drives (inl is) =
        let formed = source_formed (from_cover cover reads) drives in
        subst IsWritableCell (sym is)
        record {
          names = read_words reads (λ r i. reads_known q con name wire (from_where q con name cell among).there (from_cover cover reads) drives r (among_left r reads [] i));
          driven = its_word;
          rules = written_formed cover formed.0;
          count = written_inputs cover ∙ formed.1 ∙ sym (length-map reads name);
          constant = on_without_rows cover.inputs cover.on cover.cubes;
        }

    cell_begun : (s : Driver Wire) → Among cell (cell_of name wire s) → IsPlainCell cell
    cell_begun (from_input j) none = absurd none
    cell_begun (from_connection c) none = absurd none
    cell_begun (from_latch first input) (inr none) = absurd none
    cell_begun (from_cover cover reads) (inr none) = absurd none
    cell_begun (from_latch first input) (inl is) = subst IsPlainCell (sym is) (refl, refl, begun first)
    cell_begun (from_cover cover reads) (inl is) = subst IsPlainCell (sym is) tt

  pub cells_begun : AllByRecursion IsPlainCell (cells q con name)
  cells_begun = all_from_among IsPlainCell (cells q con name) (λ cell among. cell_begun cell among (from_where q con name cell among).source (from_where q con name cell among).is)

  pub cells_written : AllByRecursion IsWritableCell (cells q con name)
  cells_written = all_from_among IsWritableCell (cells q con name) (λ cell among. cell_written cell among (from_where q con name cell among).source (from_where q con name cell among).drives (from_where q con name cell among).is)
