-- The cells of named wires.
use Rattle.std.proofs.Common.{◌≡◌, ℕ, suc, ◌⊎◌, inl, inr, true, false, List, [], ◌∷◌, ◌++◌, length, map, flat_map, None, refl, sym, ◌∙◌, ap, subst}
use Rattle.lid_base.specs.Lists.{Among}
use Rattle.lid_base.proofs.Lists.{flat_among, among_left, all_among, map_among}
use Rattle.lid_cover.specs.declared.Cover.{Cover}
use Rattle.lid_design.specs.declared.Cell.{Cell}
use Rattle.lid_design.specs.declared.Cell.TheVariants.{Names, Latch}
use Rattle.lid_design.specs.declared.LatchKind.TheVariants.{Plain}
use Rattle.lid_design.specs.Network.{Driver, from_input, from_latch, from_cover, from_connection}
use Rattle.lid_design.specs.Models.{cell_out, cell_reads}
use Rattle.lid_design.specs.Walks.{read_before}
use Rattle.lid_design.specs.Feeds.{read_now}
use Rattle.lid_emit_circuit.specs.Wires.{Wire}
use Rattle.lid_emit_circuit.specs.Plans.{CircuitPlan}
use Rattle.lid_emit_circuit.specs.Network.{emitted}
use Rattle.lid_emit_circuit.specs.Known.{IsKnown, is_outer}
use Rattle.lid_emit_circuit.specs.Connected.{IsConnected, IsDrivenByCell, IsCellDriver}
use Rattle.lid_emit_circuit.specs.Lists.{wires}
use Rattle.lid_emit_circuit.proofs.Cells.{each_cell}
use Rattle.lid_emit_circuit.proofs.Listed.{are_listed}
use Rattle.lid_emit_names.specs.Named.{written, init_of, cell_of, cells_driving}

module _ (q : CircuitPlan) (con : IsConnected q) (name : Wire → List ℕ) where
  abbrev pub cells : List Cell
  cells = flat_map (cells_driving q name) (wires q)

  -- a wire of the list is known, and has its cell
  pub listed_known : (w : Wire) → Among w (wires q) → IsKnown q w
  listed_known w there = (((are_listed q con).each w).0 there).0

  pub listed_cell : (w : Wire) → Among w (wires q) → IsDrivenByCell q w
  listed_cell w there = by (each_cell q con w (listed_known w there))
    where
      inner : is_outer w ≡ false
      inner = (((are_listed q con).each w).0 there).1

      by : (is_outer w ≡ true) ⊎ IsDrivenByCell q w → IsDrivenByCell q w
      by (inl outer) = absurd (let e : true ≡ false = sym outer ∙ inner in cc)
      by (inr cell) = cell

  -- one cell stands there, which drives the wire's name
  pub record HasOne (w : Wire) : Type 0 where
    pub cell : Cell
    pub is : cells_driving q name w ≡ cell ∷ []
    pub out : cell_out cell ≡ name w

  pub one_cell : (w : Wire) → Among w (wires q) → HasOne w
  one_cell w there = by (listed_cell w there).source (listed_cell w there).only (listed_cell w there).cell
    where
      by : (s : Driver Wire) → emitted q w ≡ s ∷ [] → IsCellDriver s → HasOne w
      by (from_input j) only none = absurd none
      by (from_latch first input) only is = record { cell = Latch (name input) (name w) Plain None (init_of first); is = ap (flat_map (cell_of name w)) only; out = refl }
      by (from_cover cover reads) only is = record { cell = Names (map name reads) (name w) (written cover); is = ap (flat_map (cell_of name w)) only; out = refl }
      by (from_connection c) only none = absurd none

  outs_along : (ws : List Wire) → ((w : Wire) → Among w ws → HasOne w) → map cell_out (flat_map (cells_driving q name) ws) ≡ map name ws
  outs_along [] each = refl
  outs_along (w ∷ ws) each =
      let one = each w (inl refl) in
      ap (λ (xs : List Cell). map cell_out (xs ++ flat_map (cells_driving q name) ws)) one.is
      ∙ ap (λ (x : List ℕ). x ∷ map cell_out (flat_map (cells_driving q name) ws)) one.out
      ∙ ap (λ (xs : List (List ℕ)). name w ∷ xs) (outs_along ws (λ x i. each x (inr i)))

  -- the cells drive the names of the wires
  pub outs_are : map cell_out cells ≡ map name (wires q)
  outs_are = outs_along (wires q) one_cell

  many_along : (ws : List Wire) → ((w : Wire) → Among w ws → HasOne w) → length (flat_map (cells_driving q name) ws) ≡ length ws
  many_along [] each = refl
  many_along (w ∷ ws) each = ap (λ (xs : List Cell). length (xs ++ flat_map (cells_driving q name) ws)) (each w (inl refl)).is ∙ ap suc (many_along ws (λ x i. each x (inr i)))

  pub as_many : length cells ≡ length (wires q)
  as_many = many_along (wires q) one_cell

  -- from where a cell is
  pub record IsFrom (cell : Cell) : Type 0 where
    pub wire : Wire
    pub there : Among wire (wires q)
    pub source : Driver Wire
    pub drives : Among source (emitted q wire)
    pub is : Among cell (cell_of name wire source)

  pub from_where : (cell : Cell) → Among cell cells → IsFrom cell
  from_where cell among =
      let found = flat_among {A = Wire} {B = Cell} (cells_driving q name) cell (wires q) among in
      let from = flat_among {A = Driver Wire} {B = Cell} (cell_of name found.0) cell (emitted q found.0) found.2 in
      record { wire = found.0; there = found.1; source = from.0; drives = from.1; is = from.2 }

  -- the one source of a wire
  pub same_source : (w : Wire) (cell : IsDrivenByCell q w) (s : Driver Wire) → Among s (emitted q w) → s ≡ cell.source
  same_source w cell s there = by (subst (Among s) cell.only there)
    where
      by : Among s (cell.source ∷ []) → s ≡ cell.source
      by (inl is) = is
      by (inr none) = absurd none

  -- what a wire reads is known
  pub reads_known : (w : Wire) → Among w (wires q) → (s : Driver Wire) → Among s (emitted q w) → (r : Wire) → Among r (read_now s ++ read_before s) → IsKnown q r
  reads_known w there s drives r among =
      let cell = listed_cell w there in
      all_among (IsKnown q) (read_now cell.source ++ read_before cell.source) r cell.reads (subst (λ (x : Driver Wire). Among r (read_now x ++ read_before x)) (same_source w cell s drives) among)

  -- what a cell reads are names of wires
  pub read_wire : (cell : Cell) → Among cell cells → (net : List ℕ) → Among net (cell_reads cell) → (r : Wire) × IsKnown q r × (net ≡ name r)
  read_wire cell among net there = by (from_where cell among).source (from_where cell among).drives (from_where cell among).is
    where
      w : Wire
      w = (from_where cell among).wire

      by : (s : Driver Wire) → Among s (emitted q (from_where cell among).wire) → Among cell (cell_of name (from_where cell among).wire s) → (r : Wire) × IsKnown q r × (net ≡ name r)
      by (from_input j) drives none = absurd none
      by (from_connection c) drives none = absurd none
      by (from_latch first input) drives (inr none) = absurd none
      by (from_cover cover reads) drives (inr none) = absurd none
      by (from_latch first input) drives (inl is) = (input, reads_known (from_where cell among).wire (from_where cell among).there (from_latch first input) drives input (inl refl), only (subst (λ (c : Cell). Among net (cell_reads c)) is there))
        where
          only : Among net (name input ∷ []) → net ≡ name input
          only (inl same) = same
          only (inr none) = absurd none
      by (from_cover cover reads) drives (inl is) =
          let found = map_among {A = Wire} {B = List ℕ} name net reads (subst (λ (c : Cell). Among net (cell_reads c)) is there) in
          (found.0, reads_known (from_where cell among).wire (from_where cell among).there (from_cover cover reads) drives found.0 (among_left found.0 reads [] found.1), found.2)

  -- a cell of a cover
  pub record IsCoverCell (inputs : List (List ℕ)) (out : List ℕ) (cover : Cover) : Type 0 where
    pub wire : Wire
    pub there : Among wire (wires q)
    pub logic : Cover
    pub reads : List Wire
    pub drives : Among {A = Driver Wire} (from_cover logic reads) (emitted q wire)
    pub inputs_are : inputs ≡ map name reads
    pub out_is : out ≡ name wire
    pub cover_is : cover ≡ written logic

  abbrev cover_in : Cell → Cover → Cover
  cover_in (Names inputs out cover) other = cover
  cover_in (Latch input out kind control init) other = other

  pub cover_cell : (inputs : List (List ℕ)) (out : List ℕ) (cover : Cover) → Among (Names inputs out cover) cells → IsCoverCell inputs out cover
  cover_cell inputs out cover among = by (from_where (Names inputs out cover) among).source (from_where (Names inputs out cover) among).drives (from_where (Names inputs out cover) among).is
    where
      w : Wire
      w = (from_where (Names inputs out cover) among).wire

      by : (s : Driver Wire) → Among s (emitted q (from_where (Names inputs out cover) among).wire) → Among (Names inputs out cover) (cell_of name (from_where (Names inputs out cover) among).wire s) → IsCoverCell inputs out cover
      by (from_input j) drives none = absurd none
      by (from_connection c) drives none = absurd none
      by (from_latch first input) drives (inr none) = absurd none
      by (from_cover logic reads) drives (inr none) = absurd none
      by (from_latch first input) drives (inl is) = absurd (let e : Names inputs out cover ≡ Latch (name input) (name (from_where (Names inputs out cover) among).wire) Plain None (init_of first) = is in cc)
      by (from_cover logic reads) drives (inl is) = record {
        wire = (from_where (Names inputs out cover) among).wire;
        there = (from_where (Names inputs out cover) among).there;
        logic = logic;
        reads = reads;
        drives = drives;
        inputs_are = ap cell_reads is;
        out_is = ap cell_out is;
        cover_is = ap (λ (c : Cell). cover_in c cover) is;
      }
