-- The cells of the nets of shells, by what a shell has.
use Rattle.std.proofs.Common.{◌≡◌, ℕ, ◌+◌, ◌<◌, Bool, true, false, not, cond, List, [], ◌∷◌, ◌++◌, length, map, flat_map, None, get_or, drop, drop-cons, add-one, sym, ◌∙◌, ap, append_assoc}
use Rattle.std.proofs.lemmas.List.{map-append}
use Rattle.std.proofs.lemmas.Simd.{map-map}
use Rattle.lid_base.specs.Lists.{Among}
use Rattle.lid_cover.specs.declared.Cover.{Cover}
use Rattle.lid_design.specs.declared.Cell.{Cell}
use Rattle.lid_design.specs.declared.Cell.TheVariants.{Names, Latch}
use Rattle.lid_design.specs.declared.LatchKind.TheVariants.{Plain}
use Rattle.lid_design.specs.declared.Flat.{Flat}
use Rattle.lid_design.specs.declared.FlatLatch.{FlatLatch}
use Rattle.lid_design.specs.declared.FlatCover.{FlatCover}
use Rattle.lid_design.specs.Network.{Driver, from_latch, from_cover}
use Rattle.lid_design.specs.Flat.{flat_drivers}
use Rattle.lid_design.proofs.Parts.{latch_drives, cover_drives}
use Rattle.lid_emit_circuit.specs.Wires.{Wire, fire, now, kept, later}
use Rattle.lid_emit_circuit.specs.Gates.{choice}
use Rattle.lid_emit_circuit.specs.Plans.{CircuitPlan}
use Rattle.lid_emit_circuit.specs.Network.{now_from, kept_from, later_from, gate, emitted}
use Rattle.lid_emit_names.specs.Named.{written, init_of, cell_of, cells_driving}
use Rattle.lid_emit_circuit.specs.Lists.{latch_wires, cover_wires}
use Rattle.lid_emit_cells.specs.declared.wire.Wire as cell
use Rattle.lid_emit_cells.specs.declared.shell.Shell.{Shell}
use Rattle.lid_emit_cells.specs.Shown.{wire_of}
use Rattle.lid_emit_cells.specs.Drafts.{Draft, name_on, with_cells, with_wires}
use Rattle.lid_emit_cells.specs.Matches.{IsPlanShell, IsWhole}
use Rattle.lid_emit_cells.proofs.Drafting.{no_wires, more_wires, one_wire}
use Rattle.lid_base.proofs.Lists.{among_alone}

-- one more wire of a list
pub wires_next : (wire : ℕ → Wire) (found news : List cell.Wire) (nets : List ℕ) (i : ℕ) (w : cell.Wire) → i < length nets → wire (get_or nets i 0) ≡ wire_of w → news ≡ found ++ w ∷ []
    → map wire_of found ++ map wire (drop i nets) ≡ map wire nets → map wire_of news ++ map wire (drop (i + 1) nets) ≡ map wire nets
wires_next wire found news nets i w below same grown so_far =
    ap (λ (ws : List cell.Wire). map wire_of ws ++ map wire (drop (i + 1) nets)) grown
    ∙ ap (λ (ws : List Wire). ws ++ map wire (drop (i + 1) nets)) (map-append wire_of found (w ∷ []))
    ∙ append_assoc (map wire_of found) (wire_of w ∷ []) (map wire (drop (i + 1) nets))
    ∙ ap (λ (x : Wire). map wire_of found ++ x ∷ map wire (drop (i + 1) nets)) (sym same)
    ∙ ap (λ (m : ℕ). map wire_of found ++ wire (get_or nets i 0) ∷ map wire (drop m nets)) (add-one i)
    ∙ ap (λ (ks : List ℕ). map wire_of found ++ map wire ks) (sym (drop-cons nets i 0 below))
    ∙ so_far

-- the cell of a cover by the wires that it reads
pub net_done : (name : Wire → List ℕ) (wire : Wire) (read : ℕ → Wire) (nets : List ℕ) (ws others : List cell.Wire) (cover logic : Cover)
    → others ≡ ws → map wire_of ws ≡ map read nets → cover ≡ written logic
    → Names (map (λ w. name (wire_of w)) others) (name wire) cover ≡ Names (map name (map read nets)) (name wire) (written logic)
net_done name wire read nets ws others cover logic same reads as_written =
    ap (λ (xs : List cell.Wire). Names (map (λ w. name (wire_of w)) xs) (name wire) cover) same
    ∙ ap (λ (xs : List (List ℕ)). Names xs (name wire) cover) (sym (map-map name wire_of ws) ∙ ap (map name) reads)
    ∙ ap (λ (x : Cover). Names (map name (map read nets)) (name wire) x) as_written

module _ (q : CircuitPlan) (name : Wire → List ℕ) (v : ℕ) (shell : Shell) (whole : IsWhole shell) (is : IsPlanShell q v shell) where
  abbrev f : Flat
  f = shell.flat

  abbrev cells_from : Wire → List (Driver Wire) → List Cell
  cells_from w sources = flat_map (cell_of name w) sources

  drivers_same : (k : ℕ) → flat_drivers (q.flat v) k ≡ flat_drivers f k
  drivers_same k = ap (λ (g : Flat). flat_drivers g k) is.flat

  module _ (l : FlatLatch) (there : Among l f.latches) where
    latch_alone : flat_drivers (q.flat v) l.out ≡ from_latch l.init l.input ∷ []
    latch_alone = drivers_same l.out ∙ among_alone (flat_drivers f l.out) (from_latch l.init l.input) (whole.rules.once l.out) (latch_drives f l there)

    pub now_is : cells_driving q name (now v l.out) ≡ Latch (name (kept v l.out)) (name (now v l.out)) Plain None (init_of l.init) ∷ []
    unfolding emitted
    now_is = ap (λ (ds : List (Driver ℕ)). cells_from (now v l.out) (flat_map (now_from q v l.out) ds)) latch_alone

    pub kept_is : cells_driving q name (kept v l.out) ≡ Names (name (fire v) ∷ name (q.here v l.input) ∷ name (now v l.out) ∷ []) (name (kept v l.out)) choice ∷ []
    unfolding emitted
    kept_is = ap (λ (ds : List (Driver ℕ)). cells_from (kept v l.out) (flat_map (kept_from q v l.out) ds)) latch_alone

  module _ (c : FlatCover) (there : Among c f.covers) where
    cover_alone : flat_drivers (q.flat v) c.out ≡ from_cover c.cover c.ins ∷ []
    cover_alone = drivers_same c.out ∙ among_alone (flat_drivers f c.out) (from_cover c.cover c.ins) (whole.rules.once c.out) (cover_drives f c there)

    abbrev now_by : Bool → List Cell
    now_by skips = cells_from (now v c.out) (cond (not skips) (gate c.cover (map (q.here v) c.ins)) [] ++ [])

    abbrev later_by : Bool → List Cell
    later_by skips = cells_from (later v c.out) (cond (not skips) (gate c.cover (map (q.after v) c.ins)) [] ++ [])

    pub now_cover : q.skips v c.out ≡ false → cells_driving q name (now v c.out) ≡ Names (map name (map (q.here v) c.ins)) (name (now v c.out)) (written c.cover) ∷ []
    unfolding emitted
    now_cover skips = ap (λ (ds : List (Driver ℕ)). cells_from (now v c.out) (flat_map (now_from q v c.out) ds)) cover_alone ∙ ap now_by skips

    pub later_cover : q.skips v c.out ≡ false → cells_driving q name (later v c.out) ≡ Names (map name (map (q.after v) c.ins)) (name (later v c.out)) (written c.cover) ∷ []
    unfolding emitted
    later_cover skips = ap (λ (ds : List (Driver ℕ)). cells_from (later v c.out) (flat_map (later_from q v c.out) ds)) cover_alone ∙ ap later_by skips

module _ (q : CircuitPlan) (v : ℕ) (shell : Shell) (whole : IsWhole shell) (is : IsPlanShell q v shell) where
  pub latch_done : (l : FlatLatch) → Among l shell.flat.latches → (old first second : Draft) (input : Wire) → q.here v l.input ≡ input
      → first ≡ with_cells old (Latch (name_on old (kept v l.out)) (name_on old (now v l.out)) Plain None (init_of l.init) ∷ [])
      → second ≡ with_cells first (Names (name_on first (fire v) ∷ name_on first input ∷ name_on first (now v l.out) ∷ []) (name_on first (kept v l.out)) choice ∷ [])
      → second ≡ with_wires q old (latch_wires v l)
  latch_done l there old first second input is_input one two =
      more_wires q old first second (now v l.out ∷ []) (kept v l.out ∷ [])
      (one_wire q old first (now v l.out) _ one (sym (now_is q (name_on old) v shell whole is l there)))
      (one_wire q first second (kept v l.out) _ two
      (ap (λ (w : Wire). Names (name_on first (fire v) ∷ name_on first w ∷ name_on first (now v l.out) ∷ []) (name_on first (kept v l.out)) choice ∷ []) (sym is_input)
      ∙ sym (kept_is q (name_on first) v shell whole is l there)))

  module _ (c : FlatCover) (there : Among c shell.flat.covers) where
    abbrev wires_by : Bool → List Wire
    wires_by skips = cond skips [] (now v c.out ∷ later v c.out ∷ [])

    pub cover_skipped : (old : Draft) → q.skips v c.out ≡ true → old ≡ with_wires q old (cover_wires q v c)
    cover_skipped old skips = no_wires q old ∙ ap (λ (b : Bool). with_wires q old (wires_by b)) (sym skips)

    pub cover_done : (old first second : Draft) → q.skips v c.out ≡ false
        → first ≡ with_cells old (Names (map (name_on old) (map (q.here v) c.ins)) (name_on old (now v c.out)) (written c.cover) ∷ [])
        → second ≡ with_cells first (Names (map (name_on first) (map (q.after v) c.ins)) (name_on first (later v c.out)) (written c.cover) ∷ [])
        → second ≡ with_wires q old (cover_wires q v c)
    cover_done old first second skips one two =
        more_wires q old first second (now v c.out ∷ []) (later v c.out ∷ [])
        (one_wire q old first (now v c.out) _ one (sym (now_cover q (name_on old) v shell whole is c there skips)))
        (one_wire q first second (later v c.out) _ two (sym (later_cover q (name_on first) v shell whole is c there skips)))
        ∙ ap (λ (b : Bool). with_wires q old (wires_by b)) (sym skips)
