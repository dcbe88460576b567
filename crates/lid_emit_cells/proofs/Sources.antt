-- The cells of wires, by what a station has.
use Rattle.std.proofs.Common.{◌≡◌, ℕ, suc, ◌+◌, ◌<◌, ◌≤◌, ◌==◌, ◌⊎◌, inl, inr, Bool, true, false, not, ◌&&◌, cond, List, [], ◌∷◌, flat_map, Some, None, slice_get, refl, sym, ◌∙◌, ap, arith, add-one}
use Rattle.std.specs.Prelude.{nat_lt}
use Rattle.std.proofs.lemmas.Bool.{cases_lt, lt-ltb, le-ltb, eq-eqb}
use Rattle.std.proofs.lemmas.Option.{slice_get_within}
use Rattle.lid_cover.specs.declared.Cover.{Cover}
use Rattle.lid_design.specs.declared.Cell.{Cell}
use Rattle.lid_design.specs.declared.Cell.TheVariants.{Names, Latch}
use Rattle.lid_design.specs.declared.LatchKind.TheVariants.{Plain}
use Rattle.lid_design.specs.Network.{Driver}
use Rattle.lid_emit_circuit.specs.Wires.{Wire, fire, level, grown, place, moved}
use Rattle.lid_emit_circuit.specs.Gates.{constant, count, move}
use Rattle.lid_emit_circuit.specs.Plans.{CircuitPlan}
use Rattle.lid_emit_circuit.specs.Network.{gate, flop, level_in, emitted}
use Rattle.lid_emit_names.specs.Named.{init_of, cell_of, cells_driving}
use Rattle.lid_emit_cells.specs.declared.station.Bit.{Bit}
use Rattle.lid_emit_cells.specs.declared.station.Station.{Station}
use Rattle.lid_emit_cells.specs.Shown.{wire_of}
use Rattle.lid_emit_cells.specs.Matches.{IsStationOf}

-- what is below is not above
turned : (i n : ℕ) → nat_lt i n ≡ not (nat_lt n (suc i))
turned i n = by (cases_lt i n)
  where
    by : (i < n) ⊎ (n ≤ i) → nat_lt i n ≡ not (nat_lt n (suc i))
    by (inl less) = lt-ltb i n less ∙ sym (ap not (le-ltb n (suc i) less))
    by (inr most) = le-ltb i n most ∙ sym (ap not (lt-ltb n (suc i) (omega arith)))

module _ (q : CircuitPlan) (name : Wire → List ℕ) where
  -- the cells of the sources of a wire
  abbrev cells_from : Wire → List (Driver Wire) → List Cell
  cells_from w sources = flat_map (cell_of name w) sources

  module _ (s : ℕ) (station : Station) (is : IsStationOf q s station) where
    in_range : nat_lt s q.stations ≡ true
    in_range = lt-ltb s q.stations is.there

    pub lowest : Names [] (name (level s 0)) (constant true) ∷ [] ≡ cells_driving q name (level s 0)
    unfolding emitted
    lowest = sym (ap (λ (b : Bool). cells_from (level s 0) (cond b (gate (constant true) []) [])) in_range)

    level_there : (i : ℕ) → cells_driving q name (level s (suc i)) ≡ cells_from (level s (suc i)) (level_in q s (suc i))
    unfolding emitted
    level_there i = ap (λ (b : Bool). cells_from (level s (suc i)) (cond b (level_in q s (suc i)) [])) in_range

    abbrev level_by : ℕ → Bool → Bool → List Cell
    level_by i latched past = cells_from (level s (suc i)) (cond latched (flop (not (nat_lt (q.first s) (suc i))) (grown s (suc i))) (cond past (gate (constant false) []) []))

    pub highest : (i : ℕ) → i ≡ station.capacity → Names [] (name (level s (i + 1))) (constant false) ∷ [] ≡ cells_driving q name (level s (i + 1))
    highest i at =
        let at_capacity : i ≡ q.capacity s = at ∙ sym is.capacity in
        ap (λ (n : ℕ). Names [] (name (level s n)) (constant false) ∷ []) (add-one i)
        ∙ sym (level_there i ∙ ap (λ (b : Bool). level_by i b (i == q.capacity s)) (le-ltb i (q.capacity s) (omega arith)) ∙ ap (λ (b : Bool). level_by i false b) (eq-eqb i (q.capacity s) at_capacity))
        ∙ ap (λ (n : ℕ). cells_driving q name (level s n)) (sym (add-one i))

    pub between : (i : ℕ) (first : Bool) → i < station.capacity → first ≡ nat_lt i station.first → Latch (name (grown s (i + 1))) (name (level s (i + 1))) Plain None (init_of first) ∷ [] ≡ cells_driving q name (level s (i + 1))
    between i first below begins =
        let here : i < q.capacity s = omega (arith, below, is.capacity) in
        let first_is : first ≡ not (nat_lt (q.first s) (suc i)) = begins ∙ ap (nat_lt i) (sym is.first) ∙ turned i (q.first s) in
        ap (λ (n : ℕ). Latch (name (grown s n)) (name (level s n)) Plain None (init_of first) ∷ []) (add-one i)
        ∙ ap (λ (b : Bool). Latch (name (grown s (suc i))) (name (level s (suc i))) Plain None (init_of b) ∷ []) first_is
        ∙ sym (level_there i ∙ ap (λ (b : Bool). level_by i b (i == q.capacity s)) (lt-ltb i (q.capacity s) here))
        ∙ ap (λ (n : ℕ). cells_driving q name (level s n)) (sym (add-one i))

    abbrev count_cell : ℕ → Cell
    count_cell i = Names (name (fire station.drainer) ∷ name (fire station.filler) ∷ name (level s i) ∷ name (level s (i + 1)) ∷ name (level s (i + 2)) ∷ []) (name (grown s (i + 1))) count

    abbrev grown_by : ℕ → Bool → Bool → List Cell
    grown_by i there below = cells_from (grown s (suc i)) (cond there (cond below (gate count (fire (q.drainer s) ∷ fire (q.filler s) ∷ level s i ∷ level s (suc i) ∷ level s (suc (suc i)) ∷ [])) []) [])

    pub counts_on : (i : ℕ) → i < station.capacity → count_cell i ∷ [] ≡ cells_driving q name (grown s (i + 1))
    unfolding emitted
    counts_on i below =
        let here : i < q.capacity s = omega (arith, below, is.capacity) in
        let two : i + 2 ≡ suc (suc i) = omega arith in
        ap (λ (n : ℕ). Names (name (fire n) ∷ name (fire station.filler) ∷ name (level s i) ∷ name (level s (i + 1)) ∷ name (level s (i + 2)) ∷ []) (name (grown s (i + 1))) count ∷ []) (sym is.drainer)
        ∙ ap (λ (n : ℕ). Names (name (fire (q.drainer s)) ∷ name (fire n) ∷ name (level s i) ∷ name (level s (i + 1)) ∷ name (level s (i + 2)) ∷ []) (name (grown s (i + 1))) count ∷ []) (sym is.filler)
        ∙ ap (λ (n : ℕ). Names (name (fire (q.drainer s)) ∷ name (fire (q.filler s)) ∷ name (level s i) ∷ name (level s n) ∷ name (level s (i + 2)) ∷ []) (name (grown s n)) count ∷ []) (add-one i)
        ∙ ap (λ (n : ℕ). Names (name (fire (q.drainer s)) ∷ name (fire (q.filler s)) ∷ name (level s i) ∷ name (level s (suc i)) ∷ name (level s n) ∷ []) (name (grown s (suc i))) count ∷ []) two
        ∙ sym (ap (λ (b : Bool). grown_by i b (nat_lt i (q.capacity s))) in_range ∙ ap (grown_by i true) (lt-ltb i (q.capacity s) here))
        ∙ ap (λ (n : ℕ). cells_driving q name (grown s n)) (sym (add-one i))

    module _ (j : ℕ) (bit : Bit) (at : slice_get station.bits j ≡ Some bit) where
      its : (q.begins s j ≡ bit.begins) × (q.put s j ≡ wire_of bit.put)
      its = is.bits j bit at

      bit_range : (nat_lt s q.stations && nat_lt j (q.width s)) ≡ true
      bit_range = both_true (nat_lt s q.stations) (nat_lt j (q.width s)) in_range (lt-ltb j (q.width s) (omega (arith, slice_get_within station.bits j bit at, is.width)))
        where
          both_true : (x y : Bool) → x ≡ true → y ≡ true → x && y ≡ true
          both_true true true h h' = refl
          both_true false y h h' = cc
          both_true true false h h' = cc

      abbrev place_by : ℕ → Bool → Bool → Bool → List Cell
      place_by i there latched past = cells_from (place s i j) (cond there (cond latched (flop (q.begins s j) (moved s i j)) (cond past (gate (constant false) []) [])) [])

      place_there : (i : ℕ) → cells_driving q name (place s i j) ≡ place_by i true (nat_lt i (q.capacity s)) (i == q.capacity s)
      unfolding emitted
      place_there i = ap (λ (b : Bool). place_by i b (nat_lt i (q.capacity s)) (i == q.capacity s)) bit_range

      pub last_place : (i : ℕ) → i ≡ station.capacity → Names [] (name (place s i j)) (constant false) ∷ [] ≡ cells_driving q name (place s i j)
      last_place i here =
          let at_capacity : i ≡ q.capacity s = here ∙ sym is.capacity in
          sym (place_there i ∙ ap (λ (b : Bool). place_by i true b (i == q.capacity s)) (le-ltb i (q.capacity s) (omega arith)) ∙ ap (place_by i true false) (eq-eqb i (q.capacity s) at_capacity))

      pub some_place : (i : ℕ) → i < station.capacity → Latch (name (moved s i j)) (name (place s i j)) Plain None (init_of bit.begins) ∷ [] ≡ cells_driving q name (place s i j)
      some_place i below =
          let here : i < q.capacity s = omega (arith, below, is.capacity) in
          ap (λ (b : Bool). Latch (name (moved s i j)) (name (place s i j)) Plain None (init_of b) ∷ []) (sym its.0)
          ∙ sym (place_there i ∙ ap (λ (b : Bool). place_by i true b (i == q.capacity s)) (lt-ltb i (q.capacity s) here))

      abbrev moved_by : ℕ → Bool → Bool → List Cell
      moved_by i there below = cells_from (moved s i j) (cond there (cond below (gate move (fire (q.drainer s) ∷ level s (suc i) ∷ place s i j ∷ level s (suc (suc i)) ∷ place s (suc i) j ∷ q.put s j ∷ [])) []) [])

      pub moves_on : (i : ℕ) → i < station.capacity
          → Names (name (fire station.drainer) ∷ name (level s (i + 1)) ∷ name (place s i j) ∷ name (level s (i + 2)) ∷ name (place s (i + 1) j) ∷ name (wire_of bit.put) ∷ []) (name (moved s i j)) move ∷ [] ≡ cells_driving q name (moved s i j)
      unfolding emitted
      moves_on i below =
          let here : i < q.capacity s = omega (arith, below, is.capacity) in
          let two : i + 2 ≡ suc (suc i) = omega arith in
          ap (λ (n : ℕ). Names (name (fire n) ∷ name (level s (i + 1)) ∷ name (place s i j) ∷ name (level s (i + 2)) ∷ name (place s (i + 1) j) ∷ name (wire_of bit.put) ∷ []) (name (moved s i j)) move ∷ []) (sym is.drainer)
          ∙ ap (λ (n : ℕ). Names (name (fire (q.drainer s)) ∷ name (level s n) ∷ name (place s i j) ∷ name (level s (i + 2)) ∷ name (place s n j) ∷ name (wire_of bit.put) ∷ []) (name (moved s i j)) move ∷ []) (add-one i)
          ∙ ap (λ (n : ℕ). Names (name (fire (q.drainer s)) ∷ name (level s (suc i)) ∷ name (place s i j) ∷ name (level s n) ∷ name (place s (suc i) j) ∷ name (wire_of bit.put) ∷ []) (name (moved s i j)) move ∷ []) two
          ∙ ap (λ (w : Wire). Names (name (fire (q.drainer s)) ∷ name (level s (suc i)) ∷ name (place s i j) ∷ name (level s (suc (suc i))) ∷ name (place s (suc i) j) ∷ name w ∷ []) (name (moved s i j)) move ∷ []) (sym its.1)
          ∙ sym (ap (λ (b : Bool). moved_by i b (nat_lt i (q.capacity s))) bit_range ∙ ap (moved_by i true) (lt-ltb i (q.capacity s) here))
