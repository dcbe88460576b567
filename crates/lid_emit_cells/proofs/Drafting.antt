-- Drafts with more wires.
use Rattle.std.proofs.Common.{◌≡◌, ℕ, ◌+◌, ◌<◌, List, [], ◌∷◌, ◌++◌, length, take, get_or, flat_map, sym, ◌∙◌, ap, append_assoc}
use Rattle.std.proofs.lemmas.List.{append-nil, take_more}
use Rattle.std.proofs.lemmas.Grind.{flat_map-append}
use Rattle.lid_design.specs.declared.Cell.{Cell}
use Rattle.lid_base.specs.Each.{from_each}
use Rattle.lid_base.proofs.Each.{each_more}
use Rattle.lid_emit_circuit.specs.Wires.{Wire}
use Rattle.lid_emit_circuit.specs.Plans.{CircuitPlan}
use Rattle.lid_emit_names.specs.Named.{cells_driving}
use Rattle.lid_emit_cells.specs.Drafts.{Draft, name_on, with_cells, with_wires}

module _ (q : CircuitPlan) (old : Draft) where
  abbrev cells : List Wire → List Cell
  cells wires = flat_map (cells_driving q (name_on old)) wires

  pub no_wires : old ≡ with_wires q old []
  no_wires = ap (λ (all : List Cell). record old { cells = all }) (sym (append-nil old.cells))

  -- some wires, and then others
  pub more_wires : (now new : Draft) (first second : List Wire) → now ≡ with_wires q old first → new ≡ with_wires q now second → new ≡ with_wires q old (first ++ second)
  more_wires now new first second was is =
      is
      ∙ ap (λ (draft : Draft). with_wires q draft second) was
      ∙ ap (λ (all : List Cell). record old { cells = all }) (append_assoc old.cells (cells first) (cells second) ∙ ap (λ (all : List Cell). old.cells ++ all) (sym (flat_map-append (cells_driving q (name_on old)) first second)))

  -- a wire with one cell
  pub one_wire : (new : Draft) (wire : Wire) (cell : Cell) → new ≡ with_cells old (cell ∷ []) → cell ∷ [] ≡ cells_driving q (name_on old) wire → new ≡ with_wires q old (wire ∷ [])
  one_wire new wire cell is same = is ∙ ap (with_cells old) (same ∙ sym (append-nil (cells_driving q (name_on old) wire)))

  -- after some wires that of one more number; the wires of one more number
  pub next_wire : (first : List Wire) (f : ℕ → Wire) (k n m : ℕ) (now new : Draft) → m ≡ k + n → now ≡ with_wires q old (first ++ from_each f k n) → new ≡ with_wires q now (f m ∷ []) → new ≡ with_wires q old (first ++ from_each f k (n + 1))
  next_wire first f k n m now new number was is =
      more_wires now new (first ++ from_each f k n) (f m ∷ []) was is
      ∙ ap (with_wires q old) (append_assoc first (from_each f k n) (f m ∷ []) ∙ ap (λ (wires : List Wire). first ++ wires) (ap (λ (j : ℕ). from_each f k n ++ f j ∷ []) number ∙ sym (each_more f k n)))

  pub next_wires : (f : ℕ → List Wire) (k n m : ℕ) (now new : Draft) → m ≡ k + n → now ≡ with_wires q old (flat_map f (from_each (λ j. j) k n)) → new ≡ with_wires q now (f m) → new ≡ with_wires q old (flat_map f (from_each (λ j. j) k (n + 1)))
  next_wires f k n m now new number was is =
      more_wires now new (flat_map f (from_each (λ j. j) k n)) (f m) was is
      ∙ ap (with_wires q old) (ap (λ (wires : List Wire). flat_map f (from_each (λ j. j) k n) ++ wires) (ap f number ∙ sym (append-nil (f (k + n))))
      ∙ sym (flat_map-append f (from_each (λ j. j) k n) ((k + n) ∷ [])) ∙ ap (flat_map f) (sym (each_more (λ j. j) k n)))

  -- the wires of one more item
  pub next_item : {A : Type 0} (f : A → List Wire) (xs : List A) (i : ℕ) (d x : A) (first : List Wire) (now new : Draft) → i < length xs → x ≡ get_or xs i d
      → now ≡ with_wires q old (first ++ flat_map f (take i xs)) → new ≡ with_wires q now (f x) → new ≡ with_wires q old (first ++ flat_map f (take (i + 1) xs))
  next_item f xs i d x first now new below item was is =
      more_wires now new (first ++ flat_map f (take i xs)) (f x) was is
      ∙ ap (with_wires q old) (append_assoc first (flat_map f (take i xs)) (f x)
      ∙ ap (λ (wires : List Wire). first ++ wires) (ap (λ (wires : List Wire). flat_map f (take i xs) ++ wires) (ap f item ∙ sym (append-nil (f (get_or xs i d))))
      ∙ sym (flat_map-append f (take i xs) (get_or xs i d ∷ [])) ∙ ap (flat_map f) (sym (take_more xs i d below))))
