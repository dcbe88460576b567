-- The flat part of a pearl of an accepted design has no more nets and cells than the design may have.
use Rattle.std.proofs.Common.{◌≡◌, ◌⊎◌, ℕ, zero, suc, ◌+◌, ◌≤◌, ◌==◌, ◌&&◌, not, Bool, true, false, cond, nat_lt, min, List, [], ◌∷◌, ◌++◌, length, filter, Some, None, inl, inr, refl, sym, ◌∙◌, ap, subst, arith}
use Rattle.std.specs.List.{AllByRecursion, count_by, flat_map, sum_by}
use Rattle.std.proofs.lemmas.Bool.{eqb-true, ltb-false}
use Rattle.std.proofs.lemmas.List.{length-append, length-map}
use Rattle.std.proofs.lemmas.List.Concat.{length-flat_map}
use Rattle.std.proofs.lemmas.List.Sums.{sum_by-cons, sum_by-append, length-filter}
use Rattle.lid_base.specs.Lists.{Among}
use Rattle.lid_base.specs.declared.which.Which.TheVariants.{RootInsts, Depth, Cells}
use Rattle.lid_base.proofs.Lists.{among_left, among_right, among_flat, filter_among}
use Rattle.lid_cover.specs.Cover.{cover_value}
use Rattle.lid_design.specs.declared.Design.{Design}
use Rattle.lid_design.specs.declared.Flat.{Flat}
use Rattle.lid_design.specs.declared.FlatLatch.{FlatLatch}
use Rattle.lid_design.specs.declared.FlatCover.{FlatCover}
use Rattle.lid_design.specs.Network.{Driver, from_latch, from_cover}
use Rattle.lid_design.specs.Columns.{Column, column, drivers}
use Rattle.lid_design.specs.Models.{insts_of}
use Rattle.lid_design.specs.Elaboration.{Instance, instances, model_nets, columns_at, columns, count_cells, count_nets, depth}
use Rattle.lid_design.specs.Flat.{inputs_at, latch_at, cover_at, flat_drivers, IsFlat}
use Rattle.lid_design.proofs.Parts.{latch_drives, cover_drives}
use Rattle.lid_check_elab.specs.Numbers.{columns_in}
use Rattle.lid_check_rules.specs.Buffers.{passes_on}
use Rattle.lid_check_parts.specs.Standing.{StandsFor, IsInput}
use Rattle.lid_check_rules.specs.declared.fault.CheckFault.TheVariants.{Limit}
use Rattle.lid_check_rules.specs.Conditions.{over, limits}
use Rattle.lid_check_drivers.proofs.Passing.{or_none, no_limit}
use Rattle.lid_check_drivers.proofs.Limits.{few_nets}
use Rattle.lid_check_parts.specs.declared.part.PearlPart.{PearlPart}
use Rattle.lid_check_parts.specs.PearlParts.{IsPearlPart}
use Rattle.lid_check_parts.proofs.Columns.{part_within}
use Rattle.lid_check.specs.Acceptance.{IsAccepted}
use Rattle.lid_check.specs.Flats.{IsFlatOf}
use Rattle.lid_check_laws.specs.Sizes.{count_logic}
use Rattle.lid_check_laws.proofs.Sets.{kept_all}
use Rattle.lid_check_laws.proofs.Totals.{total_add, total_less, total_each, total_counts}
use Rattle.lid_check_laws.proofs.Flats.{drivers_counted, latches_below, covers_below, columns_same, part_long}
use Rattle.lid_check_laws.proofs.Cells.{is_cell, cell_drivers, columns_few}
use Rattle.lid_base.proofs.Sums.{sum_same}

nets_counted : (d : Design) → length (columns d) ≡ count_nets d
unfolding columns count_nets
nets_counted d =
    length-flat_map (columns_at d) (instances d)
    ∙ sum_same (λ p. length (columns_at d p)) (λ (p : Instance). length (model_nets d p.model)) (instances d) (λ p. length-map (model_nets d p.model) (column p.path))

pub part_nets : (d : Design) (pearl : ℕ) (part : PearlPart) (f : Flat) → IsAccepted d → IsPearlPart d pearl part → IsFlatOf d pearl f → f.nets ≤ 1048576
part_nets d pearl part f accepted is flat =
    let long = part_long d pearl part f is flat in
    let within = part_within d pearl part is in
    let c = nets_counted d in
    let few = few_nets d (no_limit d accepted.models.ks accepted.models.after) in
    omega arith

cells_small : (d : Design) → IsAccepted d → count_cells d ≤ 262144
unfolding limits
cells_small d accepted =
    let none = no_limit d accepted.models.ks accepted.models.after in
    let a = or_none (over 4096 RootInsts (length (insts_of d d.root))) _ none in
    let b = or_none (over 64 Depth (depth d)) _ a.1 in
    let e = or_none (over 262144 Cells (count_cells d)) _ b.1 in
    below (nat_lt 262144 (count_cells d)) refl e.0
  where
    below : (b : Bool) → nat_lt 262144 (count_cells d) ≡ b → cond b (Some (Limit Cells (min (count_cells d) 4294967295))) None ≡ None → count_cells d ≤ 262144
    below true e some = absurd (let f : Some (Limit Cells (min (count_cells d) 4294967295)) ≡ None = some in cc)
    below false e none = ltb-false 262144 (count_cells d) e

kept_few : {A : Type 0} (p q : A → Bool) (xs : List A) → count_by q (filter p xs) ≤ count_by q xs
kept_few p q [] = omega arith
kept_few {A} p q (x ∷ xs) = let e = sum_by-cons (λ y. cond {A = ℕ} (q y) 1 0) x xs in let f = by (p x) in let g = kept_few p q xs in omega arith
  where
    by : (b : Bool) → count_by q (cond b (x ∷ filter p xs) (filter p xs)) ≤ cond (q x) 1 0 + count_by q (filter p xs)
    by true = let e = sum_by-cons (λ (y : A). cond {A = ℕ} (q y) 1 0) x (filter p xs) in omega arith
    by false = omega arith

some_counted : {A : Type 0} (p : A → Bool) (xs : List A) → 1 ≤ count_by p xs → (x : A) × Among x xs × (p x ≡ true)
some_counted p [] some = absurd (omega arith)
some_counted {A} p (x ∷ xs) some = by (p x) refl (λ later. some_counted p xs later)
  where
    by : (b : Bool) → p x ≡ b → (1 ≤ count_by p xs → (y : A) × Among y xs × (p y ≡ true)) → (y : A) × Among y (x ∷ xs) × (p y ≡ true)
    by true e next = (x, inl refl, e)
    by false e next =
        let split = sum_by-cons (λ y. cond {A = ℕ} (p y) 1 0) x xs in
        let none : cond {A = ℕ} (p x) 1 0 ≡ 0 = ap (λ (b : Bool). cond {A = ℕ} b 1 0) e in
        let found = next (omega arith) in
        (found.0, inr found.1, found.2)

counted_some : {A : Type 0} (p : A → Bool) (xs : List A) (x : A) → Among x xs → p x ≡ true → 1 ≤ count_by p xs
counted_some p [] x none passes = absurd none
counted_some p (y ∷ ys) x (inl same) passes =
    let split = sum_by-cons (λ z. cond {A = ℕ} (p z) 1 0) y ys in
    let one : cond {A = ℕ} (p y) 1 0 ≡ 1 = ap (λ (b : Bool). cond {A = ℕ} b 1 0) (ap p (sym same) ∙ passes) in
    omega arith
counted_some p (y ∷ ys) x (inr later) passes =
    let split = sum_by-cons (λ z. cond {A = ℕ} (p z) 1 0) y ys in
    let some = counted_some p ys x later passes in
    omega arith

module _ (d : Design) (pearl : ℕ) (part : PearlPart) (f : Flat) (accepted : IsAccepted d) (is : IsPearlPart d pearl part) (of : IsFlatOf d pearl f) (flat : IsFlat f) where
  latch_at_net : (k : ℕ) (l : FlatLatch) → Among l f.latches → (l.out == k) ≡ true → Among (from_latch l.init l.input) (flat_drivers f k)
  latch_at_net k l among here = subst (λ (n : ℕ). Among (from_latch l.init l.input) (flat_drivers f n)) (eqb-true l.out k here) (latch_drives f l among)

  cover_at_net : (k : ℕ) (c : FlatCover) → Among c f.covers → (c.out == k) ≡ true → Among (from_cover c.cover c.ins) (flat_drivers f k)
  cover_at_net k c among here = subst (λ (n : ℕ). Among (from_cover c.cover c.ins) (flat_drivers f n)) (eqb-true c.out k here) (cover_drives f c among)

  some_cell : (k : ℕ) (r : Driver Column) → Among r (drivers d (of.col k)) → is_cell r ≡ true → 1 ≤ cell_drivers d (of.col k)
  some_cell k r among cell = counted_some is_cell (drivers d (of.col k)) r among cell

  latch_stands : (k : ℕ) (l : FlatLatch) → Among l f.latches → (l.out == k) ≡ true → 1 ≤ cell_drivers d (of.col k)
  latch_stands k l among here = by (of.each k (from_latch l.init l.input) (latch_at_net k l among here))
    where
      by : IsInput {C = ℕ} (from_latch l.init l.input) ⊎ ((r : Driver Column) × Among r (drivers d (of.col k)) × StandsFor of.col (from_latch l.init l.input) r) → 1 ≤ cell_drivers d (of.col k)
      by (inl none) = absurd none
      by (inr stands) = some_cell k stands.0 stands.1 (ap is_cell stands.2)

  cover_stands : (k : ℕ) (c : FlatCover) → Among c f.covers → (c.out == k) ≡ true → not (passes_on c.cover) ≡ true → 1 ≤ cell_drivers d (of.col k)
  cover_stands k c among here logic = by (of.each k (from_cover c.cover c.ins) (cover_at_net k c among here))
    where
      drives : (r : Driver Column) → Among r (drivers d (of.col k)) → StandsFor of.col (from_cover c.cover c.ins) r → 1 ≤ cell_drivers d (of.col k)
      drives r there (inl cover) = some_cell k r there (ap is_cell cover)
      drives r there (inr passes) = absurd (let x : false ≡ true = sym (ap not passes.2) ∙ logic in cc)

      by : IsInput {C = ℕ} (from_cover c.cover c.ins) ⊎ ((r : Driver Column) × Among r (drivers d (of.col k)) × StandsFor of.col (from_cover c.cover c.ins) r) → 1 ≤ cell_drivers d (of.col k)
      by (inl none) = absurd none
      by (inr stands) = drives stands.0 stands.1 stands.2

  -- the latches and covers that drive a net are no more than those that drive its column
  net_few : (k : ℕ) → count_by (λ l. l.out == k) f.latches + count_by (λ c. c.out == k) (filter (λ c. not (passes_on c.cover)) f.covers) ≤ cell_drivers d (of.col k)
  net_few k = by (count_by (λ l. l.out == k) f.latches) refl (count_by (λ c. c.out == k) (filter (λ c. not (passes_on c.cover)) f.covers)) refl
    where
      once : count_by (λ l. l.out == k) f.latches + count_by (λ c. c.out == k) (filter (λ c. not (passes_on c.cover)) f.covers) ≤ 1
      once =
          let a = flat.once k in
          let b = drivers_counted f k in
          let c = kept_few (λ c. not (passes_on c.cover)) (λ (c : FlatCover). c.out == k) f.covers in
          omega arith

      by : (l : ℕ) → count_by (λ l. l.out == k) f.latches ≡ l → (c : ℕ) → count_by (λ c. c.out == k) (filter (λ c. not (passes_on c.cover)) f.covers) ≡ c → l + c ≤ cell_drivers d (of.col k)
      by zero e zero g = omega arith
      by (suc l) e c g =
          let found = some_counted (λ (l : FlatLatch). l.out == k) f.latches (omega arith) in
          let some = latch_stands k found.0 found.1 found.2 in
          let h = once in
          omega arith
      by zero e (suc c) g =
          let found = some_counted (λ (c : FlatCover). c.out == k) (filter (λ c. not (passes_on c.cover)) f.covers) (omega arith) in
          let there = filter_among (λ c. not (passes_on c.cover)) found.0 f.covers found.1 in
          let some = cover_stands k found.0 there.0 found.2 there.1 in
          let h = once in
          omega arith

  pub part_cells : length f.latches + count_logic f.covers ≤ 262144
  part_cells =
      let l = total_counts (λ (l : FlatLatch). l.out) f.nets f.latches (latches_below f flat) in
      let c = total_counts (λ (c : FlatCover). c.out) f.nets (filter (λ c. not (passes_on c.cover)) f.covers) (kept_all _ (λ c. not (passes_on c.cover)) f.covers (covers_below f flat)) in
      let long = length-filter (λ c. not (passes_on c.cover)) f.covers in
      let both = total_add (λ k. count_by (λ (l : FlatLatch). l.out == k) f.latches) (λ k. count_by (λ (c : FlatCover). c.out == k) (filter (λ c. not (passes_on c.cover)) f.covers)) 0 f.nets in
      let less = total_less (λ k. count_by (λ (l : FlatLatch). l.out == k) f.latches + count_by (λ (c : FlatCover). c.out == k) (filter (λ c. not (passes_on c.cover)) f.covers)) (λ k. cell_drivers d (of.col k)) 0 f.nets (λ k low high. net_few k) in
      let each = total_each (cell_drivers d) of.col 0 f.nets in
      let same = ap (sum_by (cell_drivers d)) (columns_same d pearl is.of f of) in
      let whole = ap (sum_by (cell_drivers d)) is.stands.parts in
      let a = sum_by-append (cell_drivers d) is.stands.before (columns_in (length d.models) d is.of.path is.of.number ++ is.stands.after) in
      let b = sum_by-append (cell_drivers d) (columns_in (length d.models) d is.of.path is.of.number) is.stands.after in
      let few = columns_few d in
      let small = cells_small d accepted in
      omega arith
