-- The flat part of a pearl is no larger than the latches and covers of its models over all paths.
use Rattle.std.proofs.Common.{◌≡◌, ◌⊎◌, ℕ, ◌+◌, ◌≤◌, ◌==◌, Bool, true, false, cond, List, [], ◌∷◌, ◌++◌, length, map, inl, inr, refl, ap, arith}
use Rattle.std.specs.List.{flat_map, sum_by}
use Rattle.std.proofs.lemmas.List.{length-map}
use Rattle.std.proofs.lemmas.List.Sums.{sum_by-cons, sum_by-append}
use Rattle.lid_base.specs.Lists.{Among}
use Rattle.lid_design.specs.declared.Design.{Design}
use Rattle.lid_design.specs.declared.Flat.{Flat}
use Rattle.lid_design.specs.declared.FlatLatch.{FlatLatch}
use Rattle.lid_design.specs.declared.FlatCover.{FlatCover}
use Rattle.lid_design.specs.Network.{Driver, from_input, from_latch, from_cover, from_connection}
use Rattle.lid_design.specs.Columns.{Column, drivers}
use Rattle.lid_design.specs.Flat.{inputs_at, latch_at, cover_at, flat_drivers, IsFlat}
use Rattle.lid_check_rules.specs.Buffers.{passes_on}
use Rattle.lid_check_parts.specs.Standing.{StandsFor, IsInput}
use Rattle.lid_check.specs.Flats.{IsFlatOf}
use Rattle.lid_check_laws.proofs.Totals.{total_add, total_less, total_each}
use Rattle.lid_check_laws.proofs.Flats.{latches_below, covers_below}
use Rattle.lid_emit_meaning.specs.Sizes.{cells_size_in}
use Rattle.lid_emit_laws.proofs.Sums.{weight_at, spread_all}
use Rattle.lid_emit_laws.proofs.Columns.{driver_size, column_size, columns_few}
use Rattle.lid_base.proofs.Sums.{sum_one}

-- nothing for a cover that passes on its input, and else 1, its inputs and its rows
abbrev pub cover_size : FlatCover → ℕ
cover_size c = cond (passes_on c.cover) 0 (1 + length c.ins + length c.cover.cubes)

abbrev pub latch_size : FlatLatch → ℕ
latch_size l = 1

abbrev pub flat_size : Flat → ℕ
flat_size f = sum_by latch_size f.latches + sum_by cover_size f.covers

-- what drives a net, without what passes on
abbrev net_size : Driver ℕ → ℕ
net_size (from_input j) = 0
net_size (from_latch first k) = 1
net_size (from_cover cover ks) = cond (passes_on cover) 0 (1 + length ks + length cover.cubes)
net_size (from_connection k) = 0

inputs_none : (k j : ℕ) (nets : List ℕ) → sum_by net_size (inputs_at k j nets) ≡ 0
inputs_none k j [] = refl
inputs_none k j (net ∷ nets) = by (net == k) (inputs_none k (j + 1) nets)
  where
    by : (b : Bool) → sum_by net_size (inputs_at k (j + 1) nets) ≡ 0 → sum_by net_size (cond b (from_input j ∷ []) [] ++ inputs_at k (j + 1) nets) ≡ 0
    by true later = let e = sum_by-cons net_size (from_input j) (inputs_at k (j + 1) nets) in omega arith
    by false later = later

-- what items give of a net is as large as those of them that drive it
items_size : {A : Type 0} (out : A → ℕ) (driver : A → Driver ℕ) (k : ℕ) (xs : List A) → sum_by net_size (flat_map (λ x. cond (out x == k) (driver x ∷ []) []) xs) ≡ weight_at out (λ x. net_size (driver x)) xs k
items_size out driver k [] = refl
items_size {A} out driver k (x ∷ xs) =
    let whole = sum_by-cons (λ (y : A). cond (out y == k) (net_size (driver y)) 0) x xs in
    let here = by (out x == k) in
    let later = items_size out driver k xs in
    omega arith
  where
    by : (b : Bool) → sum_by net_size (cond b (driver x ∷ []) [] ++ flat_map (λ y. cond (out y == k) (driver y ∷ []) []) xs) ≡ cond b (net_size (driver x)) 0 + sum_by net_size (flat_map (λ y. cond (out y == k) (driver y ∷ []) []) xs)
    by true = sum_by-cons net_size (driver x) (flat_map (λ y. cond (out y == k) (driver y ∷ []) []) xs)
    by false = omega arith

abbrev latches_at : Flat → ℕ → ℕ
latches_at f k = weight_at (λ (l : FlatLatch). l.out) latch_size f.latches k

abbrev covers_at : Flat → ℕ → ℕ
covers_at f k = weight_at (λ (c : FlatCover). c.out) cover_size f.covers k

drivers_are : (f : Flat) (k : ℕ) → sum_by net_size (flat_drivers f k) ≡ latches_at f k + covers_at f k
unfolding flat_drivers
drivers_are f k =
    let a = sum_by-append net_size (inputs_at k 0 f.ins) (flat_map (latch_at k) f.latches ++ flat_map (cover_at k) f.covers) in
    let b = sum_by-append net_size (flat_map (latch_at k) f.latches) (flat_map (cover_at k) f.covers) in
    let i = inputs_none k 0 f.ins in
    let l : sum_by net_size (flat_map (latch_at k) f.latches) ≡ latches_at f k = items_size (λ (l : FlatLatch). l.out) (λ l. from_latch l.init l.input) k f.latches in
    let c : sum_by net_size (flat_map (cover_at k) f.covers) ≡ covers_at f k = items_size (λ (c : FlatCover). c.out) (λ c. from_cover c.cover c.ins) k f.covers in
    omega arith

-- no item of one at most is larger than the bound of each
few_of : {A : Type 0} (f : A → ℕ) (most : ℕ) (xs : List A) → length xs ≤ 1 → ((x : A) → Among x xs → f x ≤ most) → sum_by f xs ≤ most
few_of f most [] few each = omega arith
few_of f most (x ∷ []) few each = let whole = sum_by-cons f x [] in let one = each x (inl refl) in omega arith
few_of f most (x ∷ y ∷ xs) few each = absurd (omega arith)

module _ (d : Design) (pearl : ℕ) (f : Flat) (of : IsFlatOf d pearl f) (flat : IsFlat f) where
  stands_few : (k : ℕ) (s : Driver ℕ) (r : Driver Column) → Among r (drivers d (of.col k)) → StandsFor of.col s r → net_size s ≤ column_size d (of.col k)
  stands_few k s r there stands = by s stands
    where
      large : driver_size r ≤ column_size d (of.col k)
      large = sum_one (λ (s : Driver Column). driver_size s) (drivers d (of.col k)) r there

      by : (s : Driver ℕ) → StandsFor of.col s r → net_size s ≤ column_size d (of.col k)
      by (from_input j) none = absurd none
      by (from_connection j) none = absurd none
      by (from_latch first j) is =
          let e : driver_size r ≡ 1 = ap (λ (s : Driver Column). driver_size s) is in
          let h = large in
          omega arith
      by (from_cover cover ks) (inl is) =
          let e : driver_size r ≡ 1 + length (map of.col ks) + length cover.cubes = ap (λ (s : Driver Column). driver_size s) is in
          let long = length-map ks of.col in
          let h = large in
          let less = at_most (passes_on cover) (1 + length ks + length cover.cubes) in
          omega arith
        where
          at_most : (b : Bool) (n : ℕ) → cond b 0 n ≤ n
          at_most true n = omega arith
          at_most false n = omega arith
      by (from_cover cover ks) (inr passes) =
          let e : cond {A = ℕ} (passes_on cover) 0 (1 + length ks + length cover.cubes) ≡ 0 = ap (λ (b : Bool). cond {A = ℕ} b 0 (1 + length ks + length cover.cubes)) passes.2 in
          omega arith

  -- a driver of a net is no larger than those of its column
  driver_few : (k : ℕ) (s : Driver ℕ) → Among s (flat_drivers f k) → net_size s ≤ column_size d (of.col k)
  driver_few k s among = by s (of.each k s among)
    where
      by : (s : Driver ℕ) → IsInput s ⊎ ((r : Driver Column) × Among r (drivers d (of.col k)) × StandsFor of.col s r) → net_size s ≤ column_size d (of.col k)
      by s (inr stands) = stands_few k s stands.0 stands.1 stands.2
      by (from_input j) (inl input) = omega arith
      by (from_latch first j) (inl none) = absurd none
      by (from_cover cover ks) (inl none) = absurd none
      by (from_connection j) (inl none) = absurd none

  pub part_few : flat_size f ≤ cells_size_in d of.of.number
  part_few =
      let l = spread_all (λ (l : FlatLatch). l.out) latch_size f.nets f.latches (latches_below f flat) in
      let c = spread_all (λ (c : FlatCover). c.out) cover_size f.nets f.covers (covers_below f flat) in
      let both = total_add (latches_at f) (covers_at f) 0 f.nets in
      let less = total_less (λ k. latches_at f k + covers_at f k) (λ k. column_size d (of.col k)) 0 f.nets (λ k low high. let e = drivers_are f k in let few = few_of net_size (column_size d (of.col k)) (flat_drivers f k) (flat.once k) (driver_few k) in omega arith) in
      let each = total_each (column_size d) of.col 0 f.nets in
      let same = ap (sum_by (column_size d)) of.all in
      let few = columns_few d of.of.path of.of.number of.of.leads in
      omega arith
