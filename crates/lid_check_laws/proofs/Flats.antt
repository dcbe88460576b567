-- The inputs, latches and covers of a flat part are as many as its nets.
use Rattle.std.proofs.Common.{◌≡◌, ℕ, zero, suc, ◌+◌, ◌*◌, ◌<◌, ◌≤◌, ◌==◌, Bool, true, false, cond, List, [], ◌∷◌, ◌++◌, length, map, refl, sym, ◌∙◌, ap, arith}
use Rattle.std.specs.List.{AllByRecursion, count_by, flat_map, sum_by, range_with_len}
use Rattle.std.proofs.lemmas.List.{length-append}
use Rattle.std.proofs.lemmas.List.Sums.{sum_by-cons}
use Rattle.std.proofs.lemmas.List.FromFn.{length-map-range_with_len}
use Rattle.lid_design.specs.declared.Design.{Design}
use Rattle.lid_design.specs.declared.Flat.{Flat}
use Rattle.lid_design.specs.declared.FlatLatch.{FlatLatch}
use Rattle.lid_design.specs.declared.FlatCover.{FlatCover}
use Rattle.lid_design.specs.Network.{Driver, from_input, from_latch, from_cover}
use Rattle.lid_design.specs.Models.{number_from}
use Rattle.lid_design.specs.Flat.{inputs_at, latch_at, cover_at, flat_drivers, IsFlatCover, IsFlat}
use Rattle.lid_check_elab.specs.Numbers.{columns_in}
use Rattle.lid_check_parts.specs.declared.part.PearlPart.{PearlPart}
use Rattle.lid_check_parts.specs.PearlParts.{IsPearl, IsPearlPart}
use Rattle.lid_check.specs.Flats.{IsFlatOf}
use Rattle.lid_check_laws.proofs.Totals.{total_add, total_less, total_one, total_counts}
use Rattle.lid_base.proofs.Alls.{all_weaker}
use Rattle.lid_base.proofs.Options.{same_some}

inputs_counted : (k j : ℕ) (nets : List ℕ) → length (inputs_at k j nets) ≡ count_by (λ n. n == k) nets
inputs_counted k j [] = refl
inputs_counted k j (net ∷ nets) =
    let split = sum_by-cons (λ n. cond (n == k) 1 0) net nets in
    let here = by (net == k) in
    let later = inputs_counted k (j + 1) nets in
    omega arith
  where
    by : (b : Bool) → length {A = Driver ℕ} (cond b (from_input j ∷ []) [] ++ inputs_at k (j + 1) nets) ≡ cond b 1 0 + length (inputs_at k (j + 1) nets)
    by true = omega arith
    by false = omega arith

-- what items give of a net is as long as those of them are many that drive it
items_counted : {A : Type 0} (out : A → ℕ) (driver : A → Driver ℕ) (k : ℕ) (xs : List A) → length (flat_map (λ x. cond (out x == k) (driver x ∷ []) []) xs) ≡ count_by (λ x. out x == k) xs
items_counted out driver k [] = refl
items_counted out driver k (x ∷ xs) =
    let split = sum_by-cons (λ y. cond (out y == k) 1 0) x xs in
    let here = by (out x == k) in
    let later = items_counted out driver k xs in
    omega arith
  where
    by : (b : Bool) → length {A = Driver ℕ} (cond b (driver x ∷ []) [] ++ flat_map (λ y. cond (out y == k) (driver y ∷ []) []) xs) ≡ cond b 1 0 + length (flat_map (λ y. cond (out y == k) (driver y ∷ []) []) xs)
    by true = omega arith
    by false = omega arith

pub latches_counted : (k : ℕ) (latches : List FlatLatch) → length (flat_map (latch_at k) latches) ≡ count_by (λ l. l.out == k) latches
latches_counted k latches = items_counted (λ (l : FlatLatch). l.out) (λ l. from_latch l.init l.input) k latches

pub covers_counted : (k : ℕ) (covers : List FlatCover) → length (flat_map (cover_at k) covers) ≡ count_by (λ c. c.out == k) covers
covers_counted k covers = items_counted (λ (c : FlatCover). c.out) (λ c. from_cover c.cover c.ins) k covers

pub drivers_counted : (f : Flat) (k : ℕ) → length (flat_drivers f k) ≡ count_by (λ n. n == k) f.ins + (count_by (λ l. l.out == k) f.latches + count_by (λ c. c.out == k) f.covers)
unfolding flat_drivers
drivers_counted f k =
    let a = length-append (inputs_at k 0 f.ins) (flat_map (latch_at k) f.latches ++ flat_map (cover_at k) f.covers) in
    let b = length-append (flat_map (latch_at k) f.latches) (flat_map (cover_at k) f.covers) in
    let i = inputs_counted k 0 f.ins in
    let l = latches_counted k f.latches in
    let e = covers_counted k f.covers in
    omega arith

pub latches_below : (f : Flat) → IsFlat f → AllByRecursion (λ (l : FlatLatch). l.out < f.nets) f.latches
latches_below f flat = all_weaker _ (λ (l : FlatLatch). l.out < f.nets) f.latches (λ l both. both.1) flat.below.latches

pub covers_below : (f : Flat) → IsFlat f → AllByRecursion (λ (c : FlatCover). c.out < f.nets) f.covers
covers_below f flat = all_weaker _ (λ (c : FlatCover). c.out < f.nets) f.covers (λ c both. both.1) flat.below.covers

pub all_driven : (f : Flat) → IsFlat f → length f.ins + length f.latches + length f.covers ≡ f.nets
all_driven f flat =
    let i = total_counts (λ (n : ℕ). n) f.nets f.ins flat.below.ins in
    let l = total_counts (λ (l : FlatLatch). l.out) f.nets f.latches (latches_below f flat) in
    let e = total_counts (λ (c : FlatCover). c.out) f.nets f.covers (covers_below f flat) in
    let inner = total_add (λ k. count_by (λ (l : FlatLatch). l.out == k) f.latches) (λ k. count_by (λ (c : FlatCover). c.out == k) f.covers) 0 f.nets in
    let outer = total_add (λ k. count_by (λ (n : ℕ). n == k) f.ins) (λ k. count_by (λ (l : FlatLatch). l.out == k) f.latches + count_by (λ (c : FlatCover). c.out == k) f.covers) 0 f.nets in
    let one = total_one 0 f.nets in
    let most = total_less (λ k. count_by (λ (n : ℕ). n == k) f.ins + (count_by (λ (l : FlatLatch). l.out == k) f.latches + count_by (λ (c : FlatCover). c.out == k) f.covers)) (λ k. 1) 0 f.nets (λ k low high. let h = flat.once k in let c = drivers_counted f k in omega arith) in
    let least = total_less (λ k. 1) (λ k. count_by (λ (n : ℕ). n == k) f.ins + (count_by (λ (l : FlatLatch). l.out == k) f.latches + count_by (λ (c : FlatCover). c.out == k) f.covers)) 0 f.nets (λ k low high. let h = flat.driven k (omega arith) in let c = drivers_counted f k in omega arith) in
    omega arith

-- the columns of a flat part are those of its pearl
pub columns_same : (d : Design) (pearl : ℕ) (is : IsPearl d pearl) (f : Flat) (flat : IsFlatOf d pearl f) → map flat.col (range_with_len 0 f.nets) ≡ columns_in (length d.models) d is.path is.number
columns_same d pearl is f flat =
    let path : flat.of.path ≡ is.path = same_some _ flat.of.path is.path flat.of.here is.here in
    let number : flat.of.number ≡ is.number = same_some _ flat.of.number is.number flat.of.leads (ap (number_from d d.root) path ∙ is.leads) in
    flat.all ∙ ap (λ (p : List ℕ). columns_in (length d.models) d p flat.of.number) path ∙ ap (columns_in (length d.models) d is.path) number

pub part_long : (d : Design) (pearl : ℕ) (part : PearlPart) (f : Flat) → IsPearlPart d pearl part → IsFlatOf d pearl f → f.nets ≡ part.nets
part_long d pearl part f is flat = sym (length-map-range_with_len flat.col 0 f.nets) ∙ ap length (columns_same d pearl is.of f flat) ∙ is.long

-- a cover has at most 64 inputs
sum_reads : (covers : List FlatCover) → AllByRecursion IsFlatCover covers → sum_by (λ (c : FlatCover). length c.ins) covers ≤ 64 * length covers
sum_reads [] all = omega arith
sum_reads (c ∷ covers) all =
    let split = sum_by-cons (λ (c : FlatCover). length c.ins) c covers in
    let width = all.0.0.width in
    let inputs = all.0.1 in
    let later = sum_reads covers all.1 in
    omega arith

pub few_reads : (f : Flat) → IsFlat f → sum_by (λ (c : FlatCover). length c.ins) f.covers ≤ 64 * f.nets
few_reads f flat = let reads = sum_reads f.covers flat.covers in let all = all_driven f flat in omega arith
