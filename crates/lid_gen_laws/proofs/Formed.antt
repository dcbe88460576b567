-- Generated designs are well formed, and how many cells and nets they have.
use Rattle.std.proofs.Common.{◌≡◌, ℕ, zero, suc, ◌+◌, ◌*◌, ◌<◌, ◌≤◌, length, sum_by, Option, refl, sym, ap, arith}
use Rattle.std.specs.Option.{option_map_or}
use Rattle.std.specs.List.{AllByRecursion, IsDistinct}
use Rattle.std.proofs.lemmas.List.Sums.{sum_by-cons}
use Rattle.lid_design.specs.declared.Inst.{Inst}
use Rattle.lid_design.specs.declared.Model.{Model}
use Rattle.lid_design.specs.Columns.{model_named}
use Rattle.lid_base.specs.Each.{from_each}
use Rattle.lid_design.specs.WellFormed.{IsWellFormedCell, IsWellFormed}
use Rattle.lid_gen.specs.Draws.{drawn, state_after}
use Rattle.lid_gen.specs.Designs.{count_places, kind_name, kind_cells, shell_at, buffer, buffer_at, unequal, kind_cover, root_model, made}
use Rattle.lid_cover.specs.Cover.{IsCover}
use Rattle.lid_check_laws.specs.Plain.{root_drivers, cells_below, nets_below}
use Rattle.lid_gen_laws.proofs.Names.{outs}
use Rattle.lid_gen_laws.proofs.Pearls.{kind_found}
use Rattle.lid_gen_laws.proofs.Roots.{kind_few, root_drives}
use native.Mathlib.Nat.{mul-suc}
use Rattle.lid_base.proofs.Each.{each_length, all_each}

pub buffer_formed : (j place : ℕ) → IsWellFormedCell (buffer j place)
buffer_formed j place = (record { width = omega arith; cubes = (record { in_range = omega arith; within = refl }, tt) }, refl)

pub unequal_formed : IsCover unequal
unequal_formed = record { width = omega arith; cubes = (record { in_range = omega arith; within = refl }, (record { in_range = omega arith; within = refl }, tt)) }

pub kind_formed : (k : ℕ) → k < 4 → IsCover (kind_cover k)
kind_formed zero few = unequal_formed
kind_formed (suc zero) few = record { width = omega arith; cubes = (record { in_range = omega arith; within = refl }, tt) }
kind_formed (suc (suc zero)) few = record { width = omega arith; cubes = (record { in_range = omega arith; within = refl }, (record { in_range = omega arith; within = refl }, tt)) }
kind_formed (suc (suc (suc zero))) few = record { width = omega arith; cubes = (record { in_range = omega arith; within = refl }, tt) }
kind_formed (suc (suc (suc (suc k)))) few = absurd (omega (arith, few))

pub kind_width : (k : ℕ) → k < 4 → (kind_cover k).inputs ≡ 2
kind_width zero few = refl
kind_width (suc zero) few = refl
kind_width (suc (suc zero)) few = refl
kind_width (suc (suc (suc zero))) few = refl
kind_width (suc (suc (suc (suc k)))) few = absurd (omega (arith, few))

cells_formed : (k : ℕ) → k < 4 → AllByRecursion IsWellFormedCell (kind_cells k)
cells_formed k few = ((kind_formed k few, kind_width k few), ((unequal_formed, refl), (tt, (tt, tt))))

module _ (s n : ℕ) where
  pub well_formed : n ≤ 2000 → IsWellFormed (made s n)
  unfolding IsDistinct
  well_formed few =
      let count = each_length (shell_at s n) 0 n in
      record {
        rooted = omega arith;
        few = omega arith;
        distinct = ((refl, (refl, (refl, (refl, tt)))), ((refl, (refl, (refl, tt))), ((refl, (refl, tt)), ((refl, tt), (tt, tt)))));
        insts = (omega (arith, count, few), (omega arith, (omega arith, (omega arith, (omega arith, tt)))));
        cells = (all_each IsWellFormedCell (buffer_at (state_after (2 * n) s) n) 0 4 (λ j. buffer_formed j (drawn (state_after (2 * n) s) j (count_places n))), (cells_formed 0 (omega arith), (cells_formed 1 (omega arith), (cells_formed 2 (omega arith), (cells_formed 3 (omega arith), tt)))));
      }

  kind_size : (k : ℕ) → k < 4 → (option_map_or (λ m. length m.cells) (model_named (made s n) (kind_name k)) 0 ≡ 4) × (option_map_or (λ m. length m.inputs + length m.cells) (model_named (made s n) (kind_name k)) 0 ≡ 6)
  kind_size k few =
      let found = kind_found s n k few in
      (ap (λ (o : Option Model). option_map_or (λ m. length m.cells) o 0) found, ap (λ (o : Option Model). option_map_or (λ m. length m.inputs + length m.cells) o 0) found)

  -- what is so much for each shell
  all_shells : (count : Inst → ℕ) (each : ℕ) → ((k : ℕ) → count (shell_at s n k) ≡ each) → (k m : ℕ) → sum_by count (from_each (shell_at s n) k m) ≡ each * m
  all_shells count each same k zero = (let none : each * 0 ≡ 0 = omega arith in sym none)
  all_shells count each same k (suc m) =
      let a = sum_by-cons count (shell_at s n k) (from_each (shell_at s n) (k + 1) m) in
      let b = same k in
      let c = all_shells count each same (k + 1) m in
      let more = mul-suc each m in
      omega (arith, a, b, c, more)

  pub all_cells : (k m : ℕ) → sum_by (cells_below (made s n)) (from_each (shell_at s n) k m) ≡ 4 * m
  all_cells = all_shells (cells_below (made s n)) 4 (λ k. (kind_size (drawn s (2 * k) 4) (kind_few s n k)).0)

  pub all_nets : (k m : ℕ) → sum_by (nets_below (made s n)) (from_each (shell_at s n) k m) ≡ 6 * m
  all_nets = all_shells (nets_below (made s n)) 6 (λ k. (kind_size (drawn s (2 * k) 4) (kind_few s n k)).1)

  outs_length : (k m : ℕ) → length (outs k m) ≡ 2 * m
  outs_length k zero = refl
  outs_length k (suc m) = let a = outs_length (k + 1) m in omega (arith, a)

  pub drivers_length : length (root_drivers (made s n) (root_model s n)) ≡ 8 + 2 * n
  drivers_length = let a = ap length (root_drives s n) in let b = outs_length 0 n in omega (arith, a, b)
