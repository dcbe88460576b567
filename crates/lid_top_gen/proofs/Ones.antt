-- The output rows of a run are few and narrow, and their bits are counted as they come.
use Rattle.std.proofs.Common.{◌≡◌, ℕ, zero, suc, ◌+◌, ◌*◌, ◌≤◌, if◌then◌else◌, Bool, true, false, List, [], ◌∷◌, length, sym, ◌∙◌, ap, arith}
use Rattle.std.specs.Prelude.{Some, None}
use Rattle.std.specs.List.{sum_by}
use Rattle.std.proofs.lemmas.List.Sums.{sum_by-cons, sum_by_push}
use Rattle.lid_base.specs.Each.{from_each}
use Rattle.lid_base.proofs.Each.{each_one_more}
use Rattle.lid_system.specs.Streams.{output_row}
use Rattle.lid_clock.specs.Lives.{Life, IsLife, IsLast, fired_after, sink}
use Rattle.lid_clock.specs.Clocks.{rows_after}
use Rattle.lid_clock.proofs.FreeLives.{sinks_few}
use Rattle.lid_clock.proofs.Kept.{given_some, given_none}
use Rattle.lid_clock_flat.proofs.Laid.{none_fired}
use Rattle.lid_top_script.specs.Generated.{ones_of}

-- how many bits of a row are 1
abbrev ones_in : List Bool → ℕ
ones_in row = sum_by (λ bit. if bit then 1 else 0) row

one_at_most : (bit : Bool) → (if bit then 1 else 0) ≤ 1
one_at_most true = omega arith
one_at_most false = omega arith

few_in : (row : List Bool) → ones_in row ≤ length row
few_in [] = omega arith
few_in (bit ∷ row) = omega (arith, sum_by-cons (λ bit. if bit then 1 else 0) bit row, one_at_most bit, few_in row)

-- of one row more
ones_more : (f : ℕ → List Bool) (n : ℕ) → ones_of (from_each f 0 (n + 1)) ≡ ones_of (from_each f 0 n) + ones_in (f n)
ones_more f n = ap ones_of (each_one_more f n) ∙ sum_by_push ones_in (from_each f 0 n) (f n)

few_ones : (f : ℕ → List Bool) → ((t : ℕ) → length (f t) ≤ 4) → (n : ℕ) → ones_of (from_each f 0 n) ≤ 4 * n
few_ones f narrow zero = omega arith
few_ones f narrow (suc n) =
    let number : n + 1 ≡ suc n = omega arith in
    let more : ones_of (from_each f 0 (suc n)) ≡ ones_of (from_each f 0 n) + ones_in (f n) = ap (λ (m : ℕ). ones_of (from_each f 0 m)) (sym number) ∙ ones_more f n in
    omega (arith, more, few_in (f n), narrow n, few_ones f narrow n)

module _ (l : Life) (rules : IsLife l) where
  -- few bits are counted
  pub ones_few : ((t : ℕ) → length (output_row l.setup.system l.setup.table t) ≤ 4) → (k : ℕ) → ones_of (rows_after l k) ≤ 4000000
  ones_few narrow k =
      let few : length l.setup.input ≤ 1000000 = rules.few in
      omega (arith, few_ones (output_row l.setup.system l.setup.table) narrow (fired_after l k (sink l)), sinks_few l rules k, few)

  -- where the sink fired in the last cycle, those of its row come to them
  pub ones_on : (k : ℕ) (row : List Bool) → IsLast l (suc k) (Some row) → ones_of (rows_after l (suc k)) ≡ ones_of (rows_after l k) + ones_in row
  ones_on k row last =
      let gives = given_some l rules k row last in
      ap (λ (n : ℕ). ones_of (from_each (output_row l.setup.system l.setup.table) 0 n)) gives.more
      ∙ ones_more (output_row l.setup.system l.setup.table) (fired_after l k (sink l))
      ∙ ap (λ (r : List Bool). ones_of (rows_after l k) + ones_in r) (sym gives.is)

  -- and else they stay
  pub ones_still : (k : ℕ) → IsLast l (suc k) None → ones_of (rows_after l (suc k)) ≡ ones_of (rows_after l k)
  ones_still k last = ap (λ (n : ℕ). ones_of (from_each (output_row l.setup.system l.setup.table) 0 n)) (given_none l rules k last)

-- before the first cycle there are none
pub ones_none : (l : Life) → 0 ≡ ones_of (rows_after l 0)
ones_none l = ap (λ (n : ℕ). ones_of (from_each (output_row l.setup.system l.setup.table) 0 n)) (sym (none_fired l (sink l)))
