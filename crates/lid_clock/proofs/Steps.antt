-- A run is given its next row, and makes a cycle.
use Rattle.std.proofs.Common.{◌≡◌, ◌↔◌, ℕ, suc, ◌+◌, ◌<◌, ◌≤◌, ◌⊎◌, inl, inr, Bool, true, List, length, get_or, Some, slice_get, refl, ◌∙◌, ap, subst, arith}
use Rattle.std.proofs.lemmas.Bool.{cases_lt}
use Rattle.std.proofs.lemmas.Option.{slice_get_read}
use Rattle.lid_base.proofs.Lists.{all_at}
use Rattle.lid_clock.specs.declared.stream.ClockStream.{ClockStream}
use Rattle.lid_clock.specs.Lives.{Life, NeedsRow, IsBelow, HoldsNobody}
use Rattle.lid_shell_laws.specs.Setups.{IsInputRow}
use Rattle.lid_clock.specs.Ran.{Ran}
use Rattle.lid_clock.specs.declared.clocked.Clocked.{Clocked}
use Rattle.lid_clock.specs.Clocks.{IsFreeLife, Goes}

-- the row that is lacking is one of the rows at hand
module _ (l : Life) (rows : List (List Bool)) (free : IsFreeLife l rows) (k g : ℕ) (needs : NeedsRow l k g) where
  pub row_there : g < length rows
  row_there = omega (arith, needs.goes_on, needs.lacks, ap length free.input)

  pub row_next : (row : List Bool) → row ≡ get_or rows g row → slice_get l.setup.input g ≡ Some row
  row_next row is = ap (λ (xs : List (List Bool)). slice_get xs g) free.input ∙ slice_get_read rows (length rows) g row refl row_there is

  pub row_wide : (row : List Bool) → row ≡ get_or rows g row → IsInputRow l.setup.system row
  row_wide row is = all_at (IsInputRow l.setup.system) l.setup.input g row free.rules.wide (row_next row is)

-- and once it is given none is lacking
pub fed : (l : Life) (k g : ℕ) → NeedsRow l k g → NeedsRow l k (g + 1) → ⊥
fed l k g needs again = omega (arith, needs.lacks, again.lacks)

-- a run whose stream made a cycle that was needed
cycled : (l : Life) (k : ℕ) (x : Clocked) (stream : ClockStream)
    → Goes l k k x → IsBelow l k → Ran l (suc k) x.given stream
    → Goes l k (suc k) (record { stream = stream; input = x.input; given = x.given; outs = x.outs; done = x.done; made = x.made })
cycled l k x stream goes below ran = record {
  free = goes.free;
  ran = ran;
  has = goes.has;
  made = goes.made;
  needed = λ j less. by_order j less (cases_lt j k);
}
  where
    by_order : (j : ℕ) → j < suc k → (j < k) ⊎ (k ≤ j) → IsBelow l j
    by_order j less (inl before) = goes.needed j before
    by_order j less (inr past) = let last : k ≡ j = omega arith in subst (IsBelow l) last below

-- a run that is ready, whose stream then makes a cycle
pub one_cycled : (l : Life) (k : ℕ) (x : Clocked) (stream : ClockStream) (did : Bool) → Goes l k k x → IsBelow l k
    → ((m : Life) (j g : ℕ) → Ran m j g x.stream → (did ≡ true) ↔ IsBelow m j)
    → ((m : Life) (j g : ℕ) → Ran m j g x.stream → HoldsNobody m j → did ≡ true → Ran m (suc j) g stream)
    → Goes l k (suc k) (record { stream = stream; input = x.input; given = x.given; outs = x.outs; done = x.done; made = x.made })
one_cycled l k x stream did goes below made ran = cycled l k x stream goes below (ran l k x.given goes.ran (goes.free.nobody k) ((made l k x.given goes.ran).1 below))
