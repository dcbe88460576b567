-- A flat run that stalls hold makes a cycle.
use Rattle.std.proofs.Common.{◌≡◌, ◌⊎◌, inl, inr, ℕ, suc, ◌+◌, ◌<◌, ◌≤◌, ◌||◌, cond, slice_get, sym, ◌∙◌, ap, subst, add-one, arith}
use Rattle.std.proofs.lemmas.Bool.{cases_lt}
use Rattle.lid_clock.specs.Lives.{Life, IsBelow}
use Rattle.lid_stall.specs.Places.{due_of, next_place, Divides}
use Rattle.lid_stall.proofs.Walking.{divides_on, counted_moves}
use Rattle.lid_stall.proofs.Delays.{counts_on}
use Rattle.lid_clock_flat.specs.declared.run.FlatRun.{FlatRun}
use Rattle.lid_clock_flat.specs.declared.clock.FlatClock.{FlatClock}
use Rattle.lid_clock_flat.specs.Runs.{FlatRan}
use Rattle.lid_clock_flat.specs.Clocks.{RanFlat}

pub cycled : (l : Life) (k g : ℕ) (h : FlatClock) → RanFlat l k g h → IsBelow l k → (run : FlatRun) → FlatRan l (suc k) g run → (next counted : ℕ)
    → next ≡ next_place (slice_get h.stalls h.next) h.next h.made
    → counted ≡ cond ((due_of (slice_get h.stalls h.next) h.made).source || (due_of (slice_get h.stalls h.next) h.made).sink) 1 0
    → RanFlat l (suc k) g (record { run = run; stalls = h.stalls; next = next; made = h.made + 1; stalled = h.stalled + counted })
cycled l k g h held below run ran next counted moves counts = record {
  ran = ran;
  by = held.by;
  ascend = held.ascend;
  at = subst (λ (place : ℕ). Divides h.stalls place (suc k)) (sym moved) (divides_on h.stalls h.next k held.ascend held.at);
  made_is = ap (λ (n : ℕ). n + 1) held.made_is ∙ add-one k;
  stalled_is = omega (arith, held.stalled_is, counted_is, counts_on l ran.rules h.stalls held.by h.next k held.ascend held.at);
  few = omega (arith, held.few, counted_is, moved, counted_moves (slice_get h.stalls h.next) h.next k);
  needed = λ j less. by_order j less (cases_lt j k);
}
  where
    moved : next ≡ next_place (slice_get h.stalls h.next) h.next k
    moved = moves ∙ ap (λ (n : ℕ). next_place (slice_get h.stalls h.next) h.next n) held.made_is

    counted_is : counted ≡ cond ((due_of (slice_get h.stalls h.next) k).source || (due_of (slice_get h.stalls h.next) k).sink) 1 0
    counted_is = counts ∙ ap (λ (n : ℕ). cond ((due_of (slice_get h.stalls h.next) n).source || (due_of (slice_get h.stalls h.next) n).sink) 1 0) held.made_is

    by_order : (j : ℕ) → j < suc k → (j < k) ⊎ (k ≤ j) → IsBelow l j
    by_order j less (inl before) = held.needed j before
    by_order j less (inr past) = let last : k ≡ j = omega arith in subst (IsBelow l) last below
