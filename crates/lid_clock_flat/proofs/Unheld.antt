-- Lives in which nobody is held are held by no stall.
use Rattle.std.proofs.Common.{◌≡◌, ℕ, zero, suc, ◌+◌, ◌==◌, Bool, true, false, ◌<◌, ◌^◌, cond, [], refl, sym, ◌∙◌, arith}
use Rattle.lid_graph_laws.specs.Free.{held_below}
use Rattle.lid_clock.specs.Lives.{Life, IsLife, IsBelow, HoldsNobody, sink}
use Rattle.lid_stall_text.specs.Holds.{stalled_by, stall_hold}
use Rattle.lid_stall.specs.Runs.{IsHeldBy, stalled_after}
use Rattle.lid_stall.proofs.Delays.{stalled_is, few_cycles}

either : (b : Bool) → false ≡ cond b false false
either true = refl
either false = refl

-- no stall holds nobody
pub unheld : (sunk k v : ℕ) → false ≡ stall_hold [] sunk k v
unheld sunk k v = either (v == sunk) ∙ by (v == 0)
  where
    by : (b : Bool) → cond (v == sunk) false false ≡ cond b false (cond (v == sunk) false false)
    by true = sym (either (v == sunk))
    by false = refl

pub none_stalled : (k : ℕ) → stalled_by [] k ≡ 0
unfolding held_below
none_stalled zero = refl
none_stalled (suc k) = omega (arith, none_stalled k)

-- a life in which nobody is held is held by no stall
pub free_by : (l : Life) → ((j : ℕ) → HoldsNobody l j) → IsHeldBy l []
free_by l nobody k v = nobody k v ∙ unheld (sink l) k v

-- so no cycle of it is stalled
pub free_stalled : (l : Life) → IsLife l → ((j : ℕ) → HoldsNobody l j) → (k : ℕ) → 0 ≡ stalled_after l k
free_stalled l rules nobody k = sym (stalled_is l rules [] (free_by l nobody) k ∙ none_stalled k)

-- and its cycles can be counted
pub free_few : (l : Life) → IsLife l → ((j : ℕ) → HoldsNobody l j) → (k : ℕ) → IsBelow l k → k + 1 < 2 ^ 64
free_few l rules nobody k below = omega (arith, few_cycles l rules [] (free_by l nobody) k below, free_stalled l rules nobody k)
