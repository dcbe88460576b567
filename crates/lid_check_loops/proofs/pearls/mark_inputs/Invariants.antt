use Rattle.std.proofs.Common.{◌≡◌, ◌⊎◌, ◌↔◌, ℕ, true, take}
use Rattle.lid_check_digraph.specs.Graphs.{flag}
use Rattle.lid_check_loops.specs.Pearls.{IsInputOf}
use Rattle.lid_check_loops.proofs.pearls.mark_inputs.Given as goal

abbrev pub invariant-loop-pearl : goal.invariant-loop-pearl
invariant-loop-pearl l =
    (k : ℕ) → (flag l.marks k ≡ true) ↔ ((flag l.initial.marks k ≡ true) ⊎ IsInputOf l.survey (take l.pearl-index l.pearls) k)
