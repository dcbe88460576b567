use Rattle.std.proofs.Common.{◌≡◌, ◌+◌, ◌++◌, ◌∷◌, [], ℕ, List, sym, ◌∙◌, ap, arith}
use Rattle.lid_system_tests.specs.Registers.{nets_from}
use Rattle.lid_system_tests.proofs.Parts.{nets_more}
use Rattle.lid_system_tests.proofs.registers.nets_below.Goals as goal

pub loop-k-preserved : goal.loop-k-preserved
loop-k-preserved c =
    let k = c.loop-k.k in
    let place : k ≡ 0 + k = omega arith in
    c.in_ok-push.ensures.items
    ∙ ap (λ (ns : List ℕ). ns ++ k ∷ []) c.loop-k.invariant
    ∙ ap (λ (m : ℕ). nets_from 0 k ++ m ∷ []) place
    ∙ sym (nets_more 0 k)
