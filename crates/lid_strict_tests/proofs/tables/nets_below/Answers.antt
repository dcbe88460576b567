use Rattle.std.proofs.Common.{◌∷◌, ◌++◌, [], ℕ, List, sym, ◌∙◌, ap}
use Rattle.lid_base.proofs.Each.{each_one_more}
use Rattle.lid_strict_tests.proofs.tables.nets_below.Goals as goal

pub loop-net-preserved : goal.loop-net-preserved
loop-net-preserved c = c.in_ok-push.ensures.items ∙ ap (λ (ks : List ℕ). ks ++ c.loop-net.net ∷ []) c.loop-net.invariant ∙ sym (each_one_more (λ k. k) c.loop-net.net)
