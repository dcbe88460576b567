use Rattle.std.proofs.Common.{◌∷◌, ◌++◌, [], ℕ, List, sym, ◌∙◌, ap}
use Rattle.lid_base.proofs.Each.{each_one_more}
use Rattle.lid_strict_widths.proofs.ordering.numbers_below.Goals as goal

pub loop-number-preserved : goal.loop-number-preserved
loop-number-preserved c = c.in_ok-push.ensures.items ∙ ap (λ (ks : List ℕ). ks ++ c.loop-number.number ∷ []) c.loop-number.invariant ∙ sym (each_one_more (λ k. k) c.loop-number.number)
