use Rattle.std.proofs.Common.{◌++◌, ◌∷◌, ◌+◌, [], ℕ, List, sym, ◌∙◌, ap}
use Rattle.lid_check_parts.proofs.Lists.{range_more}
use Rattle.lid_check_parts.proofs.flat.numbers_from.Goals as goal

pub loop-k-preserved : goal.loop-k-preserved
loop-k-preserved c =
    c.in_ok-push.ensures.items
    ∙ ap (λ (ks : List ℕ). ks ++ (c.args.first + c.loop-k.k) ∷ []) c.loop-k.invariant
    ∙ sym (range_more c.args.first c.loop-k.k)
