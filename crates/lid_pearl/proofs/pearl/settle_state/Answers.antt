use Rattle.std.proofs.Common.{[], ℕ, List, map, ◌∙◌, ap, subst}
use Rattle.lid_base.proofs.Lists.{among_left}
use Rattle.lid_strict_engine.specs.Programs.{program_covers}
use Rattle.lid_strict_engine.specs.Rows.{AreRightAt, known_after}
use Rattle.lid_pearl.proofs.pearl.settle_state.Goals as goal

pub returns-clause-settled : goal.returns-clause-settled
returns-clause-settled c latches is f row given =
    let outs = c.args.outs.now in
    subst (λ (ks : List ℕ). AreRightAt f (known_after ks (program_covers c.args.early.now.program)) c.settle_by_width.new.bits) is
    (c.settle_by_width.ensures.bits f outs row c.requires.reads
    (λ k among. c.put_bits.ensures.bits f [] (ap (map f) is ∙ given) (λ k none. absurd none) k (among_left k outs [] among)))
