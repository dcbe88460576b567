use Rattle.std.proofs.Common.{◌<◌, ℕ, List, sym, ◌∙◌, subst}
use Rattle.std.specs.List.{AllByRecursion}
use Rattle.lid_design.specs.Flat.{ReadEarlier}
use Rattle.lid_strict_engine.specs.Programs.{program_covers}
use Rattle.lid_pearl.specs.Inside.{held}
use Rattle.lid_pearl.proofs.pearl.first_row.Goals as goal

pub settle_state-requires-clause-below : goal.settle_state-requires-clause-below
settle_state-requires-clause-below c =
    subst (AllByRecursion (λ k. k < c.args.early.now.program.nets)) (sym (c.as_slice-outs.ensures.value ∙ c.requires.latches.held))
    (subst (λ (n : ℕ). AllByRecursion (λ k. k < n) (held c.args.shape.now.latches.all.items)) (sym c.requires.nets) c.requires.below)

pub settle_state-requires-clause-reads : goal.settle_state-requires-clause-reads
settle_state-requires-clause-reads c =
    subst (λ (ks : List ℕ). ReadEarlier ks (program_covers c.args.early.now.program)) (sym (c.as_slice-outs.ensures.value ∙ c.requires.latches.held)) c.requires.reads
