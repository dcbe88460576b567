use Rattle.std.proofs.Common.{◌+◌, sym, subst}
use Rattle.std.specs.List.{AllByRecursion}
use Rattle.lid_blif.specs.Words.{is_inner}
use Rattle.lid_blif.specs.Designs.{IsNarrow}
use Rattle.lid_blif.proofs.Cubes.{leading_all, lines_first, lines_after}
use Rattle.lid_blif.proofs.models.models_of.Goals as goal

pub model_of-requires : goal.model_of-requires
model_of-requires c =
    subst (AllByRecursion IsNarrow) (sym c.leading_inner-body.ensures)
    (leading_all is_inner IsNarrow _ (lines_first IsNarrow _ _ (lines_after IsNarrow (c.loop-at.at + 1) c.args.lines.now c.requires)))
