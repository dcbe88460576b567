use Rattle.std.proofs.Common.{sym, ◌∙◌}
use Rattle.lid_check_elab.specs.Numbers.{size_of}
use Rattle.lid_check_elab.proofs.Counting.{get_within}
use Rattle.lid_check_elab.proofs.sizes.inst_size.Goals as goal

pub bounds-sizes-sub : goal.bounds-sizes-sub
bounds-sizes-sub c =
    get_within c.args.sizes.now c.in-Some.sub (size_of c.args.judged.now c.in-Some.sub) (c.requires.sizes c.args.inst c.in-Some.sub (sym c.model_of.ensures ∙ c.in-Some.is))
