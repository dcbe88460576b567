use Rattle.std.proofs.Common.{sym, subst}
use Rattle.lid_rate.specs.Rates.{AreLabels}
use Rattle.lid_size_forward.proofs.forward.forward_ratios.Goals as goal

pub ratios_by-requires-clause-labels : goal.ratios_by-requires-clause-labels
ratios_by-requires-clause-labels c = subst (AreLabels c.args.graph.now) (sym c.as_slice.ensures) (record { count = c.in_ok-least.ensures.length; labels = c.in_ok-least.ensures.least })
