use Rattle.std.proofs.Common.{List, Option, sym, subst, ◌∙◌}
use Rattle.lid_net.specs.declared.origin.Origin.{Origin}
use Rattle.lid_net.specs.Systems.{AreColumnsLed}
use Rattle.lid_base.proofs.Lists.{refilled}
use Rattle.lid_net.proofs.assembly.find_origins.Goals as goal

pub returns : goal.returns
returns c =
    subst (AreColumnsLed c.args.checked.now) (sym (refilled c.in_ok-origins.origins.len c.lead_columns.new.origins c.in_ok-origins.origins.items (c.lead_columns.ensures.size ∙ c.as_mut_slice.ensures.len))) c.lead_columns.ensures.led
