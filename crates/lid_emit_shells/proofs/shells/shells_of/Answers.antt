use Rattle.std.proofs.Common.{length, ◌∙◌, ap}
use Rattle.lid_emit_shells.specs.Reading.{lasts_from}
use Rattle.lid_emit_shells.proofs.Lasting.{length_lasts}
use Rattle.lid_emit_shells.proofs.shells.shells_of.Goals as goal

pub all_shells-requires-clause-lasts : goal.all_shells-requires-clause-lasts
all_shells-requires-clause-lasts c =
    ap length (c.as_slice-2.ensures.value ∙ c.in_ok-lasts.ensures ∙ ap (lasts_from 0) c.as_slice.ensures) ∙ length_lasts 0 c.placed.inside.placement.now.relays ∙ c.placed.invariant.fits.counts
