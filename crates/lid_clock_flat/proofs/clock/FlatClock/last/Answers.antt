use Rattle.lid_clock_flat.proofs.clock.FlatClock.last.Goals as goal

pub returns : goal.returns
returns c l k g held = c.last.ensures l k g held.ran
