use Rattle.lid_stall.proofs.held.Held.last.Goals as goal

pub returns : goal.returns
returns c l k g held = c.last.ensures l k g held.ran
