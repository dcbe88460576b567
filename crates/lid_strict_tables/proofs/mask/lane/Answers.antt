use Rattle.std.proofs.Common.{refl, arith}
use Rattle.lid_strict_tables.proofs.Masks.{set_lane}
use Rattle.lid_strict_tables.proofs.mask.lane.Goals as goal

pub returns-in-0 : goal.returns-in-0
returns-in-0 c i h = set_lane 12297829382473034410 0 c.args.input i refl c.in-0.is h

pub returns-in-1 : goal.returns-in-1
returns-in-1 c i h = set_lane 14757395258967641292 1 c.args.input i refl c.in-1.is h

pub returns-in-2 : goal.returns-in-2
returns-in-2 c i h = set_lane 17361641481138401520 2 c.args.input i refl c.in-2.is h

pub returns-in-3 : goal.returns-in-3
returns-in-3 c i h = set_lane 18374966859414961920 3 c.args.input i refl c.in-3.is h

pub returns-in-4 : goal.returns-in-4
returns-in-4 c i h = set_lane 18446462603027742720 4 c.args.input i refl c.in-4.is h

pub returns-in_default : goal.returns-in_default
returns-in_default c i h = set_lane 18446744069414584320 5 c.args.input i refl (omega (arith, c.requires, c.in_default)) h
