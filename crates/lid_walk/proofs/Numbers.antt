-- How many actors a setup has, and which of them is the sink.
use Rattle.std.proofs.Common.{◌<◌, ◌≤◌, arith}
use Rattle.lid_stations.proofs.Spots.{fewer_relays}
use Rattle.lid_walk_machine.specs.Plans.{actors_of, sink}
use Rattle.lid_walk_machine.specs.Setups.{plan}
use Rattle.lid_shell_laws.specs.Setups.{Setup, IsSetup}

pub few_actors : (m : Setup) → IsSetup m → actors_of (plan m) ≤ 69634
few_actors m rules = omega (arith, fewer_relays m.placement.relays, rules.fits.rules.most, rules.system.most)

pub sink_there : (m : Setup) → IsSetup m → sink (plan m) < actors_of (plan m)
sink_there m rules = omega (arith, rules.system.least)
