use Rattle.lid_walk.proofs.Prefixing.{holds_prefix}
use Rattle.lid_walk.proofs.laws.stations_hold_prefixes.Goals as goal

pub returns : goal.returns
returns c m st w station p walks there = holds_prefix m st w station p walks there
