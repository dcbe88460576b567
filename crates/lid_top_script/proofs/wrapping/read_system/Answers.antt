use Rattle.lid_top_script.proofs.Fetched.{file_then}
use Rattle.lid_top_script.proofs.wrapping.read_system.Goals as goal

pub returns-in-Ok-clause-fetched : goal.returns-in-Ok-clause-fetched
returns-in-Ok-clause-fetched g c = file_then c.build_design.result c.in-Ok.ensures.fetched
