use Rattle.lid_top_script.proofs.Fetched.{file_then}
use Rattle.lid_top_script.proofs.wrapping.read_channels.Goals as goal

pub returns-in-Ok-clause-fetched : goal.returns-in-Ok-clause-fetched
returns-in-Ok-clause-fetched g c = file_then c.graph_design.result c.in-Ok.ensures.fetched
