use Rattle.lid_vcd_laws.proofs.Found.{dumps_show_traces}
use Rattle.lid_vcd_laws.proofs.laws.dumps_show_traces.Goals as goal

pub returns : goal.returns
returns c = dumps_show_traces
