use Rattle.lid_graph_laws.proofs.Held.{holds_delay, holds_delay_by_their_cycles}
use Rattle.lid_graph_laws.proofs.laws.holds_delay.Goals as goal

pub returns : goal.returns
returns c = record { most = holds_delay; least = holds_delay_by_their_cycles }
