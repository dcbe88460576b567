use Rattle.lid_system.proofs.Points.{first_node, last_node, inner_node}
use Rattle.lid_system.proofs.laws.shells_stand_between_source_and_sink.Goals as goal

pub returns-clause-first : goal.returns-clause-first
returns-clause-first c = first_node

pub returns-clause-last : goal.returns-clause-last
returns-clause-last c = last_node

pub returns-clause-between : goal.returns-clause-between
returns-clause-between c s i well after before = inner_node s well i after before
