use Rattle.lid_pearl.proofs.Following.{shown_outs, next_state, next_outs}
use Rattle.lid_pearl.proofs.laws.pearls_follow_tables.Goals as goal

pub returns-clause-begins : goal.returns-clause-begins
returns-clause-begins c p b state = state

pub returns-clause-shows : goal.returns-clause-shows
returns-clause-shows c = shown_outs

pub returns-clause-goes : goal.returns-clause-goes
returns-clause-goes c = next_state

pub returns-clause-gives : goal.returns-clause-gives
returns-clause-gives c = next_outs
