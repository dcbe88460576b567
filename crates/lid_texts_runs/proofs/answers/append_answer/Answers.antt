use Rattle.lid_texts_runs.specs.Runs.{answer_text}
use Rattle.lid_texts_runs.proofs.answers.append_answer.Goals as goal

pub returns-in-Void-clause-ok : goal.returns-in-Void-clause-ok
unfolding answer_text
returns-in-Void-clause-ok c = rw c.in-Void.is c.append_hex_look.ensures.ok

pub returns-in-Stop-clause-ok : goal.returns-in-Stop-clause-ok
unfolding answer_text
returns-in-Stop-clause-ok c = rw c.in-Stop.is c.append_hex_look-in-Stop.ensures.ok
