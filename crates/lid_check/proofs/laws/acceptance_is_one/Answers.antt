use Rattle.lid_check.proofs.Exclusive.{refusal_apart, refusal_one}
use Rattle.lid_check.proofs.laws.acceptance_is_one.Goals as goal

pub returns : goal.returns
returns c = record { apart = refusal_apart; one = refusal_one }
