use Rattle.lid_check.proofs.Exclusive.{refusal_apart, refusal_one}
use Rattle.lid_net.proofs.Once.{graph_one}
use Rattle.lid_top.proofs.Endings.{told_job_ends_once}
use Rattle.lid_top.proofs.laws.a_told_job_ends_in_one_way.Goals as goal

pub returns : goal.returns
returns c = told_job_ends_once refusal_apart refusal_one graph_one
