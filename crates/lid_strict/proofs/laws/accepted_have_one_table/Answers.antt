use Rattle.lid_check.proofs.Sound.{judged_of}
use Rattle.lid_strict.proofs.Accepted.{driven_of, table_of, one_table_of}
use Rattle.lid_strict.proofs.laws.accepted_have_one_table.Goals as goal

pub returns : goal.returns
returns c = record {
  some = λ d formed accepted. table_of d (judged_of d formed accepted.models) accepted.loops;
  one = λ d formed accepted. one_table_of d (judged_of d formed accepted.models) accepted.loops;
  driven = λ d formed accepted. driven_of d (judged_of d formed accepted.models);
}
