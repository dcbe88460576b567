use Rattle.lid_emit_laws.proofs.Following.{flats_follow}
use Rattle.lid_emit_laws.proofs.Facing.{runs_as}
use Rattle.lid_emit_laws.proofs.laws.emitted_designs_run.Goals as goal

pub returns : goal.returns
returns c = record {
  flats = λ d s n formed accepted of well flats. flats_follow d s n (c.accepted_have_one_table.ensures.some d formed accepted) of well flats;
  runs = λ d s p n name root formed accepted of well fits nets flats naming ports rows b strict. runs_as d s p n name root (c.accepted_have_one_table.ensures.some d formed accepted) of well fits nets flats naming ports rows b strict;
}
