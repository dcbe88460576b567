use Rattle.lid_check_hierarchy.proofs.survey.survey_in_order.Goals as goal

pub invariant_of-result : goal.invariant_of-result
invariant_of-result c = record {
  known = c.requires.known;
  flat = c.requires.flat;
  ordered = c.requires.order;
  names = c.in-Ok.ensures;
}
