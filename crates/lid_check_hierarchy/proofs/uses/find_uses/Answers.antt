use Rattle.lid_check_hierarchy.proofs.uses.find_uses.Goals as goal

pub invariant_of-result : goal.invariant_of-result
invariant_of-result c = record {
  formed = c.requires;
  each = c.in_ok-numbers.ensures;
  marked = c.in_ok-reached.ensures.marks;
  reach = c.in_ok-reached.ensures.numbers;
}
