use Rattle.std.proofs.Common.{◌≡◌, length, take}
use Rattle.lid_check_models.proofs.Counting.{Counted}
use Rattle.lid_check_models.proofs.counts.count_each.Given as goal

abbrev pub invariant-loop-k : goal.invariant-loop-k
invariant-loop-k l = record {
  long : length l.counts.items ≡ length l.survey.models;
  done : Counted l.what l.survey (take l.k-index l.order) l.counts.items;
}
