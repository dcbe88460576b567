use Rattle.lid_free_crew.proofs.Picking.{AreBackFrom}
use Rattle.std.specs.Prelude.{◌≡◌, vec_capacity}
use Rattle.lid_free_crew.proofs.gathering.take_back.Given as goal

abbrev pub invariant-loop-left : goal.invariant-loop-left
invariant-loop-left l = record {
  back : AreBackFrom l.left l.fn.many l.into.items l.fn.crew l.crew;
  room : vec_capacity l.into ≡ vec_capacity l.fn.into;
}

abbrev pub decreases-loop-left : goal.decreases-loop-left
decreases-loop-left l = l.left
