use Rattle.std.proofs.Common.{◌≤◌, get_or, arith}
use Rattle.std.proofs.lemmas.Option.{slice_get_within}
use Rattle.lid_strict_widths.proofs.Standing.{own_exact, reads_more}
use Rattle.lid_strict_widths.proofs.ordering.reads_past.Goals as goal

pub loop-j-preserved : goal.loop-j-preserved
loop-j-preserved c = reads_more c.args.reads.now c.args.steps.now c.args.last.now c.loop-j.j (let h = c.loop-j-test.true in omega arith) c.loop-j.invariant (λ s is. own_exact (λ k. get_or c.args.last.now k 0 ≤ c.loop-j.j) c.args.reads.now c.args.steps.now c.loop-j.j s is (c.are_past.ensures c.if-not-are_past.false))

pub returns : goal.returns
returns c is j s here = c.loop-j.invariant j s (let within = slice_get_within c.args.steps.now j s here in let past = c.loop-j-test.false in omega arith) here
