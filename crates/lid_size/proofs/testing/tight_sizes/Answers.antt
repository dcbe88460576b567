use Rattle.std.proofs.Common.{ℕ, ◌<◌, List, [], ◌∷◌, length, sym, ap, subst, arith}
use Rattle.std.proofs.lemmas.List.{length-append}
use Rattle.lid_size.specs.Choices.{followed}
use Rattle.lid_size.specs.Testing.{widened, AreWays, IsTightNext, AreTight}
use Rattle.lid_size.proofs.Lengthening.{first_ways_are, widened_next, ways_pushed, none_tight, tight_pushed}
use Rattle.lid_size.proofs.testing.tight_sizes.Goals as goal

pub loop-init : goal.loop-init
loop-init c = record {
  long = ap length c.new-done.ensures.items;
  tight = subst (AreTight c.args.graph.now c.args.count c.args.wants.now) (sym c.new-done.ensures.items) (none_tight c.args.graph.now c.args.count c.args.wants.now);
  ways = subst (AreWays c.args.graph.now c.args.count (widened c.args.count c.new-done.result.items)) (sym c.requires.ways) (first_ways_are c.args.graph.now c.args.count (widened c.args.count c.new-done.result.items));
}

pub is_next-requires-clause-ways : goal.is_next-requires-clause-ways
is_next-requires-clause-ways c =
    let few : length c.loop.done.items < c.args.count = omega (arith, c.loop.invariant.long, c.loop-test.true) in
    subst (λ (done : List ℕ). AreWays c.args.graph.now c.args.count (followed c.args.count done 16) c.loop.ways) (sym c.deref.ensures.value)
    (subst (λ (caps : List ℕ). AreWays c.args.graph.now c.args.count caps c.loop.ways) (widened_next c.args.count c.loop.done.items few) c.loop.invariant.ways)

pub loop-preserved : goal.loop-preserved
loop-preserved c =
    let few : length c.loop.done.items < c.args.count = omega (arith, c.loop.invariant.long, c.loop-test.true) in
    let capacity = c.propose_next.new.guess.next.capacity in
    let pushed = c.in_ok-push.ensures.items in
    let next = subst (λ (done : List ℕ). IsTightNext c.args.graph.now c.args.count c.args.wants.now done c.propose_next.new.guess.next.capacity) c.deref.ensures.value (c.is_next.ensures.next c.if-not-is_next.false) in
    let ways = subst (λ (done : List ℕ). AreWays c.args.graph.now c.args.count (followed c.args.count done 16) c.is_next.new.ways) c.deref.ensures.value c.is_next.ensures.ways in
    record {
      long = omega (arith, ap length pushed, length-append c.loop.done.items (capacity ∷ []), c.loop.invariant.long);
      tight = subst (AreTight c.args.graph.now c.args.count c.args.wants.now) (sym pushed) (tight_pushed c.args.graph.now c.args.count c.args.wants.now c.loop.done.items capacity c.loop.invariant.tight next);
      ways = subst (λ (done : List ℕ). AreWays c.args.graph.now c.args.count (widened c.args.count done) c.is_next.new.ways) (sym pushed) (ways_pushed c.args.graph.now c.args.count c.loop.done.items capacity c.is_next.new.ways few c.loop.invariant.tight.range next.range ways);
    }
