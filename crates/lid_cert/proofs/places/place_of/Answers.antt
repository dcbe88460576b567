use Rattle.std.proofs.Common.{◌+◌, ◌-◌, ◌/◌, ◌<◌, get_or, sym, arith}
use Rattle.lid_cert.proofs.Ascending.{place_found, place_missing, below_middle, above_middle, none_between}
use Rattle.lid_cert.proofs.places.place_of.Goals as goal

pub returns-then-numbers-guess : goal.returns-then-numbers-guess
returns-then-numbers-guess c = sym (place_found c.args.numbers.now c.args.wanted c.args.wanted c.requires c.if-guess-numbers.true c.if-numbers-guess.true)

pub returns-then-numbers-middle : goal.returns-then-numbers-middle
returns-then-numbers-middle c =
    sym (place_found c.args.numbers.now c.args.wanted (c.loop-low.low + (c.loop-low.high - c.loop-low.low) / 2) c.requires (omega arith) c.if-numbers-middle.true)

pub loop-low-preserved-then-numbers-middle-2 : goal.loop-low-preserved-then-numbers-middle-2
loop-low-preserved-then-numbers-middle-2 c = record {
  within = c.loop-low.invariant.within;
  below = below_middle c.args.numbers.now c.args.wanted (c.loop-low.low + (c.loop-low.high - c.loop-low.low) / 2) c.requires (omega arith) c.if-numbers-middle-2.true;
  above = c.loop-low.invariant.above;
}

pub loop-low-preserved : goal.loop-low-preserved
loop-low-preserved c = record {
  within = omega arith;
  below = c.loop-low.invariant.below;
  above =
      let more : c.args.wanted < get_or c.args.numbers.now (c.loop-low.low + (c.loop-low.high - c.loop-low.low) / 2) 0 = omega arith in
      above_middle c.args.numbers.now c.args.wanted (c.loop-low.low + (c.loop-low.high - c.loop-low.low) / 2) c.requires more;
}

pub returns : goal.returns
returns c =
    sym (place_missing c.args.numbers.now c.args.wanted (none_between c.args.numbers.now c.args.wanted c.loop-low.low c.loop-low.high c.loop-low-test.false c.loop-low.invariant.below c.loop-low.invariant.above))
