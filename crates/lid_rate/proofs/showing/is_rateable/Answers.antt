use Rattle.std.proofs.Common.{arith}
use Rattle.lid_rate.proofs.Signs.{shown_of, edges_of_shown, tokens_of_shown}
use Rattle.lid_rate.proofs.showing.is_rateable.Goals as goal

pub returns-clause-shown : goal.returns-clause-shown
returns-clause-shown c = (
  λ edges. shown_of c.args.graph.now c.args.backs.now c.args.loops.now c.args.numbers.now (grind arith) (grind arith) (grind arith) (grind arith) (grind arith) (grind arith) (c.are_loops_shown.ensures.0 c.if-not-are_loops_shown.false) (c.are_edges_shown.ensures.0 edges),
  λ shown. c.are_edges_shown.ensures.1 (edges_of_shown c.args.graph.now c.args.backs.now c.args.loops.now c.args.numbers.now shown),
)

pub returns-clause-tokens : goal.returns-clause-tokens
returns-clause-tokens c edges =
    tokens_of_shown c.args.graph.now c.args.backs.now c.args.loops.now c.args.numbers.now (shown_of c.args.graph.now c.args.backs.now c.args.loops.now c.args.numbers.now (grind arith) (grind arith) (grind arith) (grind arith) (grind arith) (grind arith) (c.are_loops_shown.ensures.0 c.if-not-are_loops_shown.false) (c.are_edges_shown.ensures.0 edges))
