use Rattle.std.proofs.Common.{◌≡◌, ◌<◌, length, reverse, drop, ◌+◌, ◌-◌, ◌∙◌, ap, arith, get_or}
use Rattle.std.proofs.lemmas.Grind.{get_or_default_zero}
use Rattle.lid_rate_ratio.proofs.Traces.{closes_up}
use Rattle.lid_rate_ratio.proofs.cycles.follow_predecessors.Goals as goal

pub returns : goal.returns
returns c =
    let within : c.loop-trace.trace.at < length c.loop-trace.trace.places.items = omega (arith, c.loop-trace.invariant.at_within, c.loop-trace.invariant.place_count) in
    let first : c.index.result.now ≡ get_or c.loop-trace.trace.places.items c.loop-trace.trace.at 0 = c.index.ensures ∙ get_or_default_zero c.loop-trace.trace.places.items c.loop-trace.trace.at c.index.result.now within in
    let second : c.index-2.result.now ≡ get_or c.loop-trace.trace.places.items c.loop-trace.trace.at 0 = c.index-2.ensures ∙ get_or_default_zero c.loop-trace.trace.places.items c.loop-trace.trace.at c.index-2.result.now within in
    let place : get_or c.loop-trace.trace.places.items c.loop-trace.trace.at 0 ≡ (c.index-2.result.now - 1) + 1 = omega (arith, c.loop-trace-test.false) in
    closes_up c.args.graph.now c.args.predecessors.now c.requires.predecessors c.args.start c.loop-trace.trace.chain.items c.loop-trace.trace.places.items c.loop-trace.trace.at c.loop-trace.invariant (c.index-2.result.now - 1) place c.in_ok-closed.field-0
    (c.in_ok-closed.ensures ∙ ap (λ l. reverse (drop (c.index-2.result.now - 1) l)) c.deref.ensures.value)
