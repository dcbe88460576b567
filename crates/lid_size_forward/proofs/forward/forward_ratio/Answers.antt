use Rattle.std.proofs.Common.{sym, subst}
use Rattle.lid_graph.specs.declared.graph.Graph.{Graph}
use Rattle.lid_rate_ratio.specs.Components.{IsSmallGraph, IsLoop, HasRate}
use Rattle.lid_size_forward.proofs.Forwards.{small_part, first_loop, forward_is, rate_small_p, rate_small_q}
use Rattle.lid_size_forward.proofs.forward.forward_ratio.Goals as goal

pub rate_of-requires-clause-graph : goal.rate_of-requires-clause-graph
rate_of-requires-clause-graph c = subst IsSmallGraph (sym c.in_ok-part.ensures) (small_part c.args.graph.now c.args.stations c.requires.graph c.args.least.now c.requires.labels c.args.label c.requires.own c.requires.within)

pub rate_of-requires-clause-first : goal.rate_of-requires-clause-first
rate_of-requires-clause-first c = subst (λ (g : Graph). IsLoop g 0) (sym c.in_ok-part.ensures) (first_loop c.args.graph.now c.args.stations c.requires.graph c.args.least.now c.requires.labels c.args.label c.requires.own c.requires.within)

pub returns-clause-is : goal.returns-clause-is
returns-clause-is c = forward_is c.args.graph.now c.args.stations c.requires.graph c.args.least.now c.requires.labels c.args.label c.requires.own c.requires.within c.in_ok-rate.rate.ratio.p c.in_ok-rate.rate.ratio.q c.in_ok-rate.rate.walk c.in_ok-rate.rate.lags (subst (λ (g : Graph). HasRate g c.in_ok-rate.rate.ratio.p c.in_ok-rate.rate.ratio.q c.in_ok-rate.rate.walk c.in_ok-rate.rate.lags) c.in_ok-part.ensures c.in_ok-rate.ensures)

pub returns-clause-small_p : goal.returns-clause-small_p
returns-clause-small_p c = rate_small_p c.args.graph.now c.args.stations c.requires.graph c.args.least.now c.requires.labels c.args.label c.requires.own c.requires.within c.in_ok-rate.rate.ratio.p c.in_ok-rate.rate.ratio.q c.in_ok-rate.rate.walk c.in_ok-rate.rate.lags (subst (λ (g : Graph). HasRate g c.in_ok-rate.rate.ratio.p c.in_ok-rate.rate.ratio.q c.in_ok-rate.rate.walk c.in_ok-rate.rate.lags) c.in_ok-part.ensures c.in_ok-rate.ensures)

pub returns-clause-small_q : goal.returns-clause-small_q
returns-clause-small_q c = rate_small_q c.args.graph.now c.args.stations c.requires.graph c.args.least.now c.requires.labels c.args.label c.requires.own c.requires.within c.in_ok-rate.rate.ratio.p c.in_ok-rate.rate.ratio.q c.in_ok-rate.rate.walk c.in_ok-rate.rate.lags (subst (λ (g : Graph). HasRate g c.in_ok-rate.rate.ratio.p c.in_ok-rate.rate.ratio.q c.in_ok-rate.rate.walk c.in_ok-rate.rate.lags) c.in_ok-part.ensures c.in_ok-rate.ensures)
