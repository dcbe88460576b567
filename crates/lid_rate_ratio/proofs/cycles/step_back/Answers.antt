use Rattle.std.proofs.Common.{◌≡◌, ap, length, arith}
use Rattle.lid_graph.specs.declared.graph.Edge.{Edge}
use Rattle.lid_rate_ratio.proofs.Traces.{went_on}
use Rattle.lid_rate_ratio.proofs.cycles.step_back.Goals as goal

pub returns-in_ok-push-in-Some : goal.returns-in_ok-push-in-Some
returns-in_ok-push-in-Some c = λ start trace.
    (let place : c.len.result ≡ length c.push.new.self.items = omega (arith, c.push.new.self.ok.0) in
    went_on c.args.graph.now c.args.predecessors.now c.requires.predecessors start c.args.trace.now.chain.items c.args.trace.now.places.items c.args.trace.now.at c.in-Some.k trace c.requires.new c.in-Some.is c.push.new.self.items c.len.result c.edge.result.from c.in_ok-push-in-Some.ensures.items place (ap (λ (e : Edge). e.from) c.edge.ensures))
