use Rattle.std.proofs.Common.{◌<◌, ℕ, List, Option, sym, subst, arith}
use Rattle.lid_rate_ratio.specs.Cycles.{ArePredecessors, Follows, LeadsOut, ClosesUp}
use Rattle.lid_rate_ratio.specs.BellmanFord.{AreLags}
use Rattle.lid_rate_ratio.proofs.Settles.{start_settling, as_lasts, lower, settling_on, early_on, lags}
use Rattle.lid_rate_ratio.proofs.bellman_ford.find_potentials.Goals as goal

pub loop-grown-init : goal.loop-grown-init
loop-grown-init c = start_settling c.args.graph.now c.args.edges.now c.args.p c.args.q c.requires.edges c.in_ok-potentials.potentials.values.items c.in_ok-potentials.potentials.predecessors.items c.in_ok-potentials.ensures.values c.in_ok-potentials.ensures.predecessors

pub returns-in_default : goal.returns-in_default
returns-in_default c =
    subst (AreLags c.args.graph.now c.args.edges.now c.args.p c.args.q) (sym c.from_vec.ensures)
    (lags c.args.graph.now c.args.edges.now c.args.p c.args.q c.requires.edges c.loop-grown.rounds c.loop-grown.potentials.values.items c.loop-grown.potentials.predecessors.items c.relax_all.new.potentials.values.items c.relax_all.new.potentials.predecessors.items c.requires.p c.requires.few c.requires.nodes c.loop-grown.invariant c.relax_all.ensures.potentials c.relax_all.ensures.over c.in_default.ensures.changed)

pub follow_predecessors-requires-clause-predecessors : goal.follow_predecessors-requires-clause-predecessors
follow_predecessors-requires-clause-predecessors c = subst (ArePredecessors c.args.graph.now) (sym c.deref.ensures.value) (as_lasts c.args.graph.now c.args.edges.now c.args.p c.args.q c.requires.edges c.relax_all.new.potentials.values.items c.relax_all.new.potentials.predecessors.items c.relax_all.ensures.potentials)

pub returns-in-Closes : goal.returns-in-Closes
returns-in-Closes c =
    let closes : ClosesUp c.args.graph.now c.deref.result.now c.in-Closes.walk = subst (Follows c.args.graph.now c.deref.result.now c.in-Some.grown) c.in-Closes.is c.in_ok-walk.ensures in
    let here : ClosesUp c.args.graph.now c.relax_all.new.potentials.predecessors.items c.in-Closes.walk = subst (λ (l : List (Option ℕ)). ClosesUp c.args.graph.now l c.in-Closes.walk) c.deref.ensures.value closes in
    lower c.args.graph.now c.args.edges.now c.args.p c.args.q c.requires.edges c.relax_all.new.potentials.values.items c.relax_all.new.potentials.predecessors.items c.relax_all.ensures.potentials c.in-Closes.walk here

pub loop-grown-smaller : goal.loop-grown-smaller
loop-grown-smaller c =
    let out : LeadsOut c.args.graph.now c.deref.result.now c.in-Some.grown c.in-Ends.field-0 = subst (Follows c.args.graph.now c.deref.result.now c.in-Some.grown) c.in-Ends.is c.in_ok-walk.ensures in
    let here : LeadsOut c.args.graph.now c.relax_all.new.potentials.predecessors.items c.in-Some.grown c.in-Ends.field-0 = subst (λ (l : List (Option ℕ)). LeadsOut c.args.graph.now l c.in-Some.grown c.in-Ends.field-0) c.deref.ensures.value out in
    let early : c.loop-grown.rounds < c.args.graph.now.nodes = early_on c.args.graph.now c.args.edges.now c.args.p c.args.q c.requires.edges c.loop-grown.rounds c.in-Ends.field-0 c.in-Some.grown c.loop-grown.potentials.values.items c.loop-grown.potentials.predecessors.items c.relax_all.new.potentials.values.items c.relax_all.new.potentials.predecessors.items c.loop-grown.invariant c.relax_all.ensures.potentials c.in-Some.ensures.changed.1 here in
    omega arith

pub loop-grown-preserved : goal.loop-grown-preserved
loop-grown-preserved c =
    let out : LeadsOut c.args.graph.now c.deref.result.now c.in-Some.grown c.in-Ends.field-0 = subst (Follows c.args.graph.now c.deref.result.now c.in-Some.grown) c.in-Ends.is c.in_ok-walk.ensures in
    let here : LeadsOut c.args.graph.now c.relax_all.new.potentials.predecessors.items c.in-Some.grown c.in-Ends.field-0 = subst (λ (l : List (Option ℕ)). LeadsOut c.args.graph.now l c.in-Some.grown c.in-Ends.field-0) c.deref.ensures.value out in
    settling_on c.args.graph.now c.args.edges.now c.args.p c.args.q c.requires.edges c.loop-grown.rounds c.in-Ends.field-0 c.in-Some.grown c.loop-grown.potentials.values.items c.loop-grown.potentials.predecessors.items c.relax_all.new.potentials.values.items c.relax_all.new.potentials.predecessors.items c.loop-grown.invariant c.relax_all.ensures.potentials c.relax_all.ensures.over c.in-Some.ensures.changed.1 here
