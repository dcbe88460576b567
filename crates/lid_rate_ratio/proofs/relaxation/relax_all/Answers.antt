use Rattle.std.proofs.Common.{◌≡◌, ◌<◌, ◌≤◌, ℕ, length, sym, subst, arith}
use Rattle.lid_graph.specs.declared.graph.Edge.{Edge}
use Rattle.lid_rate_ratio.specs.Relaxation.{IsRound}
use Rattle.lid_rate_ratio.proofs.Relaxing.{over_start, over_then, over_else, key_from, key_to, key_last, key_tokens, key_small}
use Rattle.lid_rate_ratio.proofs.relaxation.relax_all.Goals as goal
use Rattle.lid_rate_ratio.proofs.relaxation.relax_all.Goals.{then-relax, else-relax}

pub loop-k-init : goal.loop-k-init
loop-k-init c = over_start c.args.graph.now c.args.edges.now c.args.p c.args.q c.args.potentials.now.values.items c.args.potentials.now.predecessors.items c.requires.potentials

pub loop-k-preserved : goal.loop-k-preserved
loop-k-preserved c = elim c.if-relax.branch [
  | then-relax w ↦ over_then c.args.graph.now c.args.edges.now c.args.p c.args.q c.loop-k.k-index c.requires.edges c.loop-k-test.true c.args.potentials.now.values.items c.loop-k.potentials.values.items c.loop-k.potentials.predecessors.items c.loop-k.changed c.loop-k.invariant c.relax.new.potentials.values.items c.relax.new.potentials.predecessors.items c.edge-along.result c.edge-along.ensures c.relax.result c.relax.ensures w.if-relax.true c.if-relax.changed w.changed-is
  | else-relax w ↦ over_else c.args.graph.now c.args.edges.now c.args.p c.args.q c.loop-k.k-index c.requires.edges c.loop-k-test.true c.args.potentials.now.values.items c.loop-k.potentials.values.items c.loop-k.potentials.predecessors.items c.loop-k.changed c.loop-k.invariant c.relax.new.potentials.values.items c.relax.new.potentials.predecessors.items c.edge-along.result c.edge-along.ensures c.relax.result c.relax.ensures w.if-relax.false c.if-relax.changed w.changed-is
]

pub relax-requires : goal.relax-requires
relax-requires c = record {
  from = subst (λ (e : Edge). e.from < length c.loop-k.potentials.values.items) (sym c.edge-along.ensures) (key_from c.args.graph.now c.args.edges.now c.args.p c.args.q c.loop-k.k-index c.requires.edges c.loop-k-test.true c.args.potentials.now.values.items c.loop-k.potentials.values.items c.loop-k.potentials.predecessors.items c.loop-k.changed c.loop-k.invariant c.loop-k.potentials.values.items c.loop-k.potentials.predecessors.items);
  to = subst (λ (e : Edge). e.to < length c.loop-k.potentials.values.items) (sym c.edge-along.ensures) (key_to c.args.graph.now c.args.edges.now c.args.p c.args.q c.loop-k.k-index c.requires.edges c.loop-k-test.true c.args.potentials.now.values.items c.loop-k.potentials.values.items c.loop-k.potentials.predecessors.items c.loop-k.changed c.loop-k.invariant c.loop-k.potentials.values.items c.loop-k.potentials.predecessors.items);
  predecessors = subst (λ (e : Edge). e.to < length c.loop-k.potentials.predecessors.items) (sym c.edge-along.ensures) (key_last c.args.graph.now c.args.edges.now c.args.p c.args.q c.loop-k.k-index c.requires.edges c.loop-k-test.true c.args.potentials.now.values.items c.loop-k.potentials.values.items c.loop-k.potentials.predecessors.items c.loop-k.changed c.loop-k.invariant c.loop-k.potentials.values.items c.loop-k.potentials.predecessors.items);
  small = key_small c.args.graph.now c.args.edges.now c.args.p c.args.q c.loop-k.k-index c.requires.edges c.loop-k-test.true c.args.potentials.now.values.items c.loop-k.potentials.values.items c.loop-k.potentials.predecessors.items c.loop-k.changed c.loop-k.invariant c.loop-k.potentials.values.items c.loop-k.potentials.predecessors.items c.requires.small c.requires.few;
  p = c.requires.p;
  q = c.requires.q;
  tokens = subst (λ (e : Edge). e.tokens ≤ 16) (sym c.edge-along.ensures) (key_tokens c.args.graph.now c.args.edges.now c.args.p c.args.q c.loop-k.k-index c.requires.edges c.loop-k-test.true c.args.potentials.now.values.items c.loop-k.potentials.values.items c.loop-k.potentials.predecessors.items c.loop-k.changed c.loop-k.invariant c.loop-k.potentials.values.items c.loop-k.potentials.predecessors.items);
}

pub returns : goal.returns
returns c =
    let all : c.loop-k.k-index ≡ length c.args.edges.now = omega arith in
    record {
      potentials = c.loop-k.invariant.raised;
      over = subst (λ (n : ℕ). IsRound c.args.graph.now c.args.edges.now c.args.p c.args.q n c.args.potentials.now.values.items c.loop-k.potentials.values.items) all c.loop-k.invariant.over;
      changed = c.loop-k.invariant.changed_so;
    }
