use Rattle.std.proofs.Common.{ℕ, length, sym, subst}
use Rattle.lid_rate_ratio.specs.Numbers.{AreAllNumbers}
use Rattle.lid_rate_ratio.proofs.Reached.{spans}
use Rattle.lid_rate_ratio.proofs.branching.sweep.Goals as goal

pub returns : goal.returns
returns c =
    let all : AreAllNumbers (length c.args.graph.now.edges) c.deref.result.now = subst (AreAllNumbers (length c.args.graph.now.edges)) (sym c.deref.ensures.value) (subst (λ (n : ℕ). AreAllNumbers n c.in_ok-all.all.items) c.len.ensures c.in_ok-all.ensures) in
    rw (c.listed.ensures.via, c.listed.ensures.lead, c.listed.ensures.depth) (spans c.args.graph.now c.args.root.start c.args.root.q c.args.root.first c.requires c.deref.result.now all c.in_ok-tree.tree.via.items c.in_ok-tree.tree.lead.items c.in_ok-tree.tree.depth.items c.in_ok-tree.ensures.tree c.in_ok-tree.ensures.all)
