use Rattle.std.proofs.Common.{ℕ, sym, subst, below_more, arith}
use Rattle.lid_check_digraph.specs.Graphs.{IsOnLoop}
use Rattle.lid_check_digraph.specs.PartialOrders.{SparesLoops}
use Rattle.lid_check_digraph.proofs.Orders.{loop_within}
use Rattle.lid_check_digraph.proofs.Walking.{spares_more}
use Rattle.lid_check_digraph.proofs.topological.least_on_loop.Goals as goal
use Rattle.lid_check_digraph.proofs.topological.least_on_loop.Goals.{then-not-cut-k+in_ok-is_on_loop+else-branch, else-not-cut-k}

pub loop-k-preserved : goal.loop-k-preserved
loop-k-preserved c =
    let g = c.args.graph.now.reads.now in
    let k = c.loop-k.k in
    let none : IsOnLoop g k → ⊥ = elim c.if-not-cut-k.branch [
      | then-not-cut-k+in_ok-is_on_loop+else-branch w ↦ λ on. (let told = w.in_ok-is_on_loop.ensures.1 on in let no = w.if-branch.false in cc)
      | else-not-cut-k w ↦ λ on. (let free = c.loop-k.invariant.spares k on in let shut = w.if-not-cut-k.false in cc)
    ] in
    record {
      spares = elim c.if-not-cut-k.branch [
        | then-not-cut-k+in_ok-is_on_loop+else-branch w ↦ subst (SparesLoops g) (sym w.cut-is) (spares_more g c.loop-k.cut c.loop-k.invariant.spares k none)
        | else-not-cut-k w ↦ subst (SparesLoops g) (sym w.cut-is) c.loop-k.invariant.spares
      ];
      least = below_more (λ (j : ℕ). IsOnLoop g j → ⊥) k c.loop-k.invariant.least none;
    }

pub returns : goal.returns
returns c = λ k on. c.loop-k.invariant.least k (let within = loop_within c.args.graph.now.reads.now k on in omega arith) on
