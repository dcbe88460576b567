use Rattle.std.proofs.Common.{◌<◌, ℕ, List, length, slice_index, refl, sym, subst, arith}
use Rattle.lid_check_digraph.specs.Graphs.{reads_at}
use Rattle.lid_check_digraph.specs.PartialOrders.{AreBelow}
use Rattle.lid_check_digraph.proofs.Lists.{index_among, row_below}
use Rattle.lid_check_digraph.proofs.Orders.{reader_within}
use Rattle.lid_check_digraph.proofs.adjacency.is_graph.Goals as goal

pub returns-then-not-are_below : goal.returns-then-not-are_below
returns-then-not-are_below c =
    let g = c.args.reads.now in
    (λ e. absurd (cc), λ graph. c.if-not-are_below.ensures.1 (λ i h. subst (λ (n : ℕ). slice_index c.list.result.now i < n) (sym c.len-in-loop-k.ensures) (subst (λ (xs : List ℕ). AreBelow (length g) xs) (sym c.list.ensures) (row_below g graph c.loop-k.k) i 0 h)))

pub returns : goal.returns
returns c =
    let g = c.args.reads.now in (
      λ _. record {
        few = omega arith;
        within = λ k b h.
            (let at = index_among b (reads_at g k) h in
            let within = reader_within g k b h in
            subst (λ (x : ℕ). x < length c.args.reads.now) at.2 (c.loop-k.invariant k (omega arith) at.0 at.1));
      },
      λ _. refl,
    )
