use Rattle.std.proofs.Common.{◌≡◌, ℕ, ◌<◌, ◌≤◌, false, length, get_or, ap, subst, arith}
use Rattle.lid_check_digraph.specs.Graphs.{reads_at, flag}
use Rattle.lid_check_digraph.proofs.Lists.{index_among}
use Rattle.lid_check_digraph.proofs.tarjan.is_uphill_at.Goals as goal

pub returns : goal.returns
returns c = λ _ b h.
    (let at = index_among b (reads_at c.args.graph.now.reads.now c.args.c) h in
    let same : length c.reads_of-b-items.result.now ≡ length (reads_at c.args.graph.now.reads.now c.args.c) = ap length c.reads_of-b-items.ensures.reads in
    subst (λ (x : ℕ). (get_or c.args.ranks.now x 0 ≤ get_or c.args.ranks.now c.args.c 0) × (flag c.args.marks.now x ≡ false → get_or c.args.ranks.now x 0 < get_or c.args.ranks.now c.args.c 0)) at.2 (c.loop-b.invariant at.0 (omega arith)))
