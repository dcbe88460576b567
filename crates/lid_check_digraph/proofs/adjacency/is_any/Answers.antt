use Rattle.std.proofs.Common.{◌≡◌, ℕ, false, get_or, subst, arith}
use Rattle.lid_base.proofs.Lists.{among_at}
use Rattle.lid_check_digraph.specs.Graphs.{flag}
use Rattle.lid_check_digraph.proofs.Lists.{index_among}
use Rattle.lid_check_digraph.proofs.adjacency.is_any.Goals as goal

pub returns-then-flags-number : goal.returns-then-flags-number
returns-then-flags-number c = (get_or c.args.numbers.now c.loop-number.number-index 0, among_at c.args.numbers.now c.loop-number.number-index 0 (omega arith), c.if-flags-number.true)

pub returns : goal.returns
returns c = λ b h.
    (let at = index_among b c.args.numbers.now h in
    subst (λ (x : ℕ). flag c.args.flags.now x ≡ false) at.2 (c.loop-number.invariant at.0 (omega arith)))
