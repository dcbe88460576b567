use Rattle.std.proofs.Common.{◌+◌, ◌-◌, ◌/◌, ◌∙◌, ap, arith}
use Rattle.lid_graph.specs.declared.graph.Edge.{Edge}
use Rattle.lid_size_forward.proofs.Closed.{even_forward, late_forward}
use Rattle.lid_size.proofs.Refuted.{followed_range, forward_tokens, backward_tokens}
use Rattle.lid_size.proofs.ways.tokens_with.Goals as goal
use Rattle.lid_size.proofs.ways.tokens_with.Goals.{then-k-eq0-via-then-k-eq0, then-k-eq0-via-else-k-eq0+then-at-count}

pub returns-then-k-eq0-clause-is : goal.returns-then-k-eq0-clause-is
returns-then-k-eq0-clause-is c s relays widest =
    ap (λ (e : Edge). e.tokens) c.edge-tokens.ensures
    ∙ forward_tokens c.args.count c.args.done.now c.args.next c.requires.few c.requires.range c.requires.next c.args.graph.now c.args.k s relays c.requires.within
    (elim c.then-k-eq0.branch [
      | then-k-eq0-via-then-k-eq0 w ↦ even_forward _ c.args.k w.if-k-eq0.true
      | then-k-eq0-via-else-k-eq0+then-at-count w ↦ late_forward _ c.args.k w.if-at-count.true
    ]) widest

pub overflow_add-tokens : goal.overflow_add-tokens
overflow_add-tokens c =
    let ranged = followed_range c.args.count c.args.done.now c.args.next c.requires.few c.requires.range c.requires.next (c.args.k / 2) c.if-at-count.false in
    let tokens = c.requires.graph.tokens c.args.k c.requires.within in
    let same = ap (λ (e : Edge). e.tokens) c.edge-tokens.ensures in
    omega (arith, ranged.1, tokens, same, c.capacity_at.ensures)

pub returns-clause-is : goal.returns-clause-is
returns-clause-is c s relays widest =
    backward_tokens c.args.count c.args.done.now c.args.next c.requires.few c.requires.range c.requires.next c.args.graph.now c.args.k c.saturating_sub.result c.capacity_at.result s relays c.if-k-eq0.false c.if-at-count.false c.capacity_at.ensures (c.saturating_sub.ensures ∙ ap (λ (e : Edge). e.tokens + c.capacity_at.result - 16) c.edge-tokens.ensures) widest

pub returns-clause-few : goal.returns-clause-few
returns-clause-few c =
    let ranged = followed_range c.args.count c.args.done.now c.args.next c.requires.few c.requires.range c.requires.next (c.args.k / 2) c.if-at-count.false in
    let tokens = c.requires.graph.tokens c.args.k c.requires.within in
    let same = ap (λ (e : Edge). e.tokens) c.edge-tokens.ensures in
    omega (arith, ranged.1, tokens, same, c.capacity_at.ensures, c.saturating_sub.ensures)
