-- The actors that fired settle their stations in order, and the others are passed over.
use Rattle.std.proofs.Common.{◌≡◌, ℕ, ◌+◌, ◌-◌, ◌<◌, List, Bool, length, sym, ◌∙◌, subst, arith}
use Rattle.lid_clock_flat.specs.Wakings.{IsNextSet}
use Rattle.lid_clock_flat.specs.Ends.{SettledTo, HasFired}
use Rattle.lid_clock_flat.proofs.Waking.{mover_number}
use Rattle.lid_clock_flat.proofs.Ending.{none_settled, settled_on}
use Rattle.lid_clock_flat.proofs.run.FlatRun.settle_all.Goals as goal
use Rattle.lid_clock_flat.proofs.run.FlatRun.settle_all.Goals.{then-actor-nodes, else-actor-nodes}

pub loop-actor-init : goal.loop-actor-init
loop-actor-init c =
    let x = c.args.self.now in
    let next : IsNextSet x.went.items 0 c.next_set-actor.result = subst (λ (fs : List Bool). IsNextSet fs 0 c.next_set-actor.result) c.as_slice.ensures.value c.next_set-actor.ensures in
    let many = x.nodes.ok.0 in
    record {
      nodes = omega (arith, c.len-nodes.ensures);
      past = next.within;
      settled = settled_on x x 0 c.next_set-actor.result (none_settled x) (omega arith) next.between;
      next = next.set;
    }

pub settle_at_node-requires : goal.settle_at_node-requires
settle_at_node-requires c =
    let inv = c.loop-actor.invariant in
    (c.args.self.now, c.requires, inv.settled, inv.next (omega (arith, c.loop-actor-test.true, inv.settled.many)), omega (arith, inv.nodes))

pub settle_at_mover-requires : goal.settle_at_mover-requires
settle_at_mover-requires c =
    let inv = c.loop-actor.invariant in
    let x = c.args.self.now in
    let same = mover_number x c.len-nodes.result c.loop-actor.actor inv.nodes (omega arith) in
    let d = (c.requires).3 in (
      x,
      c.requires,
      subst (λ (v : ℕ). SettledTo v x c.loop-actor.self) same inv.settled,
      subst (λ (v : ℕ). HasFired v x) same (inv.next (omega (arith, c.loop-actor-test.true, inv.settled.many))),
      omega (arith, inv.nodes, c.loop-actor-test.true, inv.settled.many, d.nodes, d.movers, d.done.many),
    )

pub loop-actor-preserved : goal.loop-actor-preserved
loop-actor-preserved c =
    let inv = c.loop-actor.invariant in
    let x = c.args.self.now in
    let y = c.if-actor-nodes.self in
    let n = c.loop-actor.actor in
    let d = (c.requires).3 in
    let low : n < length x.went.items = omega (arith, c.loop-actor-test.true, inv.settled.many) in
    let done : SettledTo (n + 1) x y = elim c.if-actor-nodes.branch [
      | then-actor-nodes w ↦ subst (SettledTo (n + 1) x) (sym w.self-is) (w.settle_at_node.ensures x c.requires inv.settled (inv.next low) (omega (arith, inv.nodes, w.if-actor-nodes.true)))
      | else-actor-nodes w ↦
          let same = mover_number x c.len-nodes.result n inv.nodes (omega (arith, w.if-actor-nodes.false)) in
          subst (λ (v : ℕ). SettledTo (v + 1) x y) (sym same)
          (subst (SettledTo ((length x.nodes.items + (n - c.len-nodes.result)) + 1) x) (sym w.self-is)
          (w.settle_at_mover.ensures x c.requires (subst (λ (v : ℕ). SettledTo v x c.loop-actor.self) same inv.settled) (subst (λ (v : ℕ). HasFired v x) same (inv.next low))
          (omega (arith, same, low, d.nodes, d.movers, d.done.many))))
    ] in
    let next : IsNextSet y.went.items (n + 1) c.next_set-actor-in-loop-actor.result =
    subst (λ (fs : List Bool). IsNextSet fs (n + 1) c.next_set-actor-in-loop-actor.result) c.as_slice-in-loop-actor.ensures.value c.next_set-actor-in-loop-actor.ensures in
    record {
      nodes = inv.nodes;
      past = omega (arith, next.within, done.many);
      settled = settled_on x y (n + 1) c.next_set-actor-in-loop-actor.result done next.past next.between;
      next = λ less. sym (done.left c.next_set-actor-in-loop-actor.result next.past) ∙ next.set (omega (arith, less, done.many));
    }

pub returns : goal.returns
returns c =
    let inv = c.loop-actor.invariant in
    let x = c.args.self.now in
    let last : c.loop-actor.actor ≡ length x.went.items = omega (arith, c.loop-actor-test.false, inv.past, inv.settled.many) in
    subst (λ (v : ℕ). SettledTo v x c.loop-actor.self) last inv.settled
