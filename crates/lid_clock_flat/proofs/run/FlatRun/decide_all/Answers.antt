-- The actors that are awake decide in order, and those that sleep are passed over.
use Rattle.std.proofs.Common.{◌≡◌, ℕ, ◌+◌, ◌-◌, List, Bool, length, refl, sym, ◌∙◌, ap, subst, arith}
use Rattle.lid_clock.specs.Lives.{Life, Holds}
use Rattle.lid_clock.specs.States.{actors_of}
use Rattle.lid_clock_flat.specs.Wakings.{IsNextSet, DecidedTo, KeepsRows}
use Rattle.lid_clock_flat.proofs.Waking.{passed, mover_number}
use Rattle.lid_clock_flat.proofs.run.FlatRun.decide_all.Goals as goal
use Rattle.lid_clock_flat.proofs.run.FlatRun.decide_all.Goals.{then-actor-nodes, else-actor-nodes}

pub loop-actor-init : goal.loop-actor-init
loop-actor-init c =
    let x = c.args.self.now in
    let next : IsNextSet x.awake.items 0 c.next_set-actor.result = subst (λ (fs : List Bool). IsNextSet fs 0 c.next_set-actor.result) c.as_slice.ensures.value c.next_set-actor.ensures in
    let many = x.nodes.ok.0 in
    record {
      nodes = omega (arith, c.len-nodes.ensures);
      past = next.within;
      decided = λ l k g holds to. passed c.runs_go_by_rules.ensures l k g 0 c.next_set-actor.result x to (omega arith) next.between;
      kept = record { rows = refl; given = refl };
    }

pub decide_at_node-requires : goal.decide_at_node-requires
decide_at_node-requires c =
    let inv = c.loop-actor.invariant in
    let q = c.requires in
    let now = inv.decided q.0 q.1 q.2 q.3 q.4 in
    (q.0, q.1, q.2, q.3, now, omega (arith, inv.nodes, now.nodes, (q.4).nodes))

pub decide_at_mover-requires : goal.decide_at_mover-requires
decide_at_mover-requires c =
    let inv = c.loop-actor.invariant in
    let q = c.requires in
    let x = c.loop-actor.self in
    let now = inv.decided q.0 q.1 q.2 q.3 q.4 in
    let same = mover_number x c.len-nodes.result c.loop-actor.actor (omega (arith, inv.nodes, now.nodes, (q.4).nodes)) (omega arith) in
    (q.0, q.1, q.2, q.3, subst (λ (v : ℕ). DecidedTo q.0 q.1 q.2 v x) same now, omega (arith, same, c.loop-actor-test.true, now.asleep.many, now.movers, now.nodes))

pub next_set-actor-requires-in-loop-actor : goal.next_set-actor-requires-in-loop-actor
next_set-actor-requires-in-loop-actor c =
    let inv = c.loop-actor.invariant in
    let q = c.requires in
    let x = c.loop-actor.self in
    let n = c.loop-actor.actor in
    let now = inv.decided q.0 q.1 q.2 q.3 q.4 in
    let many : c.len-nodes.result ≡ length x.nodes.items = omega (arith, inv.nodes, now.nodes, (q.4).nodes) in
    let done : DecidedTo q.0 q.1 q.2 (n + 1) c.if-actor-nodes.self = elim c.if-actor-nodes.branch [
      | then-actor-nodes w ↦ subst (DecidedTo q.0 q.1 q.2 (n + 1)) (sym w.self-is) (w.decide_at_node.ensures.is q.0 q.1 q.2 q.3 now)
      | else-actor-nodes w ↦
          let same = mover_number x c.len-nodes.result n many (omega (arith, w.if-actor-nodes.false)) in
          subst (λ (v : ℕ). DecidedTo q.0 q.1 q.2 (v + 1) c.if-actor-nodes.self) (sym same)
          (subst (DecidedTo q.0 q.1 q.2 ((length x.nodes.items + (n - c.len-nodes.result)) + 1)) (sym w.self-is) (w.decide_at_mover.ensures.is q.0 q.1 q.2 q.3 (subst (λ (v : ℕ). DecidedTo q.0 q.1 q.2 v x) same now)))
    ] in
    let long : length c.as_slice-in-loop-actor.result.now ≡ length (c.if-actor-nodes.self).awake.items = ap length c.as_slice-in-loop-actor.ensures.value in
    omega (arith, long, done.asleep.many, now.asleep.many, c.loop-actor-test.true)

pub loop-actor-smaller : goal.loop-actor-smaller
loop-actor-smaller c =
    let inv = c.loop-actor.invariant in
    let q = c.requires in
    let now = inv.decided q.0 q.1 q.2 q.3 q.4 in
    omega (arith, c.next_set-actor-in-loop-actor.ensures.past, c.loop-actor-test.true, now.asleep.many, (q.4).asleep.many)

pub loop-actor-preserved : goal.loop-actor-preserved
loop-actor-preserved c =
    let inv = c.loop-actor.invariant in
    let first = c.args.self.now in
    let x = c.loop-actor.self in
    let y = c.if-actor-nodes.self in
    let n = c.loop-actor.actor in
    let next : IsNextSet y.awake.items (n + 1) c.next_set-actor-in-loop-actor.result =
    subst (λ (fs : List Bool). IsNextSet fs (n + 1) c.next_set-actor-in-loop-actor.result) c.as_slice-in-loop-actor.ensures.value c.next_set-actor-in-loop-actor.ensures in
    let keeps : KeepsRows x y = elim c.if-actor-nodes.branch [
      | then-actor-nodes w ↦ subst (KeepsRows x) (sym w.self-is) w.decide_at_node.ensures.kept
      | else-actor-nodes w ↦ subst (KeepsRows x) (sym w.self-is) w.decide_at_mover.ensures.kept
    ] in
    let decides : (l : Life) (k g : ℕ) → Holds l k c.args.source c.args.sink → DecidedTo l k g 0 first → DecidedTo l k g (n + 1) y = λ l k g holds to.
    let now = inv.decided l k g holds to in
    let many : c.len-nodes.result ≡ length x.nodes.items = omega (arith, inv.nodes, now.nodes, to.nodes) in
    elim c.if-actor-nodes.branch [
      | then-actor-nodes w ↦ subst (DecidedTo l k g (n + 1)) (sym w.self-is) (w.decide_at_node.ensures.is l k g holds now)
      | else-actor-nodes w ↦
          let same = mover_number x c.len-nodes.result n many (omega (arith, w.if-actor-nodes.false)) in
          subst (λ (v : ℕ). DecidedTo l k g (v + 1) y) (sym same)
          (subst (DecidedTo l k g ((length x.nodes.items + (n - c.len-nodes.result)) + 1)) (sym w.self-is) (w.decide_at_mover.ensures.is l k g holds (subst (λ (v : ℕ). DecidedTo l k g v x) same now)))
    ]
    in
    record {
      nodes = inv.nodes;
      past = next.within;
      decided = λ l k g holds to. passed c.runs_go_by_rules.ensures l k g (n + 1) c.next_set-actor-in-loop-actor.result y (decides l k g holds to) next.past next.between;
      kept = record { rows = keeps.rows ∙ inv.kept.rows; given = keeps.given ∙ inv.kept.given };
    }

pub returns-clause-is : goal.returns-clause-is
returns-clause-is c = λ l k g holds to.
    let inv = c.loop-actor.invariant in
    let x = c.loop-actor.self in
    let now = inv.decided l k g holds to in
    let last : c.loop-actor.actor ≡ actors_of l = omega (arith, c.loop-actor-test.false, inv.past, now.asleep.many) in
    subst (λ (v : ℕ). DecidedTo l k g v x) last now
