-- A node decides beside the stations as those before it have left them, and stays awake where it fired or is held.
use Rattle.std.proofs.Common.{◌≡◌, ℕ, ◌-◌, Bool, length, set, refl, sym, ◌∙◌, ap, arith}
use Rattle.std.specs.Prelude.{◌||◌}
use Rattle.lid_base.proofs.Places.{item_read}
use Rattle.lid_clock.specs.Cycles.{held_at}
use Rattle.lid_clock_flat.proofs.Waking.{node_ready, node_next}
use Rattle.lid_clock_flat.proofs.run.FlatRun.decide_at_node.Goals as goal
use Rattle.lid_clock_flat.proofs.run.FlatRun.decide_at_node.Goals.{then-went, else-went}

pub decide_node-went-requires : goal.decide_node-went-requires
decide_node-went-requires c =
    let q = c.requires in
    let x = c.args.self.now in
    let many = x.nodes.ok.0 in
    let number : c.len.result ≡ length x.nodes.items = omega (arith, c.len.ensures) in
    let is = c.is_held-held.ensures ∙ ap (λ (n : ℕ). held_at (n - 1) c.args.source c.args.sink c.args.node) number in
    let at = item_read x.nodes.items c.args.node c.index_mut.result.now q.5 c.index_mut.ensures.value in
    (q.0, q.1, q.2, c.args.node, node_ready q.0 q.1 q.2 c.args.node c.args.source c.args.sink c.is_held-held.result c.is_held-held.result x q.4 c.index_mut.result.now x.stations c.index_mut.result.now at q.3 is)

pub returns-clause-is : goal.returns-clause-is
returns-clause-is c = λ l k g holds to.
    let q = c.requires in
    let x = c.args.self.now in
    let went = c.decide_node-went.result in
    let held = c.is_held-held.result in
    let many = x.nodes.ok.0 in
    let number : c.len.result ≡ length x.nodes.items = omega (arith, c.len.ensures) in
    let is = c.is_held-held.ensures ∙ ap (λ (n : ℕ). held_at (n - 1) c.args.source c.args.sink c.args.node) number in
    let at = item_read x.nodes.items c.args.node c.index_mut.result.now q.5 c.index_mut.ensures.value in
    let begins = node_ready l k g c.args.node c.args.source c.args.sink held went x to c.decide_node-went.new.node c.decide_node-went.new.stations c.index_mut.result.now at holds is in
    let stays : c.if-went.stays ≡ (went || held) = elim c.if-went.branch [
      | then-went w ↦ w.stays-is ∙ w.if-went.true ∙ sym (ap (λ (b : Bool). b || held) w.if-went.true)
      | else-went w ↦ w.stays-is ∙ sym (ap (λ (b : Bool). b || held) w.if-went.false)
    ] in
    node_next l k g c.args.node c.args.source c.args.sink held went x to c.decide_node-went.new.node c.decide_node-went.new.stations _ q.5 (c.decide_node-went.ensures l k g c.args.node begins) refl refl refl refl
    (ap (set x.awake.items c.args.node) stays)
