-- Nodes and movers count how often they have fired.
use Rattle.std.proofs.Common.{◌≡◌, ◌-◌, ◌<◌, ◌≤◌, length, ◌∙◌, arith}
use Rattle.lid_base.proofs.Places.{item_read}
use Rattle.lid_clock_flat.proofs.Told.{node_fired_is, mover_fired_is}
use Rattle.lid_clock_flat.proofs.run.FlatRun.fired.Goals as goal

pub returns-then-v-nodes : goal.returns-then-v-nodes
returns-then-v-nodes c = λ l k g ran.
    let x = c.args.self.now in
    let many = x.nodes.ok.0 in
    let within : c.args.actor < length x.nodes.items = omega arith in
    c.count.ensures ∙ node_fired_is l k g x ran c.args.actor c.index.result.now (item_read x.nodes.items c.args.actor c.index.result.now within c.index.ensures)

pub returns-else-v-nodes : goal.returns-else-v-nodes
returns-else-v-nodes c = λ l k g ran.
    let q = c.requires in
    let x = c.args.self.now in
    let nodes = x.nodes.ok.0 in
    let count = q.3.all_movers.many in
    let own = q.3.all_nodes.many in
    let same : c.len-nodes.result ≡ length x.nodes.items = omega arith in
    let past : c.len-nodes.result ≤ c.args.actor = omega arith in
    let within : c.args.actor - c.len-nodes.result < length x.movers.items = omega (arith, q.4) in
    mover_fired_is l k g x ran c.args.actor c.len-nodes.result c.index-else-v-nodes.result.now same past
    (item_read x.movers.items (c.args.actor - c.len-nodes.result) c.index-else-v-nodes.result.now within c.index-else-v-nodes.ensures)
