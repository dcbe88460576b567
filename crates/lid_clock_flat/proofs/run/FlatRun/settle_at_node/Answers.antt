-- A node loses the oldest tokens of the stations that it drains, and then gains those in the stations that it fills.
use Rattle.std.proofs.Common.{refl, ◌∙◌}
use Rattle.lid_clock_flat.proofs.Ending.{node_ends, among, ins_there, ins_once, ins_can, outs_there, outs_once, outs_can, mid_among, settled_next}
use Rattle.lid_clock_flat.proofs.run.FlatRun.settle_at_node.Goals as goal

pub settle_ends-requires-clause-there : goal.settle_ends-requires-clause-there
settle_ends-requires-clause-there c =
    let q = c.requires in
    let ends = node_ends q.1.0 q.1.1 q.1.2 q.0 q.1.3 c.args.node c.args.self.now q.2 c.index-actor.result.now q.4 c.index-actor.ensures in
    ins_there c.runs_go_by_rules.ensures q.1.0 q.1.1 q.1.2 q.0 q.1.3 c.args.node c.args.self.now q.2 q.3 c.drained.result.now _ (c.drained.ensures ∙ ends.0) ends.1

pub settle_ends-requires-clause-once : goal.settle_ends-requires-clause-once
settle_ends-requires-clause-once c =
    let q = c.requires in
    let ends = node_ends q.1.0 q.1.1 q.1.2 q.0 q.1.3 c.args.node c.args.self.now q.2 c.index-actor.result.now q.4 c.index-actor.ensures in
    ins_once c.runs_go_by_rules.ensures q.1.0 q.1.1 q.1.2 q.0 q.1.3 c.args.node c.args.self.now q.2 q.3 c.drained.result.now _ (c.drained.ensures ∙ ends.0) ends.1

pub settle_ends-requires-clause-can : goal.settle_ends-requires-clause-can
settle_ends-requires-clause-can c =
    let q = c.requires in
    let ends = node_ends q.1.0 q.1.1 q.1.2 q.0 q.1.3 c.args.node c.args.self.now q.2 c.index-actor.result.now q.4 c.index-actor.ensures in
    ins_can c.runs_go_by_rules.ensures q.1.0 q.1.1 q.1.2 q.0 q.1.3 c.args.node c.args.self.now q.2 q.3 c.drained.result.now _ (c.drained.ensures ∙ ends.0) ends.1

pub settle_ends-requires-clause-among : goal.settle_ends-requires-clause-among
settle_ends-requires-clause-among c =
    let q = c.requires in
    let ends = node_ends q.1.0 q.1.1 q.1.2 q.0 q.1.3 c.args.node c.args.self.now q.2 c.index-actor.result.now q.4 c.index-actor.ensures in
    among c.runs_go_by_rules.ensures q.1.0 q.1.1 q.1.2 q.0 q.1.3 c.args.node c.args.self.now q.2 q.3 c.drained.result.now _ (c.drained.ensures ∙ ends.0) ends.1

pub settle_ends-requires-2-clause-there : goal.settle_ends-requires-2-clause-there
settle_ends-requires-2-clause-there c =
    let q = c.requires in
    let ends = node_ends q.1.0 q.1.1 q.1.2 q.0 q.1.3 c.args.node c.args.self.now q.2 c.index-actor.result.now q.4 c.index-actor.ensures in
    outs_there c.runs_go_by_rules.ensures q.1.0 q.1.1 q.1.2 q.0 q.1.3 c.args.node c.args.self.now q.2 q.3 c.drained.result.now c.filled.result.now (c.drained.ensures ∙ ends.0) (c.filled.ensures ∙ ends.1) c.settle_ends.new.stations.all.items c.settle_ends.ensures.settle.many

pub settle_ends-requires-2-clause-once : goal.settle_ends-requires-2-clause-once
settle_ends-requires-2-clause-once c =
    let q = c.requires in
    let ends = node_ends q.1.0 q.1.1 q.1.2 q.0 q.1.3 c.args.node c.args.self.now q.2 c.index-actor.result.now q.4 c.index-actor.ensures in
    outs_once c.runs_go_by_rules.ensures q.1.0 q.1.1 q.1.2 q.0 q.1.3 c.args.node c.args.self.now q.2 q.3 c.drained.result.now c.filled.result.now (c.drained.ensures ∙ ends.0) (c.filled.ensures ∙ ends.1)

pub settle_ends-requires-2-clause-can : goal.settle_ends-requires-2-clause-can
settle_ends-requires-2-clause-can c =
    let q = c.requires in
    let ends = node_ends q.1.0 q.1.1 q.1.2 q.0 q.1.3 c.args.node c.args.self.now q.2 c.index-actor.result.now q.4 c.index-actor.ensures in
    outs_can c.runs_go_by_rules.ensures q.1.0 q.1.1 q.1.2 q.0 q.1.3 c.args.node c.args.self.now q.2 q.3 c.drained.result.now c.filled.result.now (c.drained.ensures ∙ ends.0) (c.filled.ensures ∙ ends.1)
    c.settle_ends.new.stations.all.items c.settle_ends.new.stations.all.items c.settle_ends.new.awake.items c.settle_ends.new.awake.items c.settle_ends.ensures.settle

pub settle_ends-requires-2-clause-among : goal.settle_ends-requires-2-clause-among
settle_ends-requires-2-clause-among c =
    let q = c.requires in
    let ends = node_ends q.1.0 q.1.1 q.1.2 q.0 q.1.3 c.args.node c.args.self.now q.2 c.index-actor.result.now q.4 c.index-actor.ensures in
    mid_among c.runs_go_by_rules.ensures q.1.0 q.1.1 q.1.2 q.0 q.1.3 c.args.node c.args.self.now q.2 q.3 c.drained.result.now c.filled.result.now (c.drained.ensures ∙ ends.0) (c.filled.ensures ∙ ends.1)
    c.settle_ends.new.stations.all.items c.settle_ends.new.stations.all.items c.settle_ends.new.awake.items c.settle_ends.new.awake.items c.settle_ends.ensures.settle

pub returns : goal.returns
returns c = λ x have to fired within.
    let ends = node_ends have.0 have.1 have.2 x have.3 c.args.node c.args.self.now to c.index-actor.result.now within c.index-actor.ensures in
    settled_next c.runs_go_by_rules.ensures have.0 have.1 have.2 x have.3 c.args.node c.args.self.now to fired c.drained.result.now c.filled.result.now (c.drained.ensures ∙ ends.0) (c.filled.ensures ∙ ends.1)
    c.settle_ends.new.stations.all.items c.settle_ends-2.new.stations.all.items c.settle_ends.new.awake.items c.settle_ends-2.new.awake.items c.settle_ends.ensures.settle c.settle_ends-2.ensures.settle _
    (record { nodes = refl; movers = refl; places = c.settle_ends-2.ensures.kept ∙ c.settle_ends.ensures.kept; rest = record { rows = refl; given = refl } }) refl refl refl
