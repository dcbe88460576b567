-- A mover loses the oldest token of the station that it drains, and then gains the one in the next.
use Rattle.std.proofs.Common.{◌≡◌, ℕ, ◌+◌, true, false, [], ◌∷◌, length, set, refl, ◌∙◌, ap, arith}
use Rattle.lid_clock_flat.proofs.Ending.{mover_ends, end_alone, among, ins_there, ins_can, outs_there, outs_can, mid_among, settled_next}
use Rattle.lid_clock_flat.proofs.run.FlatRun.settle_at_mover.Goals as goal

pub settle_end-requires-clause-there : goal.settle_end-requires-clause-there
settle_end-requires-clause-there c =
    let q = c.requires in
    let s = c.index.result.now.station in
    let n : ℕ = length (q.0).nodes.items + c.args.mover in
    let ends = mover_ends q.1.0 q.1.1 q.1.2 q.0 q.1.3 n c.args.mover c.args.self.now q.2 c.index.result.now refl q.4 c.index.ensures in
    ins_there c.runs_go_by_rules.ensures q.1.0 q.1.1 q.1.2 q.0 q.1.3 n c.args.self.now q.2 q.3 (s ∷ []) ((s + 1) ∷ []) ends.0 ends.1 0 (omega arith)

pub settle_end-requires-clause-can : goal.settle_end-requires-clause-can
settle_end-requires-clause-can c =
    let q = c.requires in
    let s = c.index.result.now.station in
    let n : ℕ = length (q.0).nodes.items + c.args.mover in
    let ends = mover_ends q.1.0 q.1.1 q.1.2 q.0 q.1.3 n c.args.mover c.args.self.now q.2 c.index.result.now refl q.4 c.index.ensures in
    ins_can c.runs_go_by_rules.ensures q.1.0 q.1.1 q.1.2 q.0 q.1.3 n c.args.self.now q.2 q.3 (s ∷ []) ((s + 1) ∷ []) ends.0 ends.1 0 (omega arith)

pub settle_end-requires-clause-among : goal.settle_end-requires-clause-among
settle_end-requires-clause-among c =
    let q = c.requires in
    let s = c.index.result.now.station in
    let n : ℕ = length (q.0).nodes.items + c.args.mover in
    let ends = mover_ends q.1.0 q.1.1 q.1.2 q.0 q.1.3 n c.args.mover c.args.self.now q.2 c.index.result.now refl q.4 c.index.ensures in
    among c.runs_go_by_rules.ensures q.1.0 q.1.1 q.1.2 q.0 q.1.3 n c.args.self.now q.2 q.3 (s ∷ []) ((s + 1) ∷ []) ends.0 ends.1

pub settle_end-requires-2-clause-there : goal.settle_end-requires-2-clause-there
settle_end-requires-2-clause-there c =
    let q = c.requires in
    let s = c.index.result.now.station in
    let n : ℕ = length (q.0).nodes.items + c.args.mover in
    let ends = mover_ends q.1.0 q.1.1 q.1.2 q.0 q.1.3 n c.args.mover c.args.self.now q.2 c.index.result.now refl q.4 c.index.ensures in
    let alone = end_alone s true c.args.self.now.stations.all.items c.settle_end.new.stations.all.items c.args.self.now.awake.items c.settle_end.new.awake.items c.settle_end.ensures.settles
    (among c.runs_go_by_rules.ensures q.1.0 q.1.1 q.1.2 q.0 q.1.3 n c.args.self.now q.2 q.3 (s ∷ []) ((s + 1) ∷ []) ends.0 ends.1) in
    outs_there c.runs_go_by_rules.ensures q.1.0 q.1.1 q.1.2 q.0 q.1.3 n c.args.self.now q.2 q.3 (s ∷ []) ((s + 1) ∷ []) ends.0 ends.1 c.settle_end.new.stations.all.items alone.many 0 (omega arith)

pub settle_end-requires-2-clause-can : goal.settle_end-requires-2-clause-can
settle_end-requires-2-clause-can c =
    let q = c.requires in
    let s = c.index.result.now.station in
    let n : ℕ = length (q.0).nodes.items + c.args.mover in
    let ends = mover_ends q.1.0 q.1.1 q.1.2 q.0 q.1.3 n c.args.mover c.args.self.now q.2 c.index.result.now refl q.4 c.index.ensures in
    let alone = end_alone s true c.args.self.now.stations.all.items c.settle_end.new.stations.all.items c.args.self.now.awake.items c.settle_end.new.awake.items c.settle_end.ensures.settles
    (among c.runs_go_by_rules.ensures q.1.0 q.1.1 q.1.2 q.0 q.1.3 n c.args.self.now q.2 q.3 (s ∷ []) ((s + 1) ∷ []) ends.0 ends.1) in
    outs_can c.runs_go_by_rules.ensures q.1.0 q.1.1 q.1.2 q.0 q.1.3 n c.args.self.now q.2 q.3 (s ∷ []) ((s + 1) ∷ []) ends.0 ends.1 c.settle_end.new.stations.all.items c.settle_end.new.stations.all.items c.settle_end.new.awake.items c.settle_end.new.awake.items alone 0 (omega arith)

pub settle_end-requires-2-clause-among : goal.settle_end-requires-2-clause-among
settle_end-requires-2-clause-among c =
    let q = c.requires in
    let s = c.index.result.now.station in
    let n : ℕ = length (q.0).nodes.items + c.args.mover in
    let ends = mover_ends q.1.0 q.1.1 q.1.2 q.0 q.1.3 n c.args.mover c.args.self.now q.2 c.index.result.now refl q.4 c.index.ensures in
    let alone = end_alone s true c.args.self.now.stations.all.items c.settle_end.new.stations.all.items c.args.self.now.awake.items c.settle_end.new.awake.items c.settle_end.ensures.settles
    (among c.runs_go_by_rules.ensures q.1.0 q.1.1 q.1.2 q.0 q.1.3 n c.args.self.now q.2 q.3 (s ∷ []) ((s + 1) ∷ []) ends.0 ends.1) in
    mid_among c.runs_go_by_rules.ensures q.1.0 q.1.1 q.1.2 q.0 q.1.3 n c.args.self.now q.2 q.3 (s ∷ []) ((s + 1) ∷ []) ends.0 ends.1 c.settle_end.new.stations.all.items c.settle_end.new.stations.all.items c.settle_end.new.awake.items c.settle_end.new.awake.items alone

pub returns : goal.returns
returns c = λ x have to fired within.
    let s = c.index.result.now.station in
    let n : ℕ = length x.nodes.items + c.args.mover in
    let ends = mover_ends have.0 have.1 have.2 x have.3 n c.args.mover c.args.self.now to c.index.result.now refl within c.index.ensures in
    let own = among c.runs_go_by_rules.ensures have.0 have.1 have.2 x have.3 n c.args.self.now to fired (s ∷ []) ((s + 1) ∷ []) ends.0 ends.1 in
    let alone = end_alone s true c.args.self.now.stations.all.items c.settle_end.new.stations.all.items c.args.self.now.awake.items c.settle_end.new.awake.items c.settle_end.ensures.settles own in
    let mid = mid_among c.runs_go_by_rules.ensures have.0 have.1 have.2 x have.3 n c.args.self.now to fired (s ∷ []) ((s + 1) ∷ []) ends.0 ends.1 c.settle_end.new.stations.all.items c.settle_end.new.stations.all.items c.settle_end.new.awake.items c.settle_end.new.awake.items alone in
    let also = end_alone (s + 1) false c.settle_end.new.stations.all.items c.settle_end-2.new.stations.all.items c.settle_end.new.awake.items c.settle_end-2.new.awake.items c.settle_end-2.ensures.settles mid in
    let many = c.args.self.now.nodes.ok.0 in
    let first : c.len.result ≡ length c.args.self.now.nodes.items = omega (arith, c.len.ensures) in
    let number : c.len.result + c.args.mover ≡ n = ap (λ (v : ℕ). v + c.args.mover) (first ∙ ap (λ ns. length ns.items) to.keeps.nodes) in
    settled_next c.runs_go_by_rules.ensures have.0 have.1 have.2 x have.3 n c.args.self.now to fired (s ∷ []) ((s + 1) ∷ []) ends.0 ends.1
    c.settle_end.new.stations.all.items c.settle_end-2.new.stations.all.items c.settle_end.new.awake.items c.settle_end-2.new.awake.items alone also _
    (record { nodes = refl; movers = refl; places = c.settle_end-2.ensures.kept ∙ c.settle_end.ensures.kept; rest = record { rows = refl; given = refl } }) refl refl
    (ap (λ (v : ℕ). set c.args.self.now.went.items v false) number)
