-- A cycle takes a run of each life with this hold to that after the cycle.
use Rattle.lid_clock.proofs.Held.{held_so, replaced, replaced_holds}
use Rattle.lid_clock_flat.proofs.Alike.{none_so}
use Rattle.lid_clock_flat.proofs.Waking.{none_to}
use Rattle.lid_clock_flat.proofs.Going.{goes_on}
use Rattle.lid_clock_flat.proofs.Told.{needs_too}
use Rattle.lid_clock_flat.proofs.run.FlatRun.cycle.Goals as goal

pub decide_all-requires : goal.decide_all-requires
decide_all-requires c =
    let q = c.requires in
    (held_so q.0 (replaced q.0 q.1 c.args.source c.args.sink), q.1, q.2, replaced_holds q.0 q.1 c.args.source c.args.sink, none_so q.0 q.1 q.2 c.args.self.now q.3 q.4 c.args.source c.args.sink)

pub settle_all-requires : goal.settle_all-requires
settle_all-requires c =
    let q = c.requires in
    let l = held_so q.0 (replaced q.0 q.1 c.args.source c.args.sink) in
    (l, q.1, q.2, c.decide_all.ensures.is l q.1 q.2 (replaced_holds q.0 q.1 c.args.source c.args.sink) (none_so q.0 q.1 q.2 c.args.self.now q.3 q.4 c.args.source c.args.sink))

pub returns-clause-ran : goal.returns-clause-ran
returns-clause-ran c = λ l k g ran holds _.
    let q = c.requires in
    let x = c.args.self.now in
    let to = none_to l k g x ran (λ needs. q.4 (needs_too l q.0 k g q.1 q.2 x ran q.3 needs)) in
    goes_on c.runs_go_by_rules.ensures l k g c.decide_all.new.self c.settle_all.new.self (c.decide_all.ensures.is l k g holds to) c.settle_all.ensures x ran c.decide_all.ensures.kept
