-- A mover that sees no bar fires; else it rests.
use Rattle.lid_clock_flat.proofs.Moves.{beside, few_fired, mover_fired, mover_rested}
use Rattle.lid_clock_flat.proofs.mover.FlatMover.decide.Goals as goal

pub may_fire-requires : goal.may_fire-requires
may_fire-requires c = let q = c.requires in beside c.runs_go_by_rules.ensures q.0 q.1 q.2 c.args.self.now c.args.stations.now q.3

pub returns-then-not-may_fire : goal.returns-then-not-may_fire
returns-then-not-may_fire c = λ l k v begins. mover_rested c.runs_go_by_rules.ensures l k v c.args.self.now c.args.stations.now begins (c.may_fire.ensures.no c.if-not-may_fire.true)

pub go-requires-clause-there : goal.go-requires-clause-there
go-requires-clause-there c = let q = c.requires in beside c.runs_go_by_rules.ensures q.0 q.1 q.2 c.args.self.now c.args.stations.now q.3

pub go-requires-clause-few : goal.go-requires-clause-few
go-requires-clause-few c = let q = c.requires in few_fired c.runs_go_by_rules.ensures q.0 q.1 q.2 c.args.self.now c.args.stations.now q.3

pub returns : goal.returns
returns c = λ l k v begins.
    mover_fired c.runs_go_by_rules.ensures l k v c.args.self.now c.args.stations.now begins c.go.new.self c.go.new.stations (c.may_fire.ensures.yes c.if-not-may_fire.false) c.go.ensures
