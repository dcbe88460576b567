-- An actor whose position is the end of a firing has fired.
use Rattle.std.proofs.Common.{◌+◌, length, refl, ap, arith}
use Rattle.lid_shell.proofs.Places.{few_ins, few_outs}
use Rattle.lid_shell.proofs.Made.{at_end, finished, fired_fits}
use Rattle.lid_shell.proofs.actor.Actor.finish.Goals as goal

pub end-requires : goal.end-requires
end-requires c =
    let q = c.requires in
    let ins = few_ins q.setup q.number q.going.busy.rules in
    let outs = few_outs q.setup q.number q.going.busy.rules in
    let has_ins = ap length q.going.busy.at.drains in
    let has_outs = ap length q.going.busy.at.fills in
    omega arith

pub overflow_add-self : goal.overflow_add-self
overflow_add-self c =
    let q = c.requires in
    let ends = at_end q.setup q.number q.far c.args.self.now.desk c.end.result q.going.busy c.end.ensures c.if-self-end.false in
    let fits = fired_fits q.setup q.number q.far c.close.new.self.desk (c.close.ensures q.setup q.number q.far q.going ends).busy in
    omega arith

pub returns : goal.returns
returns c = λ m v q going.
    let ends = at_end m v q c.args.self.now.desk c.end.result going.busy c.end.ensures c.if-self-end.false in
    finished m v q c.close.new.self (c.close.new.self.desk.fired + 1) (c.close.ensures m v q going ends) ends refl
