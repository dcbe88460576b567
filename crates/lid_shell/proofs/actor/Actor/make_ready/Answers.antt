-- The first put of a firing finds its tokens made.
use Rattle.std.proofs.Common.{arith}
use Rattle.lid_shell.proofs.Made.{before_first, ready_first}
use Rattle.lid_shell.proofs.actor.Actor.make_ready.Goals as goal

pub returns-then-j-eq0-clause-ready : goal.returns-then-j-eq0-clause-ready
returns-then-j-eq0-clause-ready c = λ m v q going about.
    let here = about.0 in
    let some = about.1 in
    ready_first c.actors_go_by_rules.ensures m v q c.make.new.self (omega arith) (c.make.ensures.made m v q (before_first m v q c.args.self.now going (omega arith)))
