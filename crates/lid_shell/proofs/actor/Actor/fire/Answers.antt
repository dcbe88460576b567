-- An actor without stations is at the end of a firing.
use Rattle.std.proofs.Common.{◌≡◌, Bool, true, length, ◌∙◌, subst, arith, eq-eqb}
use Rattle.lid_walk_machine.specs.Plans.{ins_of, outs_of}
use Rattle.lid_walk_machine.specs.Setups.{plan}
use Rattle.lid_walk_machine.specs.Machine.{ends_at}
use Rattle.lid_shell.specs.Actors.{IsActor}
use Rattle.lid_shell.specs.Inside.{closed}
use Rattle.lid_shell.proofs.actor.Actor.fire.Goals as goal

pub returns : goal.returns
returns c = λ m v q going past.
    let within = going.busy.within in
    let done = c.finish.ensures m v q going in
    let last : c.finish.result ≡ true = done.tells ∙ eq-eqb q.position (ends_at (length (ins_of (plan m) v)) (length (outs_of (plan m) v))) (omega arith) in
    subst (λ (b : Bool). IsActor m v (closed b q) c.finish.new.self) last done.actor
