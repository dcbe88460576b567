use Rattle.std.proofs.Common.{arith}
use Rattle.std.proofs.lemmas.Option.{slice_get_within}
use Rattle.lid_shell.specs.declared.actor.Actor.{Actor}
use Rattle.lid_free_crew.proofs.Lists.{mapped}
use Rattle.lid_free.proofs.gathering.note_fired.Goals as goal

pub returns : goal.returns
returns c =
    mapped (λ (a : Actor). a.desk.fired) c.args.actors.now c.loop-actor.fired c.loop-actor.invariant.many
    (λ v a at_a.
    let within = slice_get_within c.args.actors.now v a at_a in
    let past = c.loop-actor-test.false in
    c.loop-actor.invariant.each v a (omega arith) at_a)
