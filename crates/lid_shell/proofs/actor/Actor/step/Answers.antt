-- Each step is that of the machine.
use Rattle.std.proofs.Common.{true, length, refl, ap, arith}
use Rattle.lid_base.specs.declared.runs.Answer.TheVariants as answer
use Rattle.lid_shell.specs.declared.desk.Next.TheVariants.{LookIn, LookOut, Take, Put, Fire}
use Rattle.lid_shell.specs.Steps.{found_in}
use Rattle.lid_shell.proofs.Places.{few_ins, few_outs}
use Rattle.lid_shell.proofs.Stepped.{ready, about_of, stepped_in, stepped_out, stepped_on, exact_at, fires_so}
use Rattle.lid_shell.proofs.Noting.{none_noted, one_noted, no_station}
use Rattle.lid_shell.proofs.actor.Actor.step.Goals as goal

pub returns-then-self-clause-exact : goal.returns-then-self-clause-exact
returns-then-self-clause-exact g c = λ m v st w serves below.
    let fired = w.actor.at.fired_is in
    let most = w.actor.at.capped in
    let same = c.if-self.true in
    absurd (omega arith)

pub next-requires : goal.next-requires
next-requires g c =
    let q = c.requires.can in
    let ins = few_ins q.0 q.1 q.3.actor.rules in
    let outs = few_outs q.0 q.1 q.3.actor.rules in
    let has_ins = ap length q.3.actor.at.drains in
    let has_outs = ap length q.3.actor.at.fills in
    omega arith

pub returns-in-LookIn-clause-steps : goal.returns-in-LookIn-clause-steps
returns-in-LookIn-clause-steps g c = λ m v q w.
    let can = ready m v q c.args.self.now (LookIn c.in-LookIn.i) _ _ w c.if-self.false c.in-LookIn.ensures in
    stepped_in m v q c.in-LookIn.i c.look_in.result c.look_in.new.self c.args.self.now.part _ _ can.0.busy.below can.1 w.actor.is (c.look_in.ensures.looks m v q can.0 can.1)

pub returns-in-LookIn-clause-exact : goal.returns-in-LookIn-clause-exact
returns-in-LookIn-clause-exact g c = λ m v st w serves below.
    let can = ready m v (st v) c.args.self.now (LookIn c.in-LookIn.i) _ _ w c.if-self.false c.in-LookIn.ensures in
    exact_at m v st (LookIn c.in-LookIn.i) (found_in c.look_in.result) can.1 (c.look_in.ensures.exact m v st can.0 can.1 serves)

pub returns-in-LookOut-clause-steps : goal.returns-in-LookOut-clause-steps
returns-in-LookOut-clause-steps g c = λ m v q w.
    let can = ready m v q c.args.self.now (LookOut c.in-LookOut.j) _ _ w c.if-self.false c.in-LookOut.ensures in
    stepped_out m v q c.in-LookOut.j c.look_out.result c.look_out.new.self c.args.self.now.part _ _ can.0.busy.below can.1 w.actor.is (c.look_out.ensures.looks m v q can.0 can.1)

pub returns-in-LookOut-clause-exact : goal.returns-in-LookOut-clause-exact
returns-in-LookOut-clause-exact g c = λ m v st w serves below.
    let can = ready m v (st v) c.args.self.now (LookOut c.in-LookOut.j) _ _ w c.if-self.false c.in-LookOut.ensures in
    exact_at m v st (LookOut c.in-LookOut.j) (found_in c.look_out.result) can.1 (c.look_out.ensures.exact m v st can.0 can.1 serves)

pub returns-in-Take-clause-steps : goal.returns-in-Take-clause-steps
returns-in-Take-clause-steps g c = λ m v q w.
    let can = ready m v q c.args.self.now (Take c.in-Take.i) _ _ w c.if-self.false c.in-Take.ensures in
    let done = c.take.ensures.goes m v q can.0 w.actor.is can.1 in
    stepped_on m v q (Take c.in-Take.i) c.take.result c.take.new.self _ _ can.0.busy.below can.1 done (ap found_in done.answers)

pub returns-in-Take-clause-exact : goal.returns-in-Take-clause-exact
returns-in-Take-clause-exact g c = λ m v st w serves below.
    let can = ready m v (st v) c.args.self.now (Take c.in-Take.i) _ _ w c.if-self.false c.in-Take.ensures in
    let done = c.take.ensures.goes m v (st v) can.0 w.actor.is can.1 in
    exact_at m v st (Take c.in-Take.i) (found_in c.take.result) can.1 (ap found_in done.answers)

pub returns-in-Put-clause-steps : goal.returns-in-Put-clause-steps
returns-in-Put-clause-steps g c = λ m v q w.
    let can = ready m v q c.args.self.now (Put c.in-Put.j) _ _ w c.if-self.false c.in-Put.ensures in
    let done = c.put.ensures.goes m v q can.0 w.actor.is can.1 in
    stepped_on m v q (Put c.in-Put.j) c.put.result c.put.new.self _ _ can.0.busy.below can.1 done (ap found_in done.answers)

pub returns-in-Put-clause-exact : goal.returns-in-Put-clause-exact
returns-in-Put-clause-exact g c = λ m v st w serves below.
    let can = ready m v (st v) c.args.self.now (Put c.in-Put.j) _ _ w c.if-self.false c.in-Put.ensures in
    let done = c.put.ensures.goes m v (st v) can.0 w.actor.is can.1 in
    exact_at m v st (Put c.in-Put.j) (found_in c.put.result) can.1 (ap found_in done.answers)

pub returns-in-Fire-clause-steps : goal.returns-in-Fire-clause-steps
returns-in-Fire-clause-steps g c = λ m v q w.
    let can = ready m v q c.args.self.now Fire _ _ w c.if-self.false c.in-Fire.ensures in
    stepped_on m v q Fire answer.Fired c.fire.new.self _ _ can.0.busy.below can.1
    (fires_so m v q c.args.self.now c.fire.new.self _ _ w can.0.busy.within can.1 (c.fire.ensures m v q (record { busy = can.0.busy; is = w.actor.is }) can.1)) refl

pub returns-in-Fire-clause-exact : goal.returns-in-Fire-clause-exact
returns-in-Fire-clause-exact g c = λ m v st w serves below.
    let about = about_of m v (st v) c.args.self.now.desk Fire w.actor.at c.in-Fire.ensures in
    exact_at m v st Fire true about refl

pub returns-then-self-clause-notes : goal.returns-then-self-clause-notes
returns-then-self-clause-notes g c = none_noted c.args.self.now _ (λ below some. below c.if-self.true)

pub returns-in-LookIn-clause-notes : goal.returns-in-LookIn-clause-notes
returns-in-LookIn-clause-notes g c = one_noted c.args.self.now _ _ c.look_in.ensures.notes

pub returns-in-LookOut-clause-notes : goal.returns-in-LookOut-clause-notes
returns-in-LookOut-clause-notes g c = one_noted c.args.self.now _ _ c.look_out.ensures.notes

pub returns-in-Take-clause-notes : goal.returns-in-Take-clause-notes
returns-in-Take-clause-notes g c = one_noted c.args.self.now _ _ c.take.ensures.notes

pub returns-in-Put-clause-notes : goal.returns-in-Put-clause-notes
returns-in-Put-clause-notes g c = one_noted c.args.self.now _ _ c.put.ensures.notes

pub returns-in-Fire-clause-notes : goal.returns-in-Fire-clause-notes
returns-in-Fire-clause-notes g c =
    let q = c.requires.can in
    none_noted c.args.self.now _ (λ below. no_station c.args.self.now q.0 q.1 q.2.fired q.2.position _ _ q.3 c.in-Fire.ensures)
