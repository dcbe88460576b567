-- Where nothing is put the tokens are made at the end of a firing, and else before.
use Rattle.std.proofs.Common.{◌≡◌, length, sym, ◌∙◌, ap, arith}
use Rattle.std.proofs.lemmas.Bool.{eqb-true, eqb-false}
use Rattle.lid_walk_machine.specs.Plans.{outs_of}
use Rattle.lid_walk_machine.specs.Setups.{plan}
use Rattle.lid_shell.proofs.Made.{before_first, closed_late}
use Rattle.lid_shell.proofs.actor.Actor.close.Goals as goal

pub returns-then-is_empty : goal.returns-then-is_empty
returns-then-is_empty c = λ m v q going ends.
    let none : length c.args.self.now.desk.outs.items ≡ 0 = eqb-true _ _ (sym c.is_empty.ensures ∙ c.if-is_empty.true) in
    let outs : length c.args.self.now.desk.outs.items ≡ length (outs_of (plan m) v) = ap length going.busy.at.fills in
    let made = c.make.ensures.made m v q (before_first m v q c.args.self.now going (omega arith)) in
    record { busy = made.busy; is = made.is }

pub returns-else-is_empty : goal.returns-else-is_empty
returns-else-is_empty c = λ m v q going ends.
    let some = eqb-false (length c.args.self.now.desk.outs.items) 0 (sym c.is_empty.ensures ∙ c.if-is_empty.false) in
    let outs : length c.args.self.now.desk.outs.items ≡ length (outs_of (plan m) v) = ap length going.busy.at.fills in
    closed_late c.actors_go_by_rules.ensures m v q c.args.self.now (omega (arith, some)) going ends
