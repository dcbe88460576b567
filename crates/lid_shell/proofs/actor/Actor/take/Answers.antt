-- A take is made as the machine makes it.
use Rattle.std.proofs.Common.{ℕ, Bool, get_or, sym, ◌∙◌, ap}
use Rattle.lid_base.specs.declared.runs.Answer.TheVariants as answer
use Rattle.lid_walk_machine.specs.Setups.{plan}
use Rattle.lid_walk_machine.specs.Machine.{in_at}
use Rattle.lid_shell.specs.Inside.{further}
use Rattle.lid_shell.proofs.Told.{at_in}
use Rattle.lid_shell.proofs.Desks.{own_in}
use Rattle.lid_shell.proofs.Made.{taking, gone}
use Rattle.lid_shell.proofs.actor.Actor.take.Goals as goal

pub returns-clause-goes : goal.returns-clause-goes
returns-clause-goes g c = λ m v q w is about.
    let at = own_in m v q c.args.self.now.desk c.as_slice.result.now c.args.i w.busy.at c.as_slice.ensures about.1 in
    let station : ℕ = get_or c.as_slice.result.now c.args.i 0 in
    let took = c.take-token.ensures.takes m v q w about in
    let done = c.finish-fired.ensures m v (further q) (taking m v q c.take-token.new.self c.args.self.now.part c.args.i took.work.busy is about.0 about.1) in
    record {
      answers =
          ap (λ (s : ℕ). answer.Took s c.take-token.result c.finish-fired.result) (sym (at_in m v c.args.i station at))
          ∙ ap (λ (x : ℕ). answer.Took (in_at (plan m) v c.args.i) x c.finish-fired.result) took.token_is
          ∙ ap (λ (b : Bool). answer.Took (in_at (plan m) v c.args.i) ((plan m).token (in_at (plan m) v c.args.i) q.fired) b) done.tells;
      works = gone m v q c.finish-fired.result c.finish-fired.new.self _ _ done took.work.agrees took.work.streams;
    }
