-- A put is made as the machine makes it.
use Rattle.std.proofs.Common.{ℕ, ◌+◌, Bool, get_or, sym, ◌∙◌, ap}
use Rattle.lid_base.specs.declared.runs.Answer.TheVariants as answer
use Rattle.lid_walk_machine.specs.Plans.{start_of}
use Rattle.lid_walk_machine.specs.Setups.{plan}
use Rattle.lid_walk_machine.specs.Machine.{out_at}
use Rattle.lid_shell.specs.Inside.{further}
use Rattle.lid_shell.proofs.Told.{at_out}
use Rattle.lid_shell.proofs.Desks.{own_out}
use Rattle.lid_shell.proofs.Made.{putting, gone}
use Rattle.lid_shell.proofs.actor.Actor.put.Goals as goal

pub put-token-requires : goal.put-token-requires
put-token-requires g c =
    let q = c.requires in
    let ready = c.make_ready.ensures.ready q.setup q.number q.far (record { busy = q.work.busy; is = q.is }) q.about in
    record { setup = q.setup; number = q.number; far = q.far; work = record { busy = ready.busy; agrees = q.work.agrees; streams = q.work.streams }; about = q.about; ready = ready.tokens }

pub finish-fired-requires : goal.finish-fired-requires
finish-fired-requires g c =
    let q = c.requires in
    let ready = c.make_ready.ensures.ready q.setup q.number q.far (record { busy = q.work.busy; is = q.is }) q.about in
    let put = c.put-token.ensures.puts q.setup q.number q.far (record { busy = ready.busy; agrees = q.work.agrees; streams = q.work.streams }) q.about ready.tokens in
    record { setup = q.setup; number = q.number; far = further q.far; going = putting q.setup q.number q.far c.put-token.new.self c.make_ready.new.self.part c.args.j put.work.busy ready.is q.about.0 }

pub returns-clause-goes : goal.returns-clause-goes
returns-clause-goes g c = λ m v q w is about.
    let ready = c.make_ready.ensures.ready m v q (record { busy = w.busy; is = is }) about in
    let at = own_out m v q c.make_ready.new.self.desk c.as_slice.result.now c.args.j ready.busy.at c.as_slice.ensures about.1 in
    let station : ℕ = get_or c.as_slice.result.now c.args.j 0 in
    let put = c.put-token.ensures.puts m v q (record { busy = ready.busy; agrees = w.agrees; streams = w.streams }) about ready.tokens in
    let done = c.finish-fired.ensures m v (further q) (putting m v q c.put-token.new.self c.make_ready.new.self.part c.args.j put.work.busy ready.is about.0) in
    record {
      answers =
          ap (λ (s : ℕ). answer.Put s c.put-token.result c.finish-fired.result) (sym (at_out m v c.args.j station at))
          ∙ ap (λ (x : ℕ). answer.Put (out_at (plan m) v c.args.j) x c.finish-fired.result) put.token_is
          ∙ ap (λ (b : Bool). answer.Put (out_at (plan m) v c.args.j) ((plan m).token (out_at (plan m) v c.args.j) (start_of (plan m) (out_at (plan m) v c.args.j) + q.fired)) b) done.tells;
      works = gone m v q c.finish-fired.result c.finish-fired.new.self _ _ done put.work.agrees put.work.streams;
    }
