use Rattle.std.proofs.Common.{◌+◌, length, sym, ap, subst, arith}
use Rattle.lid_top_clock.specs.Courses.{RanBy}
use Rattle.lid_top_clock.proofs.Goings.{the_life, ran_on, few_more, stepped}
use Rattle.lid_top_clock.proofs.steps.Running.step.Goals as goal

pub cycle-requires-clause-can : goal.cycle-requires-clause-can
cycle-requires-clause-can g c κs within =
    let r = c.requires.ready.0 in
    let given = c.requires.ready.1 in
    let at = c.requires.ready.2 in
    let life = the_life r c.args.self.now given at in (
      life.0,
      c.args.self.now.made,
      length given,
      ran_on r c.args.self.now given at _ (ap (λ run. run.stream) c.show.ensures.rest),
      c.requires.ready.3 life.0 life.1,
    )

pub overflow_add-self : goal.overflow_add-self
overflow_add-self g c =
    let (r, given, at, can, goes) = c.requires.ready in
    let few = few_more r c.args.self.now given at _ _ _ (ap (λ run. run.stream) c.show.ensures.rest) (ap (λ run. run.made) c.show.ensures.rest) goes c.cycle.ensures.made c.cycle.ensures.counts in
    omega (arith, few)

pub returns-clause-few : goal.returns-clause-few
returns-clause-few g c =
    let (r, given, at, can, goes) = c.requires.ready in
    let few = few_more r c.args.self.now given at _ _ _ (ap (λ run. run.stream) c.show.ensures.rest) (ap (λ run. run.made) c.show.ensures.rest) goes c.cycle.ensures.made c.cycle.ensures.counts in
    omega (arith, few)

pub returns-clause-ok : goal.returns-clause-ok
returns-clause-ok g c = λ r given at ready goes.
    stepped r c.args.self.now given at _ goes
    (c.in_ok-show.ensures.shown r given at)
    (λ l k g ran below.
    let before = subst (λ s. RanBy l k g s) (sym (ap (λ run. run.stream) c.show.ensures.rest)) ran in
    c.cycle.ensures.ran l k g before ((c.cycle.ensures.made l k g before).1 below))
    (ap (λ run. run.made + 1) c.show.ensures.rest) (ap (λ run. run.given) c.show.ensures.rest) (ap (λ run. run.trace) c.show.ensures.rest) (ap (λ run. run.told) c.show.ensures.rest) (ap (λ run. run.stations) c.show.ensures.rest)
