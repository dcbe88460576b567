-- An actor that sees no bar and is not held fires; else it rests.
use Rattle.std.proofs.Common.{inl, inr, ◌∙◌}
use Rattle.lid_clock.proofs.Bars.{sees, may_not_fire}
use Rattle.lid_clock.proofs.Decisions.{rested, fired}
use Rattle.lid_clock.proofs.actor.ClockActor.decide.Goals as goal
use Rattle.lid_clock.proofs.actor.ClockActor.decide.Goals.{else-not-held-via-then-not-held+else-may_fire, else-not-held-via-else-not-held}

pub may_fire-requires : goal.may_fire-requires
may_fire-requires c = sees c.requires.life c.requires.k c.requires.g c.requires.v _ c.args.self.now c.args.stations.now c.requires.actor c.requires.beside

pub fire-requires-clause-there : goal.fire-requires-clause-there
fire-requires-clause-there c = (sees c.requires.life c.requires.k c.requires.g c.requires.v _ c.args.self.now c.args.stations.now c.requires.actor c.requires.beside).ins

pub returns-then-may_fire : goal.returns-then-may_fire
returns-then-may_fire c = λ l k g v begins actor beside held.
    fired c.runs_go_by_rules.ensures l k g v c.args.self.now c.args.stations.now c.fire.new.self begins actor beside (held ∙ c.if-not-held.true) (c.may_fire.ensures.yes c.if-may_fire.true) c.fire.ensures

pub returns-else-not-held : goal.returns-else-not-held
returns-else-not-held c = λ l k g v begins actor beside held.
    rested c.runs_go_by_rules.ensures l k g v c.args.self.now begins actor
    (elim c.else-not-held.branch [
      | else-not-held-via-then-not-held+else-may_fire w ↦ inr (may_not_fire l k g v c.args.self.now c.args.stations.now actor beside (w.may_fire.ensures.no w.if-may_fire.false))
      | else-not-held-via-else-not-held w ↦ inl (held ∙ w.if-not-held.false)
    ])
