use Rattle.std.proofs.Common.{◌≡◌, get_or, sym, ◌∙◌, subst, arith}
use Rattle.std.specs.List.{All}
use Rattle.std.proofs.lemmas.Option.{get_or_from_slice_get, slice_get-get_or}
use Rattle.lid_shell.specs.declared.actor.Actor.{Actor}
use Rattle.lid_base.proofs.Places.{item_at}
use Rattle.lid_walk.proofs.walk.Walk.settled.Goals as goal

abbrev IsDone : Actor → Type 0
IsDone a = a.desk.fired ≡ a.desk.cap

pub returns : goal.returns
returns c m st walks = (
  λ done v h.
      let place = item_at c.args.self.now.actors.items v (omega (arith, h, walks.actors.many)) in
      let a = walks.actors.each v place.0 place.1 in
      let all = subst (All IsDone) c.as_slice.ensures.value (c.are_done.ensures.0 done) in
      let is = subst IsDone (get_or_from_slice_get c.args.self.now.actors.items v place.0 place.0 place.1) (all v place.0 (omega (arith, h, walks.actors.many))) in
      sym a.at.fired_is ∙ is ∙ a.at.capped,
  λ settled. c.are_done.ensures.1 (subst (All IsDone) (sym c.as_slice.ensures.value) (λ k d within.
      let a = walks.actors.each k (get_or c.args.self.now.actors.items k d) (slice_get-get_or c.args.self.now.actors.items k d within) in
      a.at.fired_is ∙ settled k (omega (arith, within, walks.actors.many)) ∙ sym a.at.capped)),
)
