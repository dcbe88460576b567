use Rattle.std.proofs.Common.{◌≡◌, sym, ◌∙◌, ap, subst}
use Rattle.lid_board.specs.Owners.{IsOf, steps_of}
use Rattle.lid_board.specs.declared.attended.Attended.{Attended}
use Rattle.lid_board.specs.declared.hand.Hand.{Hand}
use Rattle.lid_free_crew.specs.Posts.{known}
use Rattle.lid_free_crew.specs.Order.{MakesTurn, HasMadeSteps}
use Rattle.lid_free_crew.proofs.Coming.{came_back}
use Rattle.lid_free_crew.proofs.Misses.{hand_counts, hand_inside}
use Rattle.lid_free_crew.proofs.Making.{makes_turn, steps_made}
use Rattle.lid_free_crew.proofs.rounds.make_turn.Goals as goal

back : (c : goal.After-count) → (c.hand-1.given.0 ≡ c.turn-end.new.board.hand.now) × IsOf c.turn-end.new.board.hand.now c.args.board.now
back c = came_back c.args.hand.now c.turn-end.new.board.hand.now c.hand-1.given.0 c.args.board.now c.turn-end.new.board.board.now _ _ c.turn-end.ensures.same c.hand-1.given.1 c.requires.of c.turn-end.new.board.of_board

pub returns-clause-of : goal.returns-clause-of
returns-clause-of c = let b = back c in subst (λ (h : Hand). IsOf h c.args.board.now) (sym b.0) b.1

pub returns-clause-turn : goal.returns-clause-turn
returns-clause-turn c =
    let b = back c in
    subst (λ (h : Hand). MakesTurn c.args.board.now (known c.args.hand.now) c.args.actor.now c.args.tally.now (known h) c.turn-end.new.self c.count.new.tally) (sym b.0)
    (makes_turn c.args.board.now (known c.args.hand.now) (known c.turn-end.new.board.hand.now) _ c.args.actor.now c.turn-end.new.self c.turn-end.result c.args.tally.now c.count.new.tally
    (hand_counts c.args.hand.now) (hand_inside c.args.board.now c.args.hand.now c.requires.of)
    c.turn-end.ensures.turned c.turn-end.ensures.moves c.requires.at_work c.count.ensures c.turn-end.ensures.exact)

pub returns-clause-steps : goal.returns-clause-steps
returns-clause-steps c =
    let b = back c in
    let (m, v, fired, w) = c.requires.at_work in
    let turned = c.turn-end.ensures.turned m v fired w in
    subst (λ (h : Hand). HasMadeSteps c.args.actor.now (steps_of c.args.hand.now) (steps_of h)) (sym b.0)
    (steps_made c.args.actor.now (steps_of c.args.hand.now) (steps_of c.turn-end.new.board.hand.now) c.turn-end.ensures.notes
    (λ at_cap. ap (λ (s : Attended). steps_of s.hand.now) (c.turn-end.ensures.done (turned.done.1 (sym w.actor.at.fired_is ∙ at_cap ∙ w.actor.at.capped))).1))
