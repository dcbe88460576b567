-- A turn is the steps of the machine until the actor is at rest.
use Rattle.std.proofs.Common.{refl, sym, ◌∙◌, ap}
use Rattle.std.specs.Prelude.{Some}
use Rattle.lid_shell.specs.declared.turn.TurnEnd.{TurnEnd}
use Rattle.lid_shell.proofs.Ended.{done_only}
use Rattle.lid_shell.proofs.Along.{along_at_first, along_on, rises, not_at_rest, turned, turned_exactly, turn_moves, turn_late, not_begun}
use Rattle.lid_shell.proofs.Noting.{noted_at_first, noted_on, noted_all}
use Rattle.lid_shell.proofs.actor.Actor.turn.Goals as goal

pub loop-end-init : goal.loop-end-init
loop-end-init g c = record { along = along_at_first _ _ _; begun = λ _. (refl, refl); same = refl; notes = noted_at_first c.args.self.now _ }

pub loop-end-preserved : goal.loop-end-preserved
loop-end-preserved g c =
    let q = c.requires.can in
    let none = sym c.end_of.ensures ∙ c.in-None.is in
    record {
      along = along_on c.args.self.now c.loop-end.self c.step-answer.new.self c.step-answer.result _ _ _ _ _ _ c.loop-end.invariant.along (record { steps = c.step-answer.ensures.steps; exact = c.step-answer.ensures.exact; moves = c.step-answer.ensures.moves; late = c.step-answer.ensures.late }) q.0 q.1 q.2 q.3 none;
      begun = λ rests. absurd (not_at_rest c.args.self.now c.loop-end.self c.step-answer.new.self c.step-answer.result _ _ _ _ _ _ c.loop-end.invariant.along (record { steps = c.step-answer.ensures.steps; exact = c.step-answer.ensures.exact; moves = c.step-answer.ensures.moves; late = c.step-answer.ensures.late }) q.0 q.1 q.2 q.3 none rests);
      same = c.step-answer.ensures.same ∙ c.loop-end.invariant.same;
      notes = noted_on c.args.self.now c.loop-end.self _ _ _ _ c.loop-end.invariant.along q.0 q.1 q.2 q.3 _ _ _ c.loop-end.invariant.notes c.step-answer.ensures.notes;
    }

pub loop-end-smaller : goal.loop-end-smaller
loop-end-smaller g c =
    let q = c.requires.can in
    rises c.args.self.now c.loop-end.self c.step-answer.new.self c.step-answer.result _ _ _ _ _ _ c.loop-end.invariant.along (record { steps = c.step-answer.ensures.steps; exact = c.step-answer.ensures.exact; moves = c.step-answer.ensures.moves; late = c.step-answer.ensures.late }) q.0 q.1 q.2 q.3 (sym c.end_of.ensures ∙ c.in-None.is)

pub returns-in-Some-clause-turned : goal.returns-in-Some-clause-turned
returns-in-Some-clause-turned g c = λ m v fired w.
    turned c.args.self.now c.loop-end.self c.step-answer.new.self c.step-answer.result _ _ _ _ _ _ c.loop-end.invariant.along (record { steps = c.step-answer.ensures.steps; exact = c.step-answer.ensures.exact; moves = c.step-answer.ensures.moves; late = c.step-answer.ensures.late }) m v fired c.in-Some.end w (sym c.end_of.ensures ∙ c.in-Some.is)

pub returns-in-Some-clause-exact : goal.returns-in-Some-clause-exact
returns-in-Some-clause-exact g c = λ m v st rests w serves.
    turned_exactly c.args.self.now c.loop-end.self c.step-answer.new.self c.step-answer.result _ _ _ _ _ _ c.loop-end.invariant.along (record { steps = c.step-answer.ensures.steps; exact = c.step-answer.ensures.exact; moves = c.step-answer.ensures.moves; late = c.step-answer.ensures.late }) m v st c.in-Some.end rests w serves (sym c.end_of.ensures ∙ c.in-Some.is)

pub returns-in-Some-clause-moves : goal.returns-in-Some-clause-moves
returns-in-Some-clause-moves g c =
    let q = c.requires.can in
    turn_moves c.args.self.now c.loop-end.self c.step-answer.new.self c.step-answer.result _ _ _ _ _ _ c.loop-end.invariant.along (record { steps = c.step-answer.ensures.steps; exact = c.step-answer.ensures.exact; moves = c.step-answer.ensures.moves; late = c.step-answer.ensures.late }) q.0 q.1 q.2 c.in-Some.end q.3 (sym c.end_of.ensures ∙ c.in-Some.is)

pub returns-in-Some-clause-late : goal.returns-in-Some-clause-late
returns-in-Some-clause-late g c =
    let q = c.requires.can in
    turn_late c.args.self.now c.loop-end.self c.step-answer.new.self c.step-answer.result _ _ _ _ _ _ c.loop-end.invariant.along (record { steps = c.step-answer.ensures.steps; exact = c.step-answer.ensures.exact; moves = c.step-answer.ensures.moves; late = c.step-answer.ensures.late }) q.0 q.1 q.2 c.in-Some.end q.3 (sym c.end_of.ensures ∙ c.in-Some.is)

pub returns-in-Some-clause-done : goal.returns-in-Some-clause-done
returns-in-Some-clause-done g c = λ done.
    let q = c.requires.can in
    let is = sym c.end_of.ensures ∙ c.in-Some.is ∙ ap (λ (x : TurnEnd). Some x) done in
    let rests = not_begun c.args.self.now c.loop-end.self c.step-answer.new.self c.step-answer.result _ _ _ _ _ _ c.loop-end.invariant.along (record { steps = c.step-answer.ensures.steps; exact = c.step-answer.ensures.exact; moves = c.step-answer.ensures.moves; late = c.step-answer.ensures.late }) q.0 q.1 q.2 q.3 is in
    let same = c.loop-end.invariant.begun rests in
    let stays = c.step-answer.ensures.done (done_only c.step-answer.result is) in
    (stays.0 ∙ same.0, stays.1 ∙ same.1)

pub returns-in-Some-clause-notes : goal.returns-in-Some-clause-notes
returns-in-Some-clause-notes g c =
    let q = c.requires.can in
    noted_all c.args.self.now c.loop-end.self _ _ _ _ c.loop-end.invariant.along q.0 q.1 q.2 q.3 _ _ _ c.loop-end.invariant.notes c.step-answer.ensures.notes
