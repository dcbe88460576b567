-- Along a schedule that is one longer, one more step is made, and one more line appended.
use Rattle.std.proofs.Common.{◌≡◌, ℕ, suc, ◌+◌, ◌<◌, List, [], ◌∷◌, ◌++◌, length, take, get_or, append-nil, append_assoc, sym, ◌∙◌, ap, subst, arith}
use Rattle.std.proofs.Math.Seq.{take-suc}
use Rattle.lid_walk_machine.specs.Plans.{Plan}
use Rattle.lid_walk_machine.specs.Setups.{plan}
use Rattle.lid_walk_machine.specs.Machine.{State, answers, after_all, answer_of, next}
use Rattle.lid_texts_runs.specs.Runs.{answer_text}
use Rattle.lid_top_script.specs.Walked.{answer_lines}
use Rattle.lid_walk.specs.Walks.{Walks}
use Rattle.lid_top_held.proofs.Walked.{after_more, lines_more}
use Rattle.lid_top_held.proofs.walking.walk_on.Goals as goal

one_more : (i : ℕ) → i + 1 ≡ suc i
one_more i = omega arith

take_next : (schedule : List ℕ) (i : ℕ) → i < length schedule → take (i + 1) schedule ≡ take i schedule ++ get_or schedule i 0 ∷ []
take_next schedule i within = ap (λ n. take n schedule) (one_more i) ∙ take-suc schedule i 0 within

after_next : (m : Plan) (st : State) (schedule : List ℕ) (i : ℕ) → i < length schedule
    → after_all m st (take (i + 1) schedule) ≡ next m (after_all m st (take i schedule)) (get_or schedule i 0)
after_next m st schedule i within = ap (after_all m st) (take_next schedule i within) ∙ after_more m st (take i schedule) (get_or schedule i 0)

lines_next : (m : Plan) (st : State) (schedule : List ℕ) (i : ℕ) → i < length schedule
    → answer_lines (take (i + 1) schedule) (answers m st (take (i + 1) schedule))
    ≡ answer_lines (take i schedule) (answers m st (take i schedule)) ++ answer_text (get_or schedule i 0) (answer_of m (after_all m st (take i schedule)) (get_or schedule i 0))
lines_next m st schedule i within =
    ap (λ xs. answer_lines xs (answers m st xs)) (take_next schedule i within) ∙ lines_more m st (take i schedule) (get_or schedule i 0)

-- src/walking.rt
pub loop-actor-init : goal.loop-actor-init
unfolding after_all answers
loop-actor-init c = record { walks = λ m st w. w; lines = λ m st w. sym (append-nil c.args.into.now.items) }

pub loop-actor-preserved : goal.loop-actor-preserved
loop-actor-preserved c =
    let i = c.loop-actor.actor-index in
    let schedule = c.args.schedule.now in
    let within : i < length schedule = c.loop-actor-test.true in
    record {
      walks = λ m st w.
          let before = c.loop-actor.invariant.walks m st w in
          subst (λ s. Walks m s c.step-answer.new.self) (sym (after_next (plan m) st schedule i within)) (c.step-answer.ensures.walks m (after_all (plan m) st (take i schedule)) before);
      lines = λ m st w.
          let before = c.loop-actor.invariant.walks m st w in
          let told = answer_lines (take i schedule) (answers (plan m) st (take i schedule)) in
          let answer = answer_of (plan m) (after_all (plan m) st (take i schedule)) (get_or schedule i 0) in
          c.in_ok-print_answer.ensures.ok
          ∙ ap (λ a. c.loop-actor.into.items ++ answer_text (get_or schedule i 0) a) (c.step-answer.ensures.answers m (after_all (plan m) st (take i schedule)) before)
          ∙ ap (λ xs. xs ++ answer_text (get_or schedule i 0) answer) (c.loop-actor.invariant.lines m st w)
          ∙ append_assoc c.args.into.now.items told (answer_text (get_or schedule i 0) answer)
          ∙ ap (λ xs. c.args.into.now.items ++ xs) (sym (lines_next (plan m) st schedule i within));
    }
