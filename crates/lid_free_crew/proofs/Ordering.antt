-- Turns and rounds in order, one more each time.
use Rattle.std.proofs.Common.{◌≡◌, ℕ, suc, ◌+◌, length, refl, subst, arith}
use Rattle.lid_board.specs.declared.board.Board.{Board}
use Rattle.lid_free_crew.specs.Order.{Stage, TurnAt, TurnsMade, RoundsMade}

pub no_turns_made : (board : Board) (s : Stage) → TurnsMade board 0 s s
unfolding TurnsMade
no_turns_made board s = refl

pub one_turn_made : (board : Board) (place : ℕ) (s between t : Stage) → TurnsMade board place s between → TurnAt board place between t → TurnsMade board (place + 1) s t
unfolding TurnsMade
one_turn_made board place s between t made at =
    let more : suc place ≡ place + 1 = omega arith in
    subst (λ (n : ℕ). TurnsMade board n s t) more (between, made, at)

pub no_rounds_made : (board : Board) (s : Stage) → RoundsMade board 0 s s
unfolding RoundsMade
no_rounds_made board s = refl

pub one_round_made : (board : Board) (rounds : ℕ) (s between t : Stage) → RoundsMade board rounds s between → TurnsMade board (length between.actors) between t → RoundsMade board (rounds + 1) s t
unfolding RoundsMade
one_round_made board rounds s between t made turns =
    let more : suc rounds ≡ rounds + 1 = omega arith in
    subst (λ (n : ℕ). RoundsMade board n s t) more (between, made, turns)
