-- Workers that make no rounds.
use Rattle.std.proofs.Common.{◌≡◌, ℕ, List, refl, sym, ◌∙◌, subst}
use Rattle.std.specs.Prelude.{Some, slice_get}
use Rattle.std.proofs.lemmas.Option.{same_Some}
use Rattle.lid_board.specs.declared.board.Board.{Board}
use Rattle.lid_free_crew.specs.declared.worker.Worker.{Worker}
use Rattle.lid_free_crew.specs.Posts.{IsReady}
use Rattle.lid_free_crew.proofs.Worked.{not_yet, stays, gone, tallied, alone}
use Rattle.lid_free_crew.specs.Crews.{HasWorked, HaveWorked}

pub none_worked : (board : Board) (crew : List Worker) → ((i : ℕ) (w : Worker) → slice_get crew i ≡ Some w → IsReady board w) → HaveWorked board 0 crew crew
none_worked board crew ready = record {
  many = refl;
  each = λ i w x at_w at_x.
      let same = same_Some w x (sym at_w ∙ at_x) in
      let is = ready i w at_w in
      let at = not_yet board w is in
      subst (λ (y : Worker). HasWorked board 0 w y) same
      (record { stays = stays board 0 w w is at; gone = gone board 0 w w is at; tally = tallied board 0 w w is at; in_order = at.in_order; alone = alone board 0 w w is at });
}
