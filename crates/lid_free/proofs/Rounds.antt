-- No actor fires more often than its worker makes rounds.
use Rattle.std.proofs.Common.{◌≡◌, ℕ, ◌%◌, ◌<◌, ◌≤◌, List, length, get_or, ◌∙◌, ap, arith}
use Rattle.std.specs.Prelude.{Some, option_map, slice_get}
use Rattle.std.specs.List.{sum_by}
use Rattle.lid_station.specs.Boards.{fill, drain}
use Rattle.lid_board.specs.Owners.{start_ends}
use Rattle.lid_board.specs.Views.{at, facts}
use Rattle.lid_board.specs.declared.board.Board.{Board}
use Rattle.lid_board.specs.declared.view.EndFacts.{EndFacts}
use Rattle.lid_walk_machine.specs.Plans.{actors_of, ins_of, outs_of}
use Rattle.lid_walk_machine.specs.Setups.{plan}
use Rattle.lid_shell_laws.specs.Setups.{Setup}
use Rattle.lid_shell.specs.declared.actor.Actor.{Actor}
use Rattle.lid_walk.proofs.Serving.{drains_by, fills_by}
use Rattle.lid_free_crew.specs.declared.worker.Worker.{Worker}
use Rattle.lid_free_crew.specs.Posts.{known}
use Rattle.lid_free_crew.specs.Tallies.{misses_in, misses_at, misses_of}
use Rattle.lid_free_crew.proofs.Sums.{sum_none}
use Rattle.lid_free_crew.specs.Shares.{share, holder}
use Rattle.lid_free_crew.specs.Crews.{HaveWorked}
use Rattle.lid_free.specs.Workers.{IsCrew, fired_of}
use Rattle.lid_free.proofs.Parallel.{fired_read, pair_of, mod_low, run_of, none_fired}
use Rattle.lid_free.proofs.Ready.{drain_holder, fill_holder, held_here}
use Rattle.lid_base.proofs.Places.{item_at}

module _ (m : Setup) (board : Board) (workers : ℕ) (owners : List ℕ) (before : List Actor) (olds : List Worker) (c : IsCrew m board workers owners before olds) where
  -- no look has missed before the run
  module _ (v : ℕ) (w : Worker) (at_w : slice_get olds (v % workers) ≡ Some w) where
    unmissed : (end : ℕ) (x : EndFacts) → at (start_ends board) end ≡ Some x → x.misses ≡ 0 → holder workers owners end ≡ v % workers → misses_at (known w.hand) end ≡ 0
    unmissed end x at_x none mine = ap misses_in (ap (option_map facts) (held_here m board workers owners before olds c (v % workers) w at_w end x mine at_x)) ∙ none

    drain_unmissed : (k station : ℕ) → slice_get (ins_of (plan m) v) k ≡ Some station → misses_at (known w.hand) (drain station) ≡ 0
    drain_unmissed k station h =
        let (x, at_x, start) = c.started.drains station (drains_by (plan m) v k station h).there in
        unmissed (drain station) x at_x start.misses (drain_holder m board workers owners before olds c v k station h)

    fill_unmissed : (k station : ℕ) → slice_get (outs_of (plan m) v) k ≡ Some station → misses_at (known w.hand) (fill station) ≡ 0
    fill_unmissed k station h =
        let (x, at_x, start) = c.started.fills station (fills_by (plan m) v k station h).there in
        unmissed (fill station) x at_x start.misses (fill_holder m board workers owners before olds c v k station h)

    none_missed : (a : Actor) → slice_get before v ≡ Some a → misses_of (known w.hand) a ≡ 0
    none_missed a at_a =
        let at = (c.actors_are.each v a at_a).at in
        let ins = ap (sum_by (λ s. misses_at (known w.hand) (drain s))) at.drains ∙ sum_none (λ s. misses_at (known w.hand) (drain s)) (ins_of (plan m) v) drain_unmissed in
        let outs = ap (sum_by (λ s. misses_at (known w.hand) (fill s))) at.fills ∙ sum_none (λ s. misses_at (known w.hand) (fill s)) (outs_of (plan m) v) fill_unmissed in
        omega (arith, ins, outs)

  module _ (news : List Worker) (made : ℕ) (actors : List Actor) (worked : HaveWorked board made olds news)
      (long : length actors ≡ actors_of (plan m))
      (shares : (i : ℕ) (w : Worker) → slice_get news i ≡ Some w → share workers i actors ≡ w.actors.items) where
    pub few_fired : (v : ℕ) → v < actors_of (plan m) → get_or (fired_of actors) v 0 ≤ made
    few_fired v h =
        let (b, at_b) = item_at actors v (omega (arith, h, long)) in
        let p = pair_of m board workers owners before olds news made actors c worked long shares (v % workers) (mod_low m board workers owners before olds news made actors c worked long shares v) in
        let r = run_of m board workers owners before olds news made actors c worked long shares v b at_b p in
        let none = none_fired m board workers owners before olds news made actors c worked long shares v r.was r.at_was in
        let missed = none_missed v p.old p.at_old r.was r.at_was in
        let most = r.gone.most in
        let read = fired_read actors v b at_b in
        omega (arith, read, none, missed, most)
