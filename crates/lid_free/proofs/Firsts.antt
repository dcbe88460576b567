-- Nothing stops the first turn of an actor that drains home stations only.
use Rattle.std.proofs.Common.{◌≡◌, ℕ, zero, suc, ◌+◌, ◌*◌, ◌%◌, ◌<◌, ◌≤◌, ◌-◌, nat_lt, Bool, true, false, cond, List, length, get_or, refl, sym, ◌∙◌, ap, subst, arith, eq-eqb, ne_eqb}
use Rattle.std.specs.Prelude.{Some, option_map, slice_get}
use Rattle.std.specs.List.{sum_by}
use Rattle.std.proofs.lemmas.Option.{same_Some}
use Rattle.lid_station.specs.Boards.{Facts, fill, drain}
use Rattle.lid_stations.specs.Stations.{start_count, spot_at}
use Rattle.lid_stations.proofs.Spots.{starts_small, cap_range}
use Rattle.lid_board.specs.Owners.{ends_of, start_ends}
use Rattle.lid_board.specs.Standing.{AreStreamsOf}
use Rattle.lid_board.specs.Views.{at, facts, sure}
use Rattle.lid_board.specs.declared.board.Board.{Board}
use Rattle.lid_board.specs.declared.hand.Hand.{Hand}
use Rattle.lid_board.specs.declared.view.EndFacts.{EndFacts}
use Rattle.lid_walk_machine.specs.Plans.{actors_of, ins_of, outs_of, cap, start_of, room_of}
use Rattle.lid_walk_machine.specs.Setups.{plan}
use Rattle.lid_shell_laws.specs.Setups.{Setup}
use Rattle.lid_walk_machine.specs.Machine.{takes_from, puts_from}
use Rattle.lid_shell.specs.declared.actor.Actor.{Actor}
use Rattle.lid_shell.specs.Steps.{Works}
use Rattle.lid_walk_machine.proofs.Counts.{early}
use Rattle.lid_walk.proofs.Serving.{drains_by, fills_by}
use Rattle.lid_free_crew.specs.declared.worker.Worker.{Worker}
use Rattle.lid_free_crew.specs.Posts.{known}
use Rattle.lid_free_crew.specs.Tallies.{misses_in, misses_at}
use Rattle.lid_free_crew.proofs.Sums.{sum_none}
use Rattle.lid_free_crew.proofs.Misses.{held_there}
use Rattle.lid_free_crew.specs.Shares.{share}
use Rattle.lid_free_crew.specs.Crews.{HaveWorked}
use Rattle.lid_free.specs.Workers.{IsCrew, fired_of}
use Rattle.lid_free.specs.FreeRuns.{FirstTurnsFire, state_of_counts}
use Rattle.lid_free.proofs.Parallel.{fired_read, HasPair, pair_of, mod_low, run_of, works_after, kept}
use Rattle.lid_free.proofs.Ready.{drain_holder}
use Rattle.lid_base.proofs.Places.{item_at}

module _ (m : Setup) (board : Board) (workers : ℕ) (owners : List ℕ) (before : List Actor) (olds news : List Worker) (made : ℕ) (actors : List Actor)
    (c : IsCrew m board workers owners before olds) (worked : HaveWorked board made olds news)
    (long : length actors ≡ actors_of (plan m))
    (shares : (i : ℕ) (w : Worker) → slice_get news i ≡ Some w → share workers i actors ≡ w.actors.items) where
  -- an early look does not miss
  early_none : (hand : Hand) (end : ℕ) (x : EndFacts) → at (ends_of hand) end ≡ Some x → x.passed < sure end x → misses_at (known hand) end ≡ 0
  early_none hand end x at_x low = ap misses_in (ap (option_map facts) at_x) ∙ hand.early end x at_x low

  module _ (v : ℕ) (b : Actor) (at_b : slice_get actors v ≡ Some b) (none : b.desk.fired ≡ 0) (p : HasPair m board workers owners before olds news made actors c worked long shares (v % workers)) where
    w : Works m v (state_of_counts (fired_of actors) v) b (known p.new.hand) (AreStreamsOf (start_ends board))
    w = works_after m board workers owners before olds news made actors c worked long shares v b at_b p

    far : get_or (fired_of actors) v 0 ≡ 0
    far = fired_read actors v b at_b ∙ none

    drain_none : ((i station : ℕ) → slice_get (ins_of (plan m) v) i ≡ Some station → start_of (plan m) station ≡ 1)
        → (i station : ℕ) → slice_get (ins_of (plan m) v) i ≡ Some station → misses_at (known p.new.hand) (drain station) ≡ 0
    drain_none home i station h =
        let (f, at_f, is) = w.agrees.drains i station h in
        let (x, at_x, is_x) = held_there (at (ends_of p.new.hand) (drain station)) f at_f in
        let there = (drains_by (plan m) v i station h).there in
        let many = c.started.many in
        let k = kept m board workers owners before olds news made actors c worked long shares (drain station) (v % workers) (omega (arith, there, many)) p (drain_holder m board workers owners before olds c v i station h) in
        let (y, at_y, start) = c.started.drains station there in
        let same : k.last ≡ x = same_Some k.last x (sym k.at_last ∙ at_x) in
        let first : k.first ≡ y = same_Some k.first y (sym k.at_first ∙ at_y) in
        let started : x.start ≡ 1 = ap (λ (g : EndFacts). g.start) (sym same) ∙ k.start ∙ ap (λ (g : EndFacts). g.start) first ∙ start.start ∙ home i station h in
        let passed : x.passed ≡ get_or (fired_of actors) v 0 = ap (λ (g : Facts). g.passed) is_x ∙ is.passed ∙ early (takes_from (length (ins_of (plan m) v)) (length (outs_of (plan m) v)) + i) (get_or (fired_of actors) v 0) 0 (omega arith) in
        let odd : (2 * station + 1) % 2 ≡ 1 = omega arith in
        let bound : sure (drain station) x ≡ x.start = ap (λ (t : Bool). cond t x.cap x.start) (ne_eqb (drain station % 2) 0 (λ e. omega (arith, e, odd))) in
        early_none p.new.hand (drain station) x at_x (omega (arith, started, passed, far, bound))

    fill_none : (j station : ℕ) → slice_get (outs_of (plan m) v) j ≡ Some station → misses_at (known p.new.hand) (fill station) ≡ 0
    fill_none j station h =
        let (f, at_f, is) = w.agrees.fills j station h in
        let (x, at_x, is_x) = held_there (at (ends_of p.new.hand) (fill station)) f at_f in
        let there = (fills_by (plan m) v j station h).there in
        let room = cap_range m.system m.placement c.rules.system c.rules.fits station there in
        let two : 2 ≤ room_of (plan m) station = room.0 in
        let size : x.cap ≡ room_of (plan m) station = ap (λ (g : Facts). g.cap) is_x ∙ is.capacity in
        let small : start_count m.placement station ≤ 1 = starts_small (spot_at m.placement.relays station).place in
        let passed : x.passed ≡ start_of (plan m) station + get_or (fired_of actors) v 0 =
        ap (λ (g : Facts). g.passed) is_x ∙ is.passed ∙ ap (λ (n : ℕ). start_of (plan m) station + n) (early (puts_from (length (ins_of (plan m) v)) (length (outs_of (plan m) v)) + j) (get_or (fired_of actors) v 0) 0 (omega arith)) in
        let even : (2 * station) % 2 ≡ 0 = omega arith in
        let bound : sure (fill station) x ≡ x.cap = ap (λ (t : Bool). cond t x.cap x.start) (eq-eqb (fill station % 2) 0 even) in
        early_none p.new.hand (fill station) x at_x (omega (arith, two, size, small, passed, far, bound))

  pub first_turns : 0 < made → FirstTurnsFire (plan m) (fired_of actors)
  first_turns some v h below home =
      let (b, at_b) = item_at actors v (omega (arith, h, long)) in
      let p = pair_of m board workers owners before olds news made actors c worked long shares (v % workers) (mod_low m board workers owners before olds news made actors c worked long shares v) in
      let read = fired_read actors v b at_b in
      subst (λ (n : ℕ). 0 < n) (sym read) (fires v b at_b p (b.desk.fired) refl below (λ i station at. let small = home i station at in start_one station small below))
    where
      start_one : (station : ℕ) → start_count m.placement station ≡ 1 → 0 < cap (plan m) v → start_of (plan m) station ≡ 1
      start_one station one some_cap =
          let rows : 0 < length m.input = some_rows (nat_lt (v + 1) (length m.system.nodes)) some_cap in
          omega (arith, one, rows)
        where
          some_rows : (t : Bool) → 0 < cond t (length m.input - 1) (length m.input) → 0 < length m.input
          some_rows true s = omega (arith, s)
          some_rows false s = s

      fires : (v : ℕ) (b : Actor) (at_b : slice_get actors v ≡ Some b) (p : HasPair m board workers owners before olds news made actors c worked long shares (v % workers)) (n : ℕ) → b.desk.fired ≡ n → 0 < cap (plan m) v
          → ((i station : ℕ) → slice_get (ins_of (plan m) v) i ≡ Some station → start_of (plan m) station ≡ 1) → 0 < n
      fires v b at_b p (suc n) is some_cap home = omega arith
      fires v b at_b p zero is some_cap home =
          let r = run_of m board workers owners before olds news made actors c worked long shares v b at_b p in
          let at = (works_after m board workers owners before olds news made actors c worked long shares v b at_b p).actor.at in
          let low : b.desk.fired < b.desk.cap = omega (arith, is, some_cap, at.capped) in
          let rise = r.gone.below low in
          let ins = ap (sum_by (λ s. misses_at (known p.new.hand) (drain s))) at.drains ∙ sum_none (λ s. misses_at (known p.new.hand) (drain s)) (ins_of (plan m) v) (λ i s at_s. drain_none v b at_b is p home i s at_s) in
          let outs = ap (sum_by (λ s. misses_at (known p.new.hand) (fill s))) at.fills ∙ sum_none (λ s. misses_at (known p.new.hand) (fill s)) (outs_of (plan m) v) (λ j s at_s. fill_none v b at_b is p j s at_s) in
          absurd (omega (arith, is, rise, ins, outs, some))
