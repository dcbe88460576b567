-- Rounds of all actors are sweeps.
use Rattle.std.proofs.Common.{◌≡◌, ℕ, zero, suc, ◌+◌, List, [], ◌∷◌, refl, sym, ◌∙◌, ap, arith}
use Rattle.lid_base.specs.Each.{from_each}
use Rattle.lid_walk_machine.specs.Plans.{Plan, actors_of}
use Rattle.lid_walk_machine.specs.Machine.{State, turn, turns_from, sweep, sweeps}
use Rattle.lid_free_crew.specs.Alone.{TurnsSoFar, turned, round_of, rounds_of}
use Rattle.lid_free_crew.specs.Laws.{RoundsOfAllAreSweeps}

round_sweeps : (m : Plan) (v left : ℕ) (r : TurnsSoFar) → (round_of m (from_each (λ n. n) v left) r).state ≡ turns_from m v left r.state
unfolding round_of turns_from
round_sweeps m v zero r = refl
round_sweeps m v (suc left) r =
    let s : v + 1 ≡ suc v = omega arith in
    ap (λ (n : ℕ). (round_of m (from_each (λ k. k) n left) (turned m v r)).state) s ∙ round_sweeps m (suc v) left (turned m v r)

pub rounds_sweep : RoundsOfAllAreSweeps
unfolding rounds_of
rounds_sweep m zero r = refl
rounds_sweep m (suc rounds) r =
    round_sweeps m 0 (actors_of m) (rounds_of m (from_each (λ v. v) 0 (actors_of m)) rounds r)
    ∙ ap (sweep m) (rounds_sweep m rounds r)
