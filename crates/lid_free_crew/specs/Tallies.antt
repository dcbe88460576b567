-- What is counted: the misses at ends, and how turns end.
use Rattle.std.specs.Prelude.{◌≡◌, ℕ, zero, suc, ◌+◌, ◌-◌, ◌*◌, ◌≤◌, ◌==◌, cond, List, ◌∷◌, length, Option, Some, None}
use Rattle.std.specs.List.{sum_by}
use Rattle.std.specs.Option.{unwrap_or}
use Rattle.lid_base.specs.declared.runs.Tally.{Tally}
use Rattle.lid_station.specs.Boards.{Facts, Ends, fill, drain}
use Rattle.lid_board.specs.declared.board.Board.{Board}
use Rattle.lid_shell.specs.declared.actor.Actor.{Actor}
use Rattle.lid_shell.specs.declared.turn.TurnEnd.{TurnEnd}
use Rattle.lid_shell.specs.declared.turn.TurnEnd.TheVariants.{Fired, Void, Stop, Done}
use Rattle.lid_free_crew.specs.Posts.{known, stations_of}
use Rattle.lid_free_crew.specs.declared.worker.Worker.{Worker}

-- a sum over all numbers below another
abbrev pub sum_below : (ℕ → ℕ) → ℕ → ℕ
sum_below f zero = 0
sum_below f (suc n) = sum_below f n + f n

-- how many looks missed at an end; 0 where it is not known
abbrev pub misses_in : Option Facts → ℕ
misses_in None = 0
misses_in (Some f) = unwrap_or f.misses 0

abbrev pub misses_at : Ends → ℕ → ℕ
misses_at ends end = misses_in (ends end)

-- at all drained ends of so many stations, and at all filled ends
abbrev pub void_misses : Ends → ℕ → ℕ
void_misses ends stations = sum_below (λ station. misses_at ends (drain station)) stations

abbrev pub stop_misses : Ends → ℕ → ℕ
stop_misses ends stations = sum_below (λ station. misses_at ends (fill station)) stations

-- at the ends of an actor
abbrev pub misses_of : Ends → Actor → ℕ
misses_of ends a =
    sum_by (λ station. misses_at ends (drain station)) a.desk.ins.items + sum_by (λ station. misses_at ends (fill station)) a.desk.outs.items

-- how often actors have fired
abbrev pub fired_by : List Actor → ℕ
fired_by actors = sum_by (λ a. a.desk.fired) actors

-- how many are at their caps
abbrev pub done_among : List Actor → ℕ
done_among actors = sum_by (λ a. cond (a.desk.fired == a.desk.cap) 1 0) actors

-- how often those that are at their caps have fired since they were these
abbrev pub firings_of_done : List Actor → List Actor → ℕ
firings_of_done (a ∷ olds) (b ∷ news) = cond (b.desk.fired == b.desk.cap) (b.desk.fired - a.desk.fired) 0 + firings_of_done olds news
firings_of_done _ _ = 0

-- 1 for a turn that ended in this way, else 0
abbrev pub fired_one : TurnEnd → ℕ
fired_one Fired = 1
fired_one _ = 0

abbrev pub void_one : TurnEnd → ℕ
void_one (Void station told) = 1
void_one _ = 0

abbrev pub stop_one : TurnEnd → ℕ
stop_one (Stop station told) = 1
stop_one _ = 0

abbrev pub done_one : TurnEnd → ℕ
done_one Done = 1
done_one _ = 0

-- a tally with one turn more, which ended so
abbrev pub counted : TurnEnd → Tally → Tally
counted end t = record {
  turns = t.turns + 1;
  fired = t.fired + fired_one end;
  voids = t.voids + void_one end;
  stops = t.stops + stop_one end;
  dones = t.dones + done_one end;
}

-- a tally with so many turns more, all of which ended as done
abbrev pub counted_done : ℕ → Tally → Tally
counted_done turns t = record {
  turns = t.turns + turns;
  fired = t.fired;
  voids = t.voids;
  stops = t.stops;
  dones = t.dones + turns;
}

-- each turn is counted in one way
abbrev pub AddsUp : Tally → Type 0
AddsUp t = t.turns ≡ t.fired + t.voids + t.stops + t.dones

-- the tally of a worker that made so many rounds: the turns are as many for each actor; as often they fired as its
-- actors fired more often; they ended at a station without a token as often as looks missed at the drained ends of
-- its hand, and without room as often as at the filled ends; the others are of actors at their caps, and no more than
-- the turns of these in which they did not fire
pub record IsTallyOf (board : Board) (rounds : ℕ) (old new : Worker) : Type 0 where
  pub turns_are : new.tally.turns ≡ rounds * length old.actors.items
  pub fired_are : new.tally.fired + fired_by old.actors.items ≡ fired_by new.actors.items
  pub voids_are : new.tally.voids + void_misses (known old.hand) (stations_of board) ≡ void_misses (known new.hand) (stations_of board)
  pub stops_are : new.tally.stops + stop_misses (known old.hand) (stations_of board) ≡ stop_misses (known new.hand) (stations_of board)
  pub adds_up : AddsUp new.tally
  pub dones_most : new.tally.dones + firings_of_done old.actors.items new.actors.items ≤ rounds * done_among new.actors.items
