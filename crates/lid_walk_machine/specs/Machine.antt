-- The interleaving machine: what each actor answers to a step, and what it does, one step of one actor after
-- another, in whatever order.
--
-- An actor that is not at its cap goes through the positions of a firing: it looks at each station that it
-- drains, in order, then at each that it fills, then takes from each of the first, then puts in each of the
-- others. A look that does not find what it looks for sets it back to the first position. With its last take or
-- put it has fired. The state has two numbers for each actor, and holds no tokens.
use Rattle.std.specs.Prelude.{ℕ, zero, suc, ◌+◌, ◌-◌, ◌==◌, nat_lt, not, Bool, true, false, if◌then◌else◌, List, [], ◌∷◌, length, take, get_or, ◌≡◌, ◌<◌}
use Rattle.lid_base.specs.declared.runs.Answer.{Answer}
use Rattle.lid_base.specs.declared.runs.Answer.TheVariants as answer
use Rattle.lid_station.specs.Words.{word, word_number}
use Rattle.lid_shell_laws.specs.Runs.{place_in}
use Rattle.lid_walk_machine.specs.Plans.{Plan, actors_of, ins_of, outs_of, drainer_of, filler_of, cap, start_of, room_of, stream}

-- how far an actor is: how often it has fired, and its position in the firing that it has begun, 0 at rest
pub record Progress : Type 0 where
  pub fired : ℕ
  pub position : ℕ

-- the state: how far each actor is
abbrev pub State : Type 0
State = ℕ → Progress

-- no actor has begun
abbrev pub begun : State
begun v = record { fired = 0; position = 0 }

-- what an actor does at a position: it looks at, or takes from, the station at a place of those that it drains;
-- it looks at, or puts in, one of those that it fills; or it has no station and fires at once
pub data Act : Type 0 where
  looks_in : ℕ → Act
  looks_out : ℕ → Act
  takes : ℕ → Act
  puts : ℕ → Act
  fires : Act

-- where the takes and the puts of a firing begin, and where it ends, for an actor that drains and fills so many
abbrev pub takes_from : ℕ → ℕ → ℕ
takes_from ins outs = ins + outs

abbrev pub puts_from : ℕ → ℕ → ℕ
puts_from ins outs = ins + outs + ins

abbrev pub ends_at : ℕ → ℕ → ℕ
ends_at ins outs = ins + outs + ins + outs

-- the act of a position
unfoldable pub act_at : ℕ → ℕ → ℕ → Act
act_at ins outs position =
    if nat_lt position ins then looks_in position
    else if nat_lt position (takes_from ins outs) then looks_out (position - ins)
    else if nat_lt position (puts_from ins outs) then takes (position - takes_from ins outs)
    else if nat_lt position (ends_at ins outs) then puts (position - puts_from ins outs)
    else fires

abbrev pub act_of : Plan → ℕ → ℕ → Act
act_of m v position = act_at (length (ins_of m v)) (length (outs_of m v)) position

-- a position is the last one of a firing
abbrev pub is_last : Plan → ℕ → ℕ → Bool
is_last m v position = position + 1 == ends_at (length (ins_of m v)) (length (outs_of m v))

-- the station at a place of those that an actor drains, and of those that it fills
abbrev pub in_at : Plan → ℕ → ℕ → ℕ
in_at m v i = get_or (ins_of m v) i 0

abbrev pub out_at : Plan → ℕ → ℕ → ℕ
out_at m v j = get_or (outs_of m v) j 0

-- the word that shows the place of the next token, of an empty station from which so many tokens were taken, and
-- of a full one in which so many were put
abbrev pub void_word : Plan → ℕ → ℕ → ℕ
void_word m station taken =
    word (room_of m station) (take taken (stream m station)) (take taken (stream m station)) (word_number (room_of m station) taken)

abbrev pub stop_word : Plan → ℕ → ℕ → ℕ
stop_word m station put =
    word (room_of m station) (take put (stream m station)) (take (put - room_of m station) (stream m station)) (word_number (room_of m station) put)

-- what an actor that has fired so often answers to an act, where a look finds what it looks for or does not, and
-- where the act is the last one of a firing or not
abbrev pub tells : Plan → ℕ → ℕ → Act → Bool → Bool → Answer
tells m v fired (looks_in i) true last = answer.Token (in_at m v i) (m.token (in_at m v i) fired)
tells m v fired (looks_in i) false last = answer.Void (in_at m v i) (void_word m (in_at m v i) fired)
tells m v fired (looks_out j) true last = answer.Room (out_at m v j)
tells m v fired (looks_out j) false last = answer.Stop (out_at m v j) (stop_word m (out_at m v j) (start_of m (out_at m v j) + fired))
tells m v fired (takes i) found last = answer.Took (in_at m v i) (m.token (in_at m v i) fired) last
tells m v fired (puts j) found last = answer.Put (out_at m v j) (m.token (out_at m v j) (start_of m (out_at m v j) + fired)) last
tells m v fired fires found last = answer.Fired

-- an act is done: the next position, and after the last one a firing more
abbrev pub goes_on : Bool → Progress → Progress
goes_on true q = record { fired = q.fired + 1; position = 0 }
goes_on false q = record { fired = q.fired; position = q.position + 1 }

-- how far an actor is after an act; a look that finds nothing sets it back
abbrev pub moves : Act → Bool → Bool → Progress → Progress
moves (looks_in i) false last q = record q { position = 0 }
moves (looks_out j) false last q = record q { position = 0 }
moves fires found last q = goes_on true q
moves _ found last q = goes_on last q

-- what actor v answers to a step, and how far it is then, where a look finds what it looks for or does not. At its
-- cap it has done all
abbrev pub answer_as : Plan → ℕ → Progress → Bool → Answer
answer_as m v q found =
    if q.fired == cap m v then answer.Done else tells m v q.fired (act_of m v q.position) found (is_last m v q.position)

abbrev pub after_as : Plan → ℕ → Progress → Bool → Progress
after_as m v q found =
    if q.fired == cap m v then q else moves (act_of m v q.position) found (is_last m v q.position) q

-- how many tokens an actor has taken from the station at a place of those that it drains: one for each firing,
-- and one where the take of this firing is done
abbrev pub taken_by : Plan → ℕ → Progress → ℕ → ℕ
taken_by m v q i =
    q.fired + (if nat_lt (takes_from (length (ins_of m v)) (length (outs_of m v)) + i) q.position then 1 else 0)

-- how many it has put in the station at a place of those that it fills, beside those that this started with
abbrev pub put_by : Plan → ℕ → Progress → ℕ → ℕ
put_by m v q j =
    q.fired + (if nat_lt (puts_from (length (ins_of m v)) (length (outs_of m v)) + j) q.position then 1 else 0)

-- how many tokens were taken from a station, and how many were put in it, those that it started with included
abbrev pub out_count : Plan → State → ℕ → ℕ
out_count m st station =
    taken_by m (drainer_of m station) (st (drainer_of m station)) (place_in (ins_of m (drainer_of m station)) station)

abbrev pub in_count : Plan → State → ℕ → ℕ
in_count m st station =
    start_of m station + put_by m (filler_of m station) (st (filler_of m station)) (place_in (outs_of m (filler_of m station)) station)

-- whether an act finds what it looks for: a token in a station that it drains, room in one that it fills
abbrev pub finds_at : Plan → State → ℕ → Act → Bool
finds_at m st v (looks_in i) = not (in_count m st (in_at m v i) == out_count m st (in_at m v i))
finds_at m st v (looks_out j) = not (in_count m st (out_at m v j) - out_count m st (out_at m v j) == room_of m (out_at m v j))
finds_at m st v _ = true

abbrev pub finds : Plan → State → ℕ → Bool
finds m st v = finds_at m st v (act_of m v (st v).position)

-- what actor v answers to a step in a state, and the state after it
abbrev pub answer_of : Plan → State → ℕ → Answer
answer_of m st v = answer_as m v (st v) (finds m st v)

abbrev pub next : Plan → State → ℕ → State
next m st v w = if w == v then after_as m v (st v) (finds m st v) else st w

-- the answers along a schedule, which is a list of actors, and the state after it
unfoldable pub answers : Plan → State → List ℕ → List Answer
answers m st [] = []
answers m st (v ∷ schedule) = answer_of m st v ∷ answers m (next m st v) schedule

unfoldable pub after_all : Plan → State → List ℕ → State
after_all m st [] = st
after_all m st (v ∷ schedule) = after_all m (next m st v) schedule

-- a turn: the steps of an actor from rest until it is at rest again. A firing has no more positions than fuel
unfoldable pub until_rest : Plan → ℕ → ℕ → State → State
until_rest m v zero st = st
until_rest m v (suc fuel) st =
    if (next m st v v).position == 0 then next m st v else until_rest m v fuel (next m st v)

abbrev pub positions : Plan → ℕ → ℕ
positions m v = suc (ends_at (length (ins_of m v)) (length (outs_of m v)))

abbrev pub turn : Plan → State → ℕ → State
turn m st v = until_rest m v (positions m v) st

-- what the last step of a turn answers
unfoldable pub last_answer : Plan → ℕ → ℕ → State → Answer
last_answer m v zero st = answer.Done
last_answer m v (suc fuel) st =
    if (next m st v v).position == 0 then answer_of m st v else last_answer m v fuel (next m st v)

abbrev pub turn_answer : Plan → State → ℕ → Answer
turn_answer m st v = last_answer m v (positions m v) st

-- a sweep: a turn of each actor, in order of number, of which these are left
unfoldable pub turns_from : Plan → ℕ → ℕ → State → State
turns_from m v zero st = st
turns_from m v (suc left) st = turns_from m (suc v) left (turn m st v)

abbrev pub sweep : Plan → State → State
sweep m st = turns_from m 0 (actors_of m) st

-- each actor is at its cap
abbrev pub IsSettled : Plan → State → Type 0
IsSettled m st = (v : ℕ) → v < actors_of m → (st v).fired ≡ cap m v

-- so many sweeps
abbrev pub sweeps : Plan → State → ℕ → State
sweeps m st zero = st
sweeps m st (suc k) = sweep m (sweeps m st k)
