-- Laws of wrapped systems.
use Rattle.std.specs.Prelude.{◌≡◌, ◌↔◌, ℕ, ◌+◌, ◌<◌, Bool, true, false, List, length, Some, slice_get}
use Rattle.lid_design.specs.Network.{Table, IsStrict}
use Rattle.lid_emit_circuit.specs.Wires.{Wire, fire, shown, valid, stop}
use Rattle.lid_emit_circuit.specs.Plans.{CircuitPlan}
use Rattle.lid_emit_circuit.specs.Network.{sink, emitted}
use Rattle.lid_emit_circuit.specs.Runs.{counts_up}
use Rattle.lid_emit_circuit.specs.Counts.{fired, put_count, taken_count}
use Rattle.lid_emit_circuit.specs.Carried.{IsPlan, Original, IsTaken, IsCarried, ShowsLevels, ShowsTokens, ShowsStates}

-- in each row of each strict table of the network
abbrev pub InEachRow : CircuitPlan → (List (List Bool) → Table Wire → ℕ → Type 0) → Type 0
InEachRow q P = (rows : List (List Bool)) (b : Table Wire) (k : ℕ) → IsStrict (emitted q) rows b → k < length rows → P rows b k

-- levels show how many tokens stations hold
abbrev pub LevelsShowCounts : Type 0
LevelsShowCounts = (q : CircuitPlan) → IsPlan q → InEachRow q (ShowsLevels q)

-- the wire of an actor shows that it fires
abbrev pub ActorsFireByTheirWires : Type 0
ActorsFireByTheirWires = (q : CircuitPlan) → IsPlan q → InEachRow q (λ rows b k. (v : ℕ) → v < q.actors → b k (fire v) ≡ counts_up (fired q rows) v k)

-- some station that the source fills holds its capacity
pub record SourceIsStopped (q : CircuitPlan) (rows : List (List Bool)) (k : ℕ) : Type 0 where
  pub station : ℕ
  pub there : station < q.stations
  pub filled : q.filler station ≡ 0
  pub full : put_count q (fired q rows k) station ≡ taken_count q (fired q rows k) station + q.capacity station

-- each station that the sink drains holds a token
abbrev pub SinkIsServed : CircuitPlan → List (List Bool) → ℕ → Type 0
SinkIsServed q rows k =
    (station : ℕ) → station < q.stations → q.drainer station ≡ sink q → taken_count q (fired q rows k) station < put_count q (fired q rows k) station

abbrev pub CircuitsTellStops : Type 0
CircuitsTellStops = (q : CircuitPlan) → IsPlan q → InEachRow q (λ rows b k. b k stop ≡ true ↔ SourceIsStopped q rows k)

abbrev pub CircuitsTellRows : Type 0
CircuitsTellRows = (q : CircuitPlan) → IsPlan q → InEachRow q (λ rows b k. b k valid ≡ true ↔ SinkIsServed q rows k)

-- where no row is offered, data outputs are 0
abbrev pub OutputsAreQuiet : Type 0
OutputsAreQuiet =
    (q : CircuitPlan) → IsPlan q
    → InEachRow q (λ rows b k. (j : ℕ) (wire : Wire) → slice_get q.shows j ≡ Some wire → b k valid ≡ false → b k (shown j) ≡ false)

-- stations hold the tokens, and shells the states, of what is carried
abbrev pub CircuitsCarryTokens : Type 0
CircuitsCarryTokens =
    (q : CircuitPlan) → IsPlan q
    → InEachRow q (λ rows b k. (o : Original) → IsCarried q rows o → ShowsTokens q rows o b k × ShowsStates q rows o b k)

-- where the sink fires, the outputs show the row that it takes
abbrev pub CircuitsGiveRows : Type 0
CircuitsGiveRows =
    (q : CircuitPlan) → IsPlan q
    → InEachRow q (λ rows b k.
    (o : Original) (j : ℕ) (wire : Wire) (bits : ℕ → Bool)
    → IsCarried q rows o → slice_get q.shows j ≡ Some wire → IsTaken q o (sink q) wire bits
    → counts_up (fired q rows) (sink q) k ≡ true → fired q rows k (sink q) < o.rows
    → b k (shown j) ≡ bits (fired q rows k (sink q)))
