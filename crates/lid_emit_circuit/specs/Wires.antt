-- The wires of a wrapped system, in which each station is a shift queue and each actor fires by itself.
use Rattle.std.specs.Prelude.{ℕ, Bool}

pub data Wire : Type 0 where
  entry : ℕ → Wire  -- a data input
  given : ℕ → Wire  -- a data input, as stations read it
  offer : Wire  -- the environment offers a row
  block : Wire  -- the environment takes no row
  steady : Bool → Wire  -- the same in all rows
  may : ℕ → ℕ → Wire  -- may v i: the first i ends of actor v let it fire
  fire : ℕ → Wire  -- an actor fires
  level : ℕ → ℕ → Wire  -- level s i: station s holds at least i tokens
  grown : ℕ → ℕ → Wire  -- and after this cycle
  place : ℕ → ℕ → ℕ → Wire  -- place s i j: bit j of the token in place i of station s
  moved : ℕ → ℕ → ℕ → Wire  -- and after this cycle
  now : ℕ → ℕ → Wire  -- now v k: net k of the pearl of shell v
  kept : ℕ → ℕ → Wire  -- what its latch takes
  later : ℕ → ℕ → Wire  -- and the net after a firing
  shown : ℕ → Wire  -- a data output
  valid : Wire  -- a row is offered to the environment
  stop : Wire  -- no row is taken from it

-- an end of an actor: it drains a station, or fills one
pub data ActorEnd : Type 0 where
  drains : ℕ → ActorEnd
  fills : ℕ → ActorEnd
