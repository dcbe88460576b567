-- What a wrapped system is made from: actors and stations by their numbers, and the wires of the nets of pearls.
use Rattle.std.specs.Prelude.{ℕ, Bool, List, ◌++◌, map}
use Rattle.lid_design.specs.declared.Flat.{Flat}
use Rattle.lid_emit_circuit.specs.Wires.{Wire, ActorEnd, drains, fills}

-- Actors are the nodes, of which the first is the source and the last the sink, and then movers
pub record CircuitPlan : Type 0 where
  pub nodes : ℕ
  pub actors : ℕ
  pub inputs : ℕ  -- the data inputs
  pub stations : ℕ
  pub filler : ℕ → ℕ  -- the actor that fills a station
  pub drainer : ℕ → ℕ  -- the actor that drains it
  pub capacity : ℕ → ℕ
  pub first : ℕ → ℕ  -- the tokens that it starts with, at most one
  pub width : ℕ → ℕ  -- the bits of its tokens
  pub begins : ℕ → ℕ → Bool  -- the bits that it starts with
  pub put : ℕ → ℕ → Wire  -- the bits that its filler puts
  pub ins : ℕ → List ℕ  -- the stations that an actor drains, in order
  pub outs : ℕ → List ℕ  -- the stations that it fills
  pub flat : ℕ → Flat  -- the flat part of a shell's pearl
  pub here : ℕ → ℕ → Wire  -- here v k: the wire that has net k of shell v
  pub after : ℕ → ℕ → Wire  -- and the wire that has it after a firing
  pub skips : ℕ → ℕ → Bool  -- whether the net has the wires of another, whose bit it passes on
  pub shows : List Wire  -- what the data outputs show

-- the ends of an actor: first those that it drains
abbrev pub ends : CircuitPlan → ℕ → List ActorEnd
ends q v = map drains (q.ins v) ++ map fills (q.outs v)
