-- The actors of a plan, in order.
use Rattle.std.specs.Prelude.{◌≡◌, ℕ, List, length, Some, slice_get}
use Rattle.lid_emit_circuit.specs.Plans.{CircuitPlan}
use Rattle.lid_emit_cells.specs.declared.actor.ActorStations.{ActorStations}
use Rattle.lid_emit_cells.specs.Matches.{IsActorOf, IsSmallActor}
use Rattle.lid_emit_layout.specs.declared.ends.Ends.{Ends}

-- all actors of a plan
pub record AreActorsOf (q : CircuitPlan) (actors : List ActorStations) : Type 0 where
  pub many : q.actors ≡ length actors
  pub each : (v : ℕ) (actor : ActorStations) → slice_get actors v ≡ Some actor → IsActorOf q v actor
  pub small : (v : ℕ) (actor : ActorStations) → slice_get actors v ≡ Some actor → IsSmallActor actor

-- an actor drains and fills these stations
pub record HasEnds (ends : Ends) (actor : ActorStations) : Type 0 where
  pub ins : actor.ins ≡ ends.ins.items
  pub outs : actor.outs ≡ ends.outs.items

-- the first n actors drain and fill theirs
pub record HaveEnds (n : ℕ) (ends : List Ends) (actors : List ActorStations) : Type 0 where
  pub many : length actors ≡ n
  pub each : (v : ℕ) (actor : ActorStations) → slice_get actors v ≡ Some actor → (e : Ends) × (slice_get ends v ≡ Some e) × HasEnds e actor
