-- All cells of an actor, put together.
use Rattle.std.proofs.Common.{◌≡◌, ℕ, ◌+◌, [], ◌∷◌, ◌++◌, length, sym, ◌∙◌, ap}
use Rattle.lid_base.specs.Each.{from_each}
use Rattle.lid_emit_circuit.specs.Wires.{may, fire}
use Rattle.lid_emit_circuit.specs.Plans.{CircuitPlan}
use Rattle.lid_emit_circuit.specs.Lists.{actor_wires}
use Rattle.lid_emit_cells.specs.declared.actor.ActorStations.{ActorStations}
use Rattle.lid_emit_cells.specs.Drafts.{Draft, name_on, with_wires}
use Rattle.lid_emit_cells.specs.Matches.{IsActorOf}
use Rattle.lid_emit_cells.proofs.Drafting.{more_wires}
use Rattle.lid_emit_cells.proofs.Ends.{ends_long}

-- what was pushed one after the other
pub actor_done : (q : CircuitPlan) (v : ℕ) (actor : ActorStations) (is : IsActorOf q v actor) (old first second : Draft)
    → first ≡ with_wires q old (from_each (may v) 0 (length actor.ins + length actor.outs + 1)) → second ≡ with_wires q first (fire v ∷ [])
    → second ≡ with_wires q old (actor_wires q v)
actor_done q v actor is old first second one two =
    more_wires q old first second (from_each (may v) 0 (length actor.ins + length actor.outs + 1)) (fire v ∷ []) one two
    ∙ ap (λ (n : ℕ). with_wires q old (from_each (may v) 0 (n + 1) ++ fire v ∷ [])) (sym (ends_long q (name_on old) v actor is))
