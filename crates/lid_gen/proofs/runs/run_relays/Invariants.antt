use Rattle.std.proofs.Common.{◌≡◌, ◌+◌, ◌*◌}
use Rattle.lid_base.specs.Each.{from_each}
use Rattle.lid_gen.specs.Draws.{first_state, state_after, drawn}
use Rattle.lid_gen.specs.Runs.{design_draws}
use Rattle.lid_gen.proofs.runs.run_relays.Given as goal

abbrev pub invariant-loop : goal.invariant-loop
invariant-loop l =
    let first = state_after (design_draws l.shells + 4 * l.rows) (first_state l.seed) in
    (l.relays.items ≡ from_each (λ c. drawn first c 4) 0 l.counter) × (l.draws.state ≡ state_after l.counter first)
