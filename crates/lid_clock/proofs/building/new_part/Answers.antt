-- The last node is the sink.
use Rattle.std.proofs.Common.{◌≡◌, ℕ, ◌-◌, length, subst, arith}
use Rattle.lid_base.proofs.Results.{if_ok}
use Rattle.lid_clock.specs.Ran.{lent}
use Rattle.lid_clock.specs.Starts.{IsNewRole}
use Rattle.lid_clock.proofs.building.new_part.Goals as goal

pub returns-then-v-nodes-2 : goal.returns-then-v-nodes-2
returns-then-v-nodes-2 c =
    let last : length c.args.system.now.nodes - 1 ≡ c.args.v = omega (arith, c.len-nodes.ensures) in
    if_ok c.sink_part.result (λ part new. subst (λ (n : ℕ). IsNewRole c.args.system.now (lent c.args.first) n part) last (new (lent c.args.first))) c.sink_part.ensures
