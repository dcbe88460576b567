use Rattle.std.proofs.Common.{◌≡◌, ◌+◌, ◌*◌, ◌≤◌, not, length, refl, sym, ap, arith}
use Rattle.lid_design.specs.Columns.{is_clock, data_inputs}
use Rattle.lid_base.specs.Each.{from_each}
use Rattle.lid_check_laws.proofs.Below.{root_free}
use Rattle.lid_gen.specs.Draws.{first_state, state_after, drawn}
use Rattle.lid_gen.specs.Designs.{input_name, root_model, made, generated}
use Rattle.lid_gen.specs.Runs.{design_draws, row_from, generated_rows, generated_relays}
use Rattle.lid_gen_laws.proofs.Sizes.{some, few}
use Rattle.lid_gen_laws.proofs.Roots.{root_plain}
use Rattle.lid_gen_laws.proofs.Formed.{well_formed}
use Rattle.lid_base.proofs.Each.{each_length, all_each}
use Rattle.lid_base.proofs.Lists.{filter_whole}
use Rattle.lid_gen_laws.proofs.laws.generated_runs_fit.Goals as goal

pub returns-clause-columns : goal.returns-clause-columns
unfolding generated generated_rows data_inputs
returns-clause-columns c seed n rows fine =
    let s = first_state seed in
    let free = root_free (made s n) (well_formed s n (few n fine)) (root_model s n) refl (root_plain s n (some n fine) (few n fine)) in
    sym (filter_whole (λ net. not (is_clock (made s n) (root_model s n) net)) (from_each input_name 0 4) (λ net among. ap not (free net)))

pub returns-clause-rows : goal.returns-clause-rows
unfolding generated_rows
returns-clause-rows c seed n rows = each_length (λ t. row_from (state_after (4 * t) (state_after (design_draws n) (first_state seed)))) 0 rows

pub returns-clause-wide : goal.returns-clause-wide
unfolding generated_rows
returns-clause-wide c seed n rows = all_each (λ row. length row ≡ 4) (λ t. row_from (state_after (4 * t) (state_after (design_draws n) (first_state seed)))) 0 rows (λ t. refl)

pub returns-clause-relays : goal.returns-clause-relays
unfolding generated_relays
returns-clause-relays c seed n rows channels = each_length (λ k. drawn (state_after (design_draws n + 4 * rows) (first_state seed)) k 4) 0 channels

pub returns-clause-few : goal.returns-clause-few
unfolding generated_relays
returns-clause-few c seed n rows channels =
    all_each (λ relays. relays ≤ 3) (λ k. drawn (state_after (design_draws n + 4 * rows) (first_state seed)) k 4) 0 channels (λ k. omega arith)
