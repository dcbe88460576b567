use Rattle.lid_gen.specs.Draws.{first_state}
use Rattle.lid_gen.specs.Designs.{generated}
use Rattle.lid_gen_laws.proofs.Sizes.{few}
use Rattle.lid_gen_laws.proofs.Written.{made_written}
use Rattle.lid_gen_laws.proofs.laws.generated_designs_are_writable.Goals as goal

pub returns : goal.returns
unfolding generated
returns c seed n fine = made_written (first_state seed) n (few n fine)
