use Rattle.lid_shell_laws.proofs.Passing.{movers_move_on}
use Rattle.lid_shell_laws.proofs.laws.movers_move_tokens_on.Goals as goal

pub returns : goal.returns
returns c = movers_move_on
