use Rattle.std.proofs.Common.{◌%◌}
use Rattle.std.proofs.lemmas.Bool.{eq-eqb}
use Rattle.lid_size_forward.proofs.Closed.{even_forward}
use Rattle.lid_size_forward.proofs.walks.is_forward.Goals as goal

pub returns-then-k-eq0 : goal.returns-then-k-eq0
returns-then-k-eq0 c = (λ yes. even_forward c.args.stations c.args.k c.if-k-eq0.true, λ forth. eq-eqb (c.args.k % 2) 0 c.if-k-eq0.true)
