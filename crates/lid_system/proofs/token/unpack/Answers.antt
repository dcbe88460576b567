use Rattle.std.proofs.Common.{ap, ◌∙◌, ℕ}
use Rattle.lid_strict_engine.specs.Truth.{is_set}
use Rattle.lid_strict_engine.proofs.Tabling.{packed_bit}
use Rattle.lid_system.proofs.token.unpack.Goals as goal

pub returns-clause-packed : goal.returns-clause-packed
returns-clause-packed c bits token below = ap (λ (n : ℕ). is_set n c.args.bit) token ∙ packed_bit bits c.args.bit
