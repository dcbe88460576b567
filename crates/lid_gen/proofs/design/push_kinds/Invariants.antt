use Rattle.std.proofs.Common.{◌≡◌, ◌++◌}
use Rattle.lid_base.specs.Each.{from_each}
use Rattle.lid_gen.specs.Designs.{kind_model}
use Rattle.lid_gen.proofs.design.push_kinds.Given as goal

abbrev pub invariant-loop-kind : goal.invariant-loop-kind
invariant-loop-kind l = l.models.items ≡ l.fn.models.items ++ from_each kind_model 0 l.kind
