use Rattle.std.proofs.Common.{◌≡◌, ◌++◌, drop}
use Rattle.lid_blif.specs.Designs.{insts_of}
use Rattle.lid_blif.proofs.models.insts_of.Given as goal

abbrev pub invariant-loop-line : goal.invariant-loop-line
invariant-loop-line l = l.insts.items ++ insts_of (drop l.line-index l.body) ≡ insts_of l.body
