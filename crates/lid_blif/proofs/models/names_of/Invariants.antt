use Rattle.std.proofs.Common.{◌≡◌, ◌++◌, drop}
use Rattle.lid_blif.specs.Designs.{names_of}
use Rattle.lid_blif.proofs.models.names_of.Given as goal

abbrev pub invariant-loop-line : goal.invariant-loop-line
invariant-loop-line l = l.names.items ++ names_of l.wanted (drop l.line-index l.body) ≡ names_of l.wanted l.body
