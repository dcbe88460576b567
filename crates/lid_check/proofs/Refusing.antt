-- What is told of the columns of a design is what it is refused for.
use Rattle.std.proofs.Common.{inl, inr}
use Rattle.lid_design.specs.declared.Design.{Design}
use Rattle.lid_check_rules.specs.declared.fault.CheckFault.{CheckFault}
use Rattle.lid_check_rules.specs.Acceptance.{ModelsPass}
use Rattle.lid_check_loops.specs.Flaws.{TellsFlaw}
use Rattle.lid_check.specs.Acceptance.{IsRefusal}

pub told_refuses : (d : Design) (fault : CheckFault) → ModelsPass d → TellsFlaw d fault → IsRefusal d fault
told_refuses d fault pass (inl on_loop) = inr (inl (pass, on_loop))
told_refuses d fault pass (inr told) = inr (inr (pass, told.0, told.1))
