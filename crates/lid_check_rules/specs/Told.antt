-- How faults are told by borrowed names.
use Rattle.std.specs.Prelude.{◌≡◌, ◌⊎◌, ℕ, List, Option, option_map}
use Rattle.lid_design.specs.declared.Design.{Design}
use Rattle.lid_check_rules.specs.declared.fault.CheckFault.{CheckFault}
use Rattle.lid_check_rules.specs.declared.fault.CheckFault.TheVariants as fault
use Rattle.lid_check_rules.specs.declared.told.Told.{Told}
use Rattle.lid_check_rules.specs.declared.told.Told.TheVariants.{OfName, OfInst, Recursive, TwoClocks, RootLogic, Limit, Memory}
use Rattle.lid_check_rules.specs.declared.told.NameFault.{NameFault}
use Rattle.lid_check_rules.specs.declared.told.NameFault.TheVariants as of_name
use Rattle.lid_check_rules.specs.declared.told.InstFault.{InstFault}
use Rattle.lid_check_rules.specs.declared.told.InstFault.TheVariants as of_inst
use Rattle.lid_check_rules.specs.Acceptance.{IsModelFault}

-- the fault of a condition that tells a name of a model
abbrev pub name_fault : NameFault → List ℕ → List ℕ → CheckFault
name_fault of_name.DuplicateName model name = fault.DuplicateName model name
name_fault of_name.TwoDrivers model name = fault.TwoDrivers model name
name_fault of_name.Undriven model name = fault.Undriven model name
name_fault of_name.ClockUse model name = fault.ClockUse model name
name_fault of_name.MixedEdges model name = fault.MixedEdges model name

-- the fault of a condition that tells a name at an instance of a model
abbrev pub inst_fault : InstFault → List ℕ → ℕ → List ℕ → CheckFault
inst_fault of_inst.UnknownModel model inst name = fault.UnknownModel model inst name
inst_fault of_inst.UnknownFormal model inst name = fault.UnknownFormal model inst name
inst_fault of_inst.FormalTwice model inst name = fault.FormalTwice model inst name
inst_fault of_inst.Unbound model inst name = fault.Unbound model inst name

-- the fault that is told
abbrev pub fault_of_told : Told → CheckFault
fault_of_told (OfName condition model name) = name_fault condition model.now name.now
fault_of_told (OfInst condition model inst name) = inst_fault condition model.now inst name.now
fault_of_told (Recursive model) = fault.Recursive model.now
fault_of_told (TwoClocks first second) = fault.TwoClocks first.now second.now
fault_of_told (RootLogic name) = fault.RootLogic name.now
fault_of_told (Limit which count) = fault.Limit which count
fault_of_told Memory = fault.Memory

-- the fault that is told, if one is
abbrev pub shown_of : Option Told → Option CheckFault
shown_of told = option_map fault_of_told told

-- the first condition on models that applies is told, or there was no memory
abbrev pub IsToldOf : Design → Told → Type 0
IsToldOf d told = (told ≡ Memory) ⊎ IsModelFault d (fault_of_told told)
