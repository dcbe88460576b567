-- Designs whose ports have names that can be written.
use Rattle.std.specs.List.{AllByRecursion}
use Rattle.lid_design.specs.declared.Design.{Design}
use Rattle.lid_design.specs.declared.Model.{Model}
use Rattle.lid_base_lines.specs.Spelled.{IsSpelled}

-- the name of a model and those of its inputs and outputs are words
pub record IsSpelledModel (m : Model) : Type 0 where
  pub name : IsSpelled 1024 m.name
  pub inputs : AllByRecursion (IsSpelled 1024) m.inputs
  pub outputs : AllByRecursion (IsSpelled 1024) m.outputs

abbrev pub HasSpelledPorts : Design → Type 0
HasSpelledPorts d = AllByRecursion IsSpelledModel d.models
