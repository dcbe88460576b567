-- Why the columns of a design are refused, by numbers.
use Rattle.std.specs.Prelude.{◌≡◌, ℕ, ◌<◌, ◌⊎◌, Bool, List, map, Option, Some, None, slice_get}
use Rattle.lid_base.specs.Lists.{Among}
use Rattle.lid_design.specs.declared.Design.{Design}
use Rattle.lid_design.specs.declared.Model.{Model}
use Rattle.lid_design.specs.Models.{IsReached, data_inputs_of}
use Rattle.lid_design.specs.Loops.{HasNoLoop}
use Rattle.lid_check_rules.specs.declared.fault.CheckFault.{CheckFault}
use Rattle.lid_check_loops.specs.Dependence.{IsFirstOnLoop, TellsLoop, HasNoDependence, IsFirstDependent, TellsDependence}
use Rattle.lid_check_loops.specs.Pearls.{LeadsInPearl, NoneLeads, IsFirstInput}
use Rattle.lid_check_digraph.specs.Graphs.{IsOrder}
use Rattle.lid_check_elab.specs.declared.driver.ColumnDriver.{ColumnDriver}
use Rattle.lid_check_elab.specs.Elaborations.{driver_reads}
use Rattle.lid_check_loops.specs.declared.flaws.Verdict.{Verdict}
use Rattle.lid_check_loops.specs.declared.flaws.Verdict.TheVariants.{Sound, Flawed}
use Rattle.lid_check_loops.specs.declared.flaws.Flaw.{Flaw}
use Rattle.lid_check_loops.specs.declared.flaws.Flaw.TheVariants.{Loop, Dependence}
use Rattle.lid_check_loops.specs.declared.outputs.Lead.{Lead}
use Rattle.lid_check_loops.specs.declared.pearls.Pearl.{Pearl}

-- the places of the first output of a pearl to which a data input leads, and of the first such input
pub record IsFirstLead (d : Design) (g : List (List ℕ)) (cut : List Bool) (pearl : Pearl) (lead : Lead) : Type 0 where
  pub same : lead.model ≡ pearl.model
  pub m : Model
  pub output : List ℕ
  pub here : slice_get d.models pearl.model ≡ Some m
  pub out : slice_get m.outputs lead.output ≡ Some output
  pub first :
      (j : ℕ) (input other : List ℕ)
      → j < lead.output
      → slice_get m.outputs j ≡ Some other
      → Among input (data_inputs_of d pearl.model)
      → ¬ LeadsInPearl d g cut pearl input other
  pub leads : IsFirstInput d g cut pearl output lead.input

-- whether a data input leads to an output of a pearl, and where first
abbrev pub FindsLead : Design → List (List ℕ) → List Bool → Pearl → Option Lead → Type 0
FindsLead d g cut pearl None = NoneLeads d g cut pearl
FindsLead d g cut pearl (Some lead) = IsFirstLead d g cut pearl lead

-- the places of the first output that depends on an input of its pearl, and of the first such input
pub record IsFirstDependence (d : Design) (lead : Lead) : Type 0 where
  pub is : IsFirstDependent d lead.output lead.input
  pub reached : IsReached d lead.model
  pub here : slice_get d.models lead.model ≡ Some is.m

-- whether an output depends on an input of its pearl, and where first
abbrev pub FindsDependence : Design → Option Lead → Type 0
FindsDependence d None = HasNoDependence d
FindsDependence d (Some lead) = IsFirstDependence d lead

-- the first reason to refuse the columns of a design
abbrev pub IsFirstFlaw : Design → Flaw → Type 0
IsFirstFlaw d (Loop k) = IsFirstOnLoop d k
IsFirstFlaw d (Dependence lead) = HasNoLoop d × IsFirstDependence d lead

-- there is no reason to refuse the columns of a design, and they have an order in which each stands after
-- all that it reads in the same row; or this is the first reason
abbrev pub IsVerdict : Design → List ColumnDriver → Verdict → Type 0
IsVerdict d ds (Sound order) = HasNoLoop d × HasNoDependence d × IsOrder (map driver_reads ds) order
IsVerdict d ds (Flawed flaw) = IsFirstFlaw d flaw

-- the first reason to refuse the columns of a design is told
abbrev pub TellsFlaw : Design → CheckFault → Type 0
TellsFlaw d fault = TellsLoop d fault ⊎ (HasNoLoop d × TellsDependence d fault)
