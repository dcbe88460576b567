-- How the conditions before recursion are tried: model by model.
use Rattle.std.specs.Prelude.{◌≡◌, ℕ, ◌==◌, List, Option, None, option_and_then, slice_get}
use Rattle.lid_design.specs.Models.{AreReached}
use Rattle.lid_check_rules.specs.Acceptance.{fault_before_recursion}
use Rattle.lid_design.specs.declared.Design.{Design}
use Rattle.lid_check_rules.specs.declared.fault.CheckFault.{CheckFault}
use Rattle.lid_check_rules.specs.Conditions.{first_told, in_insts, duplicate_in, unknown_at}

-- a name that stands twice in the lists of the model of a number
unfoldable pub duplicate_at : Design → ℕ → Option CheckFault
duplicate_at d k = option_and_then (duplicate_in (k == d.root)) (slice_get d.models k)

abbrev pub duplicates : Design → List ℕ → Option CheckFault
duplicates d ks = first_told (duplicate_at d) ks

-- an instance of the model of a number whose model is unknown
unfoldable pub unknown_in : Design → ℕ → Option CheckFault
unknown_in d k = option_and_then (λ m. in_insts (unknown_at d m) m) (slice_get d.models k)

abbrev pub unknowns : Design → List ℕ → Option CheckFault
unknowns d ks = first_told (unknown_in d) ks

-- what the conditions before recursion tell of the reached models
pub record TellsEarly (d : Design) (told : Option CheckFault) : Type 0 where
  pub ks : List ℕ
  pub reached : AreReached d ks
  pub tells : told ≡ fault_before_recursion d ks

-- no condition before recursion applies
pub record PassesEarly (d : Design) : Type 0 where
  pub ks : List ℕ
  pub reached : AreReached d ks
  pub before : fault_before_recursion d ks ≡ None
