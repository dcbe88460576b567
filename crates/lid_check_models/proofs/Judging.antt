-- What is told before recursion.
use Rattle.std.proofs.Common.{◌≡◌, ℕ, List, Option, Some, None, sym, ◌∙◌, ap}
use Rattle.lid_design.specs.declared.Design.{Design}
use Rattle.lid_design.specs.Models.{AreReached}
use Rattle.lid_check_rules.specs.declared.told.Told.{Told}
use Rattle.lid_check_rules.specs.Early.{duplicates, unknowns, TellsEarly}
use Rattle.lid_check_rules.specs.Told.{shown_of}
use Rattle.lid_check_rules.proofs.Faults.{told_first, told_later}
use Rattle.lid_check_models.proofs.Passing.{early_are}

duplicates_same : (d d' : Design) (ks : List ℕ) → d' ≡ d → duplicates d' ks ≡ duplicates d ks
duplicates_same d d' ks here = ap (λ (e : Design). duplicates e ks) here

-- a name that stands twice is told
pub tells_first : (d d' : Design) (ks : List ℕ) (o : Option Told) (told : Told) → AreReached d ks → d' ≡ d → shown_of o ≡ duplicates d' ks → o ≡ Some told → TellsEarly d (shown_of (Some told))
tells_first d d' ks o told reached here tells is =
    record { ks = ks; reached = reached; tells = told_first (duplicates d ks) (unknowns d ks) o told is (tells ∙ duplicates_same d d' ks here) ∙ sym (early_are d ks) }

-- or else an unknown model
pub tells_rest : (d d' : Design) (ks : List ℕ) (o told : Option Told) → AreReached d ks → d' ≡ d → shown_of o ≡ duplicates d' ks → o ≡ None → shown_of told ≡ unknowns d ks → TellsEarly d (shown_of told)
tells_rest d d' ks o told reached here first is later =
    record { ks = ks; reached = reached; tells = later ∙ (told_later (duplicates d ks) (unknowns d ks) o is (first ∙ duplicates_same d d' ks here) ∙ sym (early_are d ks)) }
