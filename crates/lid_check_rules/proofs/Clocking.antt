-- Clock names that are used as clock names.
use Rattle.std.proofs.Common.{◌≡◌, ℕ, Bool, true, false, not, ◌&&◌, ◌||◌, List, Option, Some, slice_get, refl, ap, ◌∙◌}
use Rattle.std.specs.List.{list_all}
use Rattle.std.specs.Option.{option_map_or}
use Rattle.lid_design.specs.declared.Design.{Design}
use Rattle.lid_design.specs.declared.Model.{Model}
use Rattle.lid_design.specs.Columns.{is_among, is_clock}
use Rattle.lid_design.specs.Models.{is_clock_of, read_names, inner_drivers}
use Rattle.lid_check_ports.specs.declared.ports.Port.TheVariants.{Input, Clock}
use Rattle.lid_check_ports.specs.Ports.{is_in}
use Rattle.lid_check_rules.specs.Conditions.{is_misused}
use Rattle.lid_check_rules.proofs.Sets.{all_among, not_true}

-- whether a name is a clock name of a model, by the model's number
pub clock_here : (d : Design) (k : ℕ) (m : Model) (name : List ℕ) → slice_get d.models k ≡ Some m → is_clock_of d k name ≡ is_clock d m name
clock_here d k m name here = ap (λ (o : Option Model). option_map_or (λ m. is_clock d m name) o false) here

-- no name is misused, where no clock name is
pub none_misused : (d : Design) (k : ℕ) (m : Model) (clocks : List (List ℕ)) → slice_get d.models k ≡ Some m → ((n : List ℕ) → is_among n clocks ≡ is_clock_of d k n) → list_all (λ n. not (is_misused d m n)) clocks ≡ true → (name : List ℕ) → is_misused d m name ≡ false
none_misused d k m clocks here are all name = by (is_clock d m name) refl
  where
    by : (b : Bool) → is_clock d m name ≡ b → is_misused d m name ≡ false
    by true e = not_true (is_misused d m name) (all_among (λ n. not (is_misused d m n)) clocks all name (are name ∙ clock_here d k m name here ∙ e))
    by false e = ap (λ (b : Bool). b && (not (is_among name m.inputs || is_among name m.clocks) || (is_among name (read_names d m) || is_among name (inner_drivers d m)))) e

-- whether a name stands among the inputs or the clocks of a model, by the model's number
pub given_here : (d : Design) (k : ℕ) (m : Model) (name : List ℕ) → slice_get d.models k ≡ Some m → (is_in d Input k name || is_in d Clock k name) ≡ (is_among name m.inputs || is_among name m.clocks)
given_here d k m name here = ap (λ (o : Option Model). option_map_or (λ m. is_among name m.inputs) o false || option_map_or (λ m. is_among name m.clocks) o false) here

-- whether a name is misused, by what is asked of it
pub misused_by : (d : Design) (m : Model) (name : List ℕ) (clock given read driven : Bool) → clock ≡ is_clock d m name → given ≡ (is_among name m.inputs || is_among name m.clocks) → read ≡ is_among name (read_names d m) → driven ≡ is_among name (inner_drivers d m) → (clock && (not given || (read || driven))) ≡ is_misused d m name
misused_by d m name clock given read driven is_clock_name is_given is_read is_driven =
    ap (λ (b : Bool). b && (not given || (read || driven))) is_clock_name
    ∙ ap (λ (b : Bool). is_clock d m name && (not b || (read || driven))) is_given
    ∙ ap (λ (b : Bool). is_clock d m name && (not (is_among name m.inputs || is_among name m.clocks) || (b || driven))) is_read
    ∙ ap (λ (b : Bool). is_clock d m name && (not (is_among name m.inputs || is_among name m.clocks) || (is_among name (read_names d m) || b))) is_driven
