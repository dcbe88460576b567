-- How the conditions on instances are tried: the first formal that breaks one.
use denote.Ref.{Bor}
use Rattle.std.specs.Prelude.{ℕ, Bool, not, ◌||◌, List, find, Option, option_map, option_and_then}
use Rattle.lid_design.specs.declared.Design.{Design}
use Rattle.lid_design.specs.declared.Inst.{Inst}
use Rattle.lid_design.specs.Columns.{is_among, model_named, data_inputs}
use Rattle.lid_design.specs.Models.{is_port, is_twice, formals, data_inputs_of}
use Rattle.lid_check_ports.specs.declared.ports.Port.TheVariants.{Input, Output, Clock}
use Rattle.lid_check_ports.specs.declared.formals.InstRule.{InstRule}
use Rattle.lid_check_ports.specs.declared.formals.InstRule.TheVariants.{UnknownFormal, FormalTwice, Unbound}
use Rattle.lid_check_ports.specs.Ports.{is_in}

-- whether a name may be bound as a formal of the model of a number
abbrev pub is_port_of : Design → ℕ → List ℕ → Bool
is_port_of d k name = is_in d Input k name || (is_in d Output k name || is_in d Clock k name)

-- the first data input of the model of a number that is not among some names
abbrev pub first_unbound_of : Design → ℕ → List (List ℕ) → Option (List ℕ)
first_unbound_of d k names = find (λ name. not (is_among name names)) (data_inputs_of d k)

-- the name that a reference leads to
abbrev pub name_behind : Option (Bor (List ℕ)) → Option (List ℕ)
name_behind r = option_map (λ (b : Bor (List ℕ)). b.now) r

-- the formal that a condition tells of
abbrev pub faulty_formal : InstRule → Design → Inst → Option (List ℕ)
faulty_formal UnknownFormal d sub =
    option_and_then (λ m. find (λ formal. not (is_port m formal)) (formals sub)) (model_named d sub.model)
faulty_formal FormalTwice d sub = find (is_twice (formals sub)) (formals sub)
faulty_formal Unbound d sub =
    option_and_then (λ m. find (λ formal. not (is_among formal (formals sub))) (data_inputs d m)) (model_named d sub.model)
