-- How the conditions on instances are tried: one after the other, over all models.
use Rattle.std.specs.Prelude.{ℕ, List, Option, option_and_then, slice_get}
use Rattle.lid_design.specs.declared.Design.{Design}
use Rattle.lid_design.specs.declared.Model.{Model}
use Rattle.lid_design.specs.declared.Inst.{Inst}
use Rattle.lid_check_ports.specs.declared.formals.InstRule.{InstRule}
use Rattle.lid_check_ports.specs.declared.formals.InstRule.TheVariants as inst
use Rattle.lid_check_rules.specs.declared.fault.CheckFault.{CheckFault}
use Rattle.lid_check_rules.specs.declared.fault.CheckFault.TheVariants.{UnknownFormal, FormalTwice, Unbound}
use Rattle.lid_check_rules.specs.Conditions.{first_told, in_insts, unknown_formal_at, formal_twice_at, unbound_at}

-- what a condition tells of an instance
abbrev pub inst_rule : InstRule → Design → Model → ℕ → Inst → Option CheckFault
inst_rule inst.UnknownFormal d m i sub = unknown_formal_at d m i sub
inst_rule inst.FormalTwice d m i sub = formal_twice_at m i sub
inst_rule inst.Unbound d m i sub = unbound_at d m i sub

-- how it is told
abbrev pub told_formal : InstRule → List ℕ → ℕ → List ℕ → CheckFault
told_formal inst.UnknownFormal model i formal = UnknownFormal model i formal
told_formal inst.FormalTwice model i formal = FormalTwice model i formal
told_formal inst.Unbound model i formal = Unbound model i formal

-- what a condition tells of the model of a number
unfoldable pub inst_at : InstRule → Design → ℕ → Option CheckFault
inst_at rule d k = option_and_then (λ m. in_insts (inst_rule rule d m) m) (slice_get d.models k)

-- what it tells of some models
abbrev pub by_inst : InstRule → Design → List ℕ → Option CheckFault
by_inst rule d ks = first_told (inst_at rule d) ks

-- what the first of some conditions tells of some models
abbrev pub by_insts : Design → List ℕ → List InstRule → Option CheckFault
by_insts d ks rules = first_told (λ rule. by_inst rule d ks) rules
