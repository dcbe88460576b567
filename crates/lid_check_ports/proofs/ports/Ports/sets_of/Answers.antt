use Rattle.std.proofs.Common.{◌∙◌}
use Rattle.lid_check_ports.specs.declared.ports.Port.TheVariants.{Input, Output, Clock}
use Rattle.lid_check_ports.proofs.Sets.{seen_sets}
use Rattle.lid_check_ports.proofs.ports.Ports.sets_of.Goals as goal

pub returns-in-Input : goal.returns-in-Input
returns-in-Input c = c.as_slice.ensures ∙ c.self.invariant.each_input ∙ seen_sets _ _ c.self.view_is _ Input c.in-Input.is

pub returns-in-Output : goal.returns-in-Output
returns-in-Output c = c.as_slice-in-Output.ensures ∙ c.self.invariant.each_output ∙ seen_sets _ _ c.self.view_is _ Output c.in-Output.is

pub returns-in-Clock : goal.returns-in-Clock
returns-in-Clock c = c.as_slice-in-Clock.ensures ∙ c.self.invariant.each_clock ∙ seen_sets _ _ c.self.view_is _ Clock c.in-Clock.is
