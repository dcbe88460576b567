use Rattle.std.proofs.Common.{List, ℕ, not, find, ◌∙◌, ap}
use Rattle.lid_design.specs.declared.Design.{Design}
use Rattle.lid_design.specs.Columns.{is_among}
use Rattle.lid_design.specs.Models.{data_inputs_of}
use Rattle.lid_check_ports.proofs.formals.first_unbound.Goals as goal

pub returns : goal.returns
returns c =
    c.first_outside.ensures
    ∙ ap (λ (ns : List (List ℕ)). find (λ n. not (is_among n c.args.bound.now)) ns) (c.data_inputs.ensures ∙ ap (λ (d : Design). data_inputs_of d c.args.sub) c.survey.ensures)
