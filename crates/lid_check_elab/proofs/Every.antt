-- Each driven column is one of the columns.
use Rattle.std.proofs.Common.{◌≡◌, [], ap, sym, subst, ◌+◌, Option}
use Rattle.lid_base.specs.Lists.{Among}
use Rattle.lid_base.proofs.Lists.{get_among, among_get}
use Rattle.std.specs.Option.{option_map_or}
use Rattle.lid_design.specs.declared.Design.{Design}
use Rattle.lid_design.specs.declared.Model.{Model}
use Rattle.lid_design.specs.Columns.{Column, drivers}
use Rattle.lid_design.specs.Walks.{IsDriven}
use Rattle.lid_design.specs.Models.{nets}
use Rattle.lid_design.specs.Elaboration.{model_nets, columns}
use Rattle.lid_check_drivers.specs.Judged.{IsJudged}
use Rattle.lid_check_drivers.proofs.Driven.{driven_at}
use Rattle.lid_check_elab.specs.Numbers.{start_of}
use Rattle.lid_check_elab.proofs.Numbering.{starts_at}

pub driven_column : (d : Design) → IsJudged d → (c : Column) → IsDriven (drivers d) c → Among c (columns d)
driven_column d judged c some =
    let spot = driven_at d judged c some in
    let names : model_nets d spot.number ≡ nets d spot.model = ap (λ (o : Option Model). option_map_or (nets d) o []) spot.here in
    let at = among_get (model_nets d spot.number) c.net (subst (Among c.net) (sym names) spot.net) in
    get_among (columns d) (start_of d c.path + at.0) c (starts_at d judged c.path spot.number at.0 c.net spot.leads at.1)
