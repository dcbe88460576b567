use Rattle.std.proofs.Common.{ℕ, List, Some, reverse, sym, ◌∙◌, ap}
use Rattle.lid_design.specs.Columns.{column}
use Rattle.lid_check_elab.proofs.Entering.{spot_column}
use Rattle.lid_check_elab.proofs.finding.find_by.Goals as goal

pub returns : goal.returns
returns c =
    let d = c.args.judged.now in
    let path = c.enter_all.new.path.items in
    let spot = c.in_ok-spot.spot in
    let name = c.in_ok-name.name in
    spot_column d c.design.ensures.judged (reverse path) spot.model spot.number c.args.number c.in_ok-spot.ensures.spot name (c.net_of.ensures ∙ ap Some (sym c.in_ok-name.ensures))
    ∙ ap (λ (p : List ℕ). Some (column (reverse p) name)) (sym c.from_vec.ensures)
