use Rattle.std.proofs.Common.{ℕ, List, Bor, find, ap, ◌∙◌}
use Rattle.lid_check_names.specs.Names.{texts}
use Rattle.lid_check_rules.specs.Conditions.{is_duplicate}
use Rattle.lid_check_rules.proofs.Ports.{first_in_ports}
use Rattle.lid_check_rules.proofs.duplicates.first_in_lists.Goals as goal

pub returns : goal.returns
returns c =
    let m = c.args.lists.now.model.now in
    c.first_among.ensures
    ∙ ap (λ (names : List (Bor (List ℕ))). find (is_duplicate c.args.is_root m) (texts names)) c.as_slice.ensures.value
    ∙ ap (find (is_duplicate c.args.is_root m)) c.in_ok-names.ensures
    ∙ first_in_ports c.args.is_root m
