use Rattle.std.proofs.Common.{◌≡◌, Some, None, slice_get, sym, ◌∙◌}
use Rattle.lid_check_hierarchy.proofs.Walks.{reached_below}
use Rattle.lid_check_names.proofs.Numbers.{here_is}
use Rattle.lid_base.proofs.Places.{item_at}
use Rattle.lid_check_models.proofs.models.tell_recursive.Goals as goal

pub unreachable-requires : goal.unreachable-requires
unreachable-requires c =
    let d = c.args.design.now in
    let none : slice_get d.models c.args.number ≡ None = here_is _ _ _ c.model_at.ensures c.in-None.is in
    let some = item_at d.models c.args.number (reached_below d c.requires.formed c.args.number c.requires.first.reached) in
    absurd (let e : Some some.0 ≡ None = sym some.1 ∙ none in cc)
