use Rattle.std.proofs.Common.{ℕ, List, map, get_or, ◌∙◌, ap}
use Rattle.lid_base.proofs.Results.{if_ok}
use Rattle.lid_check_elab.proofs.Naming.{are_placed}
use Rattle.lid_check_elab.proofs.picks.picks_of.Goals as goal

pub returns : goal.returns
returns c =
    let m = c.table_of.result.now in
    let nets = c.nets_of.result.now in
    if_ok c.pick_all.result
    (λ picks are.
    are_placed c.args.judged.now c.args.model m c.table_of.ensures c.args.numbers.now nets c.in_ok-places.places.items picks c.len.result c.len.ensures c.in_ok-places.ensures (c.nets_of.ensures m c.table_of.ensures)
    (are ∙ ap (λ (ps : List ℕ). map (λ n. get_or ps n 0) nets) c.as_slice.ensures.value))
    c.pick_all.ensures
