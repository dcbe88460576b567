-- The mover stands between stations 1 and 2, and the board has no tokens.
use Rattle.std.proofs.Common.{◌≡◌, subst}
use Rattle.lid_stations.specs.declared.placement.Placement.{Placement}
use Rattle.lid_stations.specs.Placements.{Fits}
use Rattle.lid_shell_tests.proofs.Moving.{laid, laid_is, setup, begin, can_turn}
use Rattle.lid_shell_tests.proofs.movers.mover_waits.Goals as goal

pub turns_so-requires : goal.turns_so-requires
turns_so-requires c =
    let s = c.args.system.now in
    let p = c.args.placement.now in
    let rows = c.args.rows.now in
    let same : p ≡ laid = laid_is p c.requires.relays c.requires.caps in
    let fits = subst (λ (x : Placement). Fits s x) same c.requires.fits in
    let tables = c.systems_have_one_table.ensures.some s c.requires.system in
    let law = c.movers_move_tokens_on.ensures in
    can_turn s rows c.requires.system fits c.requires.few c.requires.wide tables law c.mover-mover.result c.in-Ok.board.pairs.items c.in-Ok.ensures.started c.mover-mover.ensures
    (c.in-Ok.ensures.stands _ (begin s rows c.requires.system fits c.requires.few c.requires.wide tables law))
