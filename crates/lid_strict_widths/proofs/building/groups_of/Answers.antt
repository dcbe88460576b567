use Rattle.std.proofs.Common.{subst, sym}
use Rattle.lid_strict_widths.specs.Groups.{Tile}
use Rattle.lid_strict_widths.proofs.Going.{tile_push}
use Rattle.lid_strict_widths.proofs.building.groups_of.Goals as goal

pub loop-start-preserved : goal.loop-start-preserved
loop-start-preserved c =
    let group = c.group_from-group.ensures.group in
    let pushed = tile_push c.args.steps.now 0 c.loop-start.start c.loop-start.groups.items c.group_from-group.result c.loop-start.invariant.1 c.group_from-group.ensures.start group in
    (group.within, subst (λ gs. Tile c.args.steps.now 0 gs c.group_from-group.result.end) (sym c.in_ok-push.ensures.items) pushed)
