use Rattle.lid_clock_tests.proofs.Living.{starts}
use Rattle.lid_clock_tests.proofs.at_hand.runs.Goals as goal

pub ends_after-requires : goal.ends_after-requires
ends_after-requires c =
    starts c.args.system.now c.args.placement.now c.args.rows.now.bits c.requires.system c.requires.fits c.requires.few c.requires.wide
    (c.systems_have_one_table.ensures.some c.args.system.now c.requires.system) c.in-Ok.clocked c.in-Ok.ensures
