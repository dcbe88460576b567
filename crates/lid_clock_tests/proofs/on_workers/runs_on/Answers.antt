use Rattle.lid_clock_tests.proofs.Living.{starts}
use Rattle.lid_clock_tests.proofs.on_workers.runs_on.Goals as goal

pub comes_to-requires-clause-run : goal.comes_to-requires-clause-run
comes_to-requires-clause-run g c κs within =
    starts c.args.system.now c.args.placement.now c.args.rows.now.bits c.requires.system c.requires.fits c.requires.few c.requires.wide
    (c.systems_have_one_table.ensures.some c.args.system.now c.requires.system) c.in-Ok.clocked c.in-Ok.ensures
