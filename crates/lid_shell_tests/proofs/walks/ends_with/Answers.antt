-- The walk has not begun.
use Rattle.lid_shell_tests.proofs.Walking.{at_rest}
use Rattle.lid_shell_tests.proofs.walks.ends_with.Goals as goal

pub settles-requires : goal.settles-requires
settles-requires c =
    let run = c.args.run.now in
    at_rest run.system run.placement run.rows.bits c.requires (c.systems_have_one_table.ensures.some run.system c.requires.system) c.in-Ok.walk c.in-Ok.ensures
