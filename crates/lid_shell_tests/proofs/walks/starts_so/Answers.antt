-- The walk has not begun.
use Rattle.lid_shell_tests.proofs.Walking.{has_actors}
use Rattle.lid_shell_tests.proofs.walks.starts_so.Goals as goal

pub steps_so-requires : goal.steps_so-requires
steps_so-requires c =
    let run = c.args.run.now in
    has_actors run.system run.placement run.rows.bits c.requires (c.systems_have_one_table.ensures.some run.system c.requires.system) c.in-Ok.walk c.in-Ok.ensures c.count_of-many.result c.count_of-many.ensures
