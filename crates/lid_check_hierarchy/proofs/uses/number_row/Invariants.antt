use Rattle.std.proofs.Common.{◌≡◌, ◌++◌, drop, map}
use Rattle.lid_check_hierarchy.specs.Graphs.{number_by}
use Rattle.lid_check_hierarchy.proofs.uses.number_row.Given as goal

abbrev pub invariant-loop-inst : goal.invariant-loop-inst
invariant-loop-inst l =
    l.row.items ++ map (number_by l.names) (drop l.inst-index l.insts) ≡ map (number_by l.names) l.insts
