use Rattle.std.proofs.Common.{◌≡◌, ◌++◌, flat_map, drop}
use Rattle.lid_check_names.specs.Names.{texts}
use Rattle.lid_design.specs.Models.{actual_names}
use Rattle.lid_check_names.proofs.listing.push_insts.Given as goal

abbrev pub invariant-loop-inst : goal.invariant-loop-inst
invariant-loop-inst l = texts l.list.items ++ flat_map actual_names (drop l.inst-index l.insts) ≡ texts l.fn.list.items ++ flat_map actual_names l.insts
