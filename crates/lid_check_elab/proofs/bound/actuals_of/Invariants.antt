use Rattle.std.proofs.Common.{◌≡◌, ◌++◌, drop, map, flat_map}
use Rattle.lid_design.specs.Models.{actual_names}
use Rattle.lid_check_table.specs.Tables.{AreNumbersOf}
use Rattle.lid_check_elab.specs.Templates.{model_names}
use Rattle.lid_check_elab.specs.Parts.{places_in_inst}
use Rattle.lid_check_elab.proofs.bound.actuals_of.Given as goal

abbrev pub invariant-loop-i : goal.invariant-loop-i
invariant-loop-i l = record {
  found : l.all.items ++ map (places_in_inst l.judged l.model) (drop l.i l.insts) ≡ map (places_in_inst l.judged l.model) l.insts;
  left : AreNumbersOf (model_names l.judged l.model) (flat_map actual_names (drop l.i l.insts)) l.left;
}
