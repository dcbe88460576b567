use Rattle.std.proofs.Common.{sym, map}
use Rattle.std.proofs.lemmas.List.{length-map}
use Rattle.lid_design.specs.WellFormed.{model_name}
use Rattle.lid_check_hierarchy.proofs.Distinct.{distinct_by_length}
use Rattle.lid_check_hierarchy.proofs.formed.have_own_names.Goals as goal

pub returns : goal.returns
returns c = distinct_by_length c.in_ok-names.names (map model_name c.args.models.now) c.len.result c.in_ok-names.ensures c.len.ensures.value _ (sym (length-map c.args.models.now model_name))
