use Rattle.std.proofs.Common.{◌∙◌}
use Rattle.lid_design.specs.Models.{is_twice}
use Rattle.lid_check_names.specs.Names.{is_among, texts}
use Rattle.lid_check_ports.proofs.Sets.{find_same}
use Rattle.lid_check_ports.proofs.formals.find_repeated.Goals as goal

pub returns : goal.returns
returns c = c.first_in.ensures ∙ find_same (λ n. is_among n c.in_ok-twice.twice) (is_twice (texts c.args.names.now)) (texts c.args.names.now) c.in_ok-twice.ensures
