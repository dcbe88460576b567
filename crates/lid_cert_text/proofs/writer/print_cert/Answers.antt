use Rattle.std.proofs.Common.{subst}
use Rattle.std.specs.List.{All}
use Rattle.lid_cert_text.specs.Printed.{IsPartSmall}
use Rattle.lid_cert_text.proofs.PrintedLengths.{read_back, is_short}
use Rattle.lid_cert_text.proofs.writer.print_cert.Goals as goal

pub returns-clause-back : goal.returns-clause-back
returns-clause-back c = read_back c.args.cert.now c.requires (subst (All IsPartSmall) c.as_slice.ensures c.are_parts_small.ensures)

pub returns-clause-short : goal.returns-clause-short
returns-clause-short c = is_short c.args.cert.now c.requires (subst (All IsPartSmall) c.as_slice.ensures c.are_parts_small.ensures)
