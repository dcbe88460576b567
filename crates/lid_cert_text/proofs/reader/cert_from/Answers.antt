use Rattle.std.proofs.Common.{sym, subst}
use Rattle.std.specs.List.{All}
use Rattle.lid_cert.specs.Certificates.{AreLists, IsPartInRange}
use Rattle.lid_cert_text.proofs.Read.{parts_of_range, parts_of_lists}
use Rattle.lid_cert_text.proofs.reader.cert_from.Goals as goal

pub returns-in-Ok-clause-range : goal.returns-in-Ok-clause-range
returns-in-Ok-clause-range c = subst (All IsPartInRange) (sym c.in-Ok.ensures) (parts_of_range c.args.lines.now)

pub returns-in-Ok-clause-lists : goal.returns-in-Ok-clause-lists
returns-in-Ok-clause-lists c = subst (All AreLists) (sym c.in-Ok.ensures) (parts_of_lists c.args.lines.now)
