use Rattle.lid_cert_text.proofs.PrintedLengths.{printed_is_short as law}
use Rattle.lid_cert_text.proofs.laws.printed_is_short.Goals as goal

pub returns : goal.returns
returns c = law
