use Rattle.lid_cert_text.proofs.ReadBack.{printed_is_read_back as law}
use Rattle.lid_cert_text.proofs.laws.printed_is_read_back.Goals as goal

pub returns : goal.returns
returns c = law
