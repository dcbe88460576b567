use Rattle.lid_cert_text_laws.proofs.Found.{texts_are_read}
use Rattle.lid_cert_text_laws.proofs.laws.texts_are_read.Goals as goal

pub returns : goal.returns
returns c = texts_are_read
