use Rattle.lid_cert_text.proofs.PrintedLengths.{room_is_small as law}
use Rattle.lid_cert_text.proofs.laws.room_is_small.Goals as goal

pub returns : goal.returns
returns c = law
