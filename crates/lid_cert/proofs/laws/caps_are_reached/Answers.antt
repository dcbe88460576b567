use Rattle.lid_cert.proofs.Consequences.{caps_are_reached as law}
use Rattle.lid_cert.proofs.laws.caps_are_reached.Goals as goal

pub returns : goal.returns
returns c = law
