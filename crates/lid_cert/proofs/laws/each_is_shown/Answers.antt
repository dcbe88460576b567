use Rattle.lid_cert.proofs.Consequences.{each_is_shown as law}
use Rattle.lid_cert.proofs.laws.each_is_shown.Goals as goal

pub returns : goal.returns
returns c = law
