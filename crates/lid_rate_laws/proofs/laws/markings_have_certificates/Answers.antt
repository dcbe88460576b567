use Rattle.lid_rate_laws.proofs.Certified.{markings_have_certificates}
use Rattle.lid_rate_laws.proofs.laws.markings_have_certificates.Goals as goal

pub returns : goal.returns
returns c = markings_have_certificates
