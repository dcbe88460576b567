use Rattle.lid_rate_laws.proofs.Certified.{rateable_graphs_have_certificates}
use Rattle.lid_rate_laws.proofs.laws.rateable_graphs_have_certificates.Goals as goal

pub returns : goal.returns
returns c = rateable_graphs_have_certificates
