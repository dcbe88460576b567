use Rattle.lid_cert.proofs.Consequences.{lags_bound_firings as law}
use Rattle.lid_cert.proofs.laws.lags_bound_firings.Goals as goal

pub returns : goal.returns
returns c = law
