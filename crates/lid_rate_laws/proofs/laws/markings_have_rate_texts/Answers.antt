use Rattle.lid_rate_laws.proofs.Certified.{markings_have_rate_texts}
use Rattle.lid_rate_laws.proofs.laws.markings_have_rate_texts.Goals as goal

pub returns : goal.returns
returns c = markings_have_rate_texts
