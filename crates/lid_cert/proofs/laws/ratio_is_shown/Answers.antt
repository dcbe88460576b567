use Rattle.lid_cert.proofs.Consequences.{walks_have_tokens, ratio_is_shown, lags_are_shown}
use Rattle.lid_cert.proofs.laws.ratio_is_shown.Goals as goal

pub returns : goal.returns
returns c = record { walks = walks_have_tokens; ratio = ratio_is_shown; lags = lags_are_shown }
