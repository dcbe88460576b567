use Rattle.lid_top_script.specs.Scripts.{cert_script, verify_script}
use Rattle.lid_top_script.proofs.Fetched.{made_wrapped, by_within, stopped_unwrapped}
use Rattle.lid_top_whole.proofs.verify.verify_text.Goals as goal

pub returns-in-Ok : goal.returns-in-Ok
unfolding verify_script
returns-in-Ok g c = by_within (made_wrapped (λ d l p. cert_script l p c.args.cert.now) _ c.in-Ok.ensures.ok c.in-Ok.ensures.fetched c.in-Ok.ensures.kept) c.cert_text.ensures

pub returns-in-Err : goal.returns-in-Err
unfolding verify_script
returns-in-Err g c = stopped_unwrapped (λ d l p. cert_script l p c.args.cert.now) c.in-Err.ensures.err c.in-Err.ensures.fetched c.in-Err.ensures.kept c.in-Err.ensures.grows
