use Rattle.lid_top_script.specs.Scripts.{wrapping_script, emit_script}
use Rattle.lid_top_script.proofs.Fetched.{made_wrapped, by_anywhere, stopped_unwrapped}
use Rattle.lid_top_emit.proofs.Endings.{wrapping_fetches_nothing}
use Rattle.lid_top_emit.proofs.Spelled.{wrapped_spelled}
use Rattle.lid_top_emit.proofs.emitting.emit_text.Goals as goal

pub wrapped_text-requires : goal.wrapped_text-requires
wrapped_text-requires g c = wrapped_spelled c.in-Ok.ensures.ok

pub returns-in-Ok : goal.returns-in-Ok
unfolding emit_script
returns-in-Ok g c = by_anywhere (made_wrapped wrapping_script _ c.in-Ok.ensures.ok c.in-Ok.ensures.fetched c.in-Ok.ensures.kept) (wrapping_fetches_nothing _ _ _) c.wrapped_text.ensures

pub returns-in-Err : goal.returns-in-Err
unfolding emit_script
returns-in-Err g c = stopped_unwrapped wrapping_script c.in-Err.ensures.err c.in-Err.ensures.fetched c.in-Err.ensures.kept c.in-Err.ensures.grows
