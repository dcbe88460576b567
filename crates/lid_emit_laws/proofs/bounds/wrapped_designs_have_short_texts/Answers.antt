use Rattle.lid_emit_laws.proofs.Texts.{short_text}
use Rattle.lid_emit_laws.proofs.bounds.wrapped_designs_have_short_texts.Goals as goal

pub returns : goal.returns
returns c d s p n name root of well fits nets flats skips small short ports few = short_text d s p n name root of well fits nets flats skips short ports small few
