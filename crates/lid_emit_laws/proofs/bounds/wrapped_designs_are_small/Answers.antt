use Rattle.lid_emit_laws.proofs.Whole.{few_cells}
use Rattle.lid_emit_laws.proofs.bounds.wrapped_designs_are_small.Goals as goal

pub returns : goal.returns
returns c d s p n name of well fits nets flats skips small = few_cells d s p n name of well fits nets flats skips small
