use Rattle.lid_rate.proofs.Cutting.{found_here, listed_is_found}
use Rattle.lid_rate.proofs.pieces.place.Goals as goal

pub returns-in-Some-clause-here : goal.returns-in-Some-clause-here
returns-in-Some-clause-here c = found_here c.args.numbers.now c.args.wanted c.in-Some.place c.in-Some.ensures

pub returns-in-None-clause-here : goal.returns-in-None-clause-here
returns-in-None-clause-here c = absurd (listed_is_found c.args.numbers.now c.args.wanted c.requires.ascending c.requires.listed c.in-None.ensures)
