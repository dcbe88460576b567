use Rattle.std.proofs.Common.{List, subst}
use Rattle.lid_base.proofs.Results.{if_ok}
use Rattle.lid_size.specs.declared.sizing.SizeEnd.{SizeEnd}
use Rattle.lid_size.specs.Sizes.{Sizes}
use Rattle.lid_size.proofs.Fitting.{fits_if_reached}
use Rattle.lid_stations.specs.Placements.{links_of}
use Rattle.lid_size.proofs.sizing.size.Goals as goal

pub returns-clause-fits : goal.returns-clause-fits
returns-clause-fits c = if_ok c.size_from.result (λ (end : SizeEnd) is. fits_if_reached c.args.system.now c.args.placement.now c.requires.fits end (subst (λ (relays : List _). Sizes (links_of c.args.system.now) relays end) c.in_ok-widest.ensures.relays is)) c.size_from.ensures
