-- A placement that is answered fits.
use Rattle.std.proofs.Common.{refl}
use Rattle.lid_system.specs.declared.System.{System}
use Rattle.lid_stations.specs.declared.placement.Placement.{Placement}
use Rattle.lid_stations.specs.Placements.{links_of, Fits}
use Rattle.lid_size.specs.declared.sizing.SizeEnd.{SizeEnd}
use Rattle.lid_size.specs.declared.sizing.SizeEnd.TheVariants.{Reached, Short}
use Rattle.lid_size.specs.Sizes.{Sizes, FitsIfReached}
use Rattle.lid_size.proofs.Sized.{fits_trial}

pub fits_if_reached : (s : System) (p : Placement) → Fits s p → (end : SizeEnd) → Sizes (links_of s) p.relays end → FitsIfReached s end
fits_if_reached s p fits (Reached q) is = fits_trial s p q q.caps is.relays_are refl is.caps.are_capacities fits
fits_if_reached s p fits (Short part have_p have_q want_p want_q cert) is = tt
