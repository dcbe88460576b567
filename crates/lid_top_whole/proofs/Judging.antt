-- What follows once a certificate is read fetches nothing.
use Rattle.std.proofs.Common.{Bool, true, false}
use Rattle.lid_cert.specs.declared.cert.Cert.{Cert}
use Rattle.lid_stations.specs.declared.placement.Placement.{Placement}
use Rattle.lid_stations.specs.Placements.{Links}
use Rattle.lid_top_script.specs.Scripts.{judged_script, judging_script}
use Rattle.lid_top_script.specs.FetchSteps.{FetchesNothing}

judged_fetches_nothing : (l : Links) (cert : Cert) (holds : Bool) → FetchesNothing (judged_script l cert holds)
judged_fetches_nothing l cert true = tt
judged_fetches_nothing l cert false = tt

pub judging_fetches_nothing : (l : Links) (p : Placement) (cert : Cert) → FetchesNothing (judging_script l p cert)
unfolding judging_script
judging_fetches_nothing l p cert = judged_fetches_nothing l cert
