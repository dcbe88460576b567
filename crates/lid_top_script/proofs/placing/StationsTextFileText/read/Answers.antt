use Rattle.std.proofs.Common.{subst, sym}
use Rattle.lid_stations.specs.Placements.{links_of}
use Rattle.lid_top_script.specs.Scripts.{stations_read}
use Rattle.lid_top_script.specs.Causes.{Declines}
use Rattle.lid_top_script.proofs.Placements.{stations_good, stations_declines}
use Rattle.lid_top_script.proofs.placing.StationsTextFileText.read.Goals as goal

pub returns-in-Ok-clause-ok : goal.returns-in-Ok-clause-ok
returns-in-Ok-clause-ok c = stations_good (links_of c.args.self.now.system.now) c.args.bytes.now c.in-Ok.placement c.in-Ok.ensures.ok

pub returns-in-Err-clause-err : goal.returns-in-Err-clause-err
returns-in-Err-clause-err c =
    subst (λ s. Declines (stations_read (links_of c.args.self.now.system.now) c.args.bytes.now) s) (sym c.place_stop.ensures)
    (stations_declines (links_of c.args.self.now.system.now) c.args.bytes.now c.in-Err.fault c.in-Err.ensures.err)
