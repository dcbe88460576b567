use Rattle.std.proofs.Common.{subst, sym}
use Rattle.lid_stations.specs.Placements.{links_of}
use Rattle.lid_top_script.specs.Scripts.{wires_read}
use Rattle.lid_top_script.specs.Causes.{Declines}
use Rattle.lid_top_script.proofs.Placements.{wires_good, wires_declines}
use Rattle.lid_top_script.proofs.placing.WiresTextFileText.read.Goals as goal

pub returns-in-Ok-clause-ok : goal.returns-in-Ok-clause-ok
returns-in-Ok-clause-ok c = wires_good c.args.self.now.reach (links_of c.args.self.now.system.now) c.args.bytes.now c.in-Ok.placement c.in-Ok.ensures.ok

pub returns-in-Err-clause-err : goal.returns-in-Err-clause-err
returns-in-Err-clause-err c =
    subst (λ s. Declines (wires_read c.args.self.now.reach (links_of c.args.self.now.system.now) c.args.bytes.now) s) (sym c.place_stop.ensures)
    (wires_declines c.args.self.now.reach (links_of c.args.self.now.system.now) c.args.bytes.now c.in-Err.fault c.in-Err.ensures.err)
