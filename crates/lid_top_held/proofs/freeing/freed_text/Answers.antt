use Rattle.std.proofs.Common.{refl}
use Rattle.lid_stations.specs.Placements.{links_of}
use Rattle.lid_top_script.specs.Outputs.{freed}
use Rattle.lid_top_script.specs.Scripts.{freeing_script}
use Rattle.lid_top_held.proofs.freeing.freed_text.Goals as goal

pub returns-in-Ok : goal.returns-in-Ok
unfolding freeing_script
returns-in-Ok g c = record {
  ok = λ held. record {
    output = freed c.args.fed.now.wrapped.now.design (links_of c.args.fed.now.wrapped.now.system) c.args.fed.now.wrapped.now.placement c.args.fed.now.rows.now.rows c.args.workers c.args.rounds c.args.tally;
    ends = refl;
    text_of = c.in-Ok.ensures;
  };
  err = tt;
}
