use Rattle.lid_stations.specs.Placements.{links_of}
use Rattle.lid_top_held.proofs.Waved.{has_dump, declined}
use Rattle.lid_top_held.proofs.waving.waved_text.Goals as goal

pub returns-in-Ok-dump_text : goal.returns-in-Ok-dump_text
returns-in-Ok-dump_text c = record {
  ok = λ held. has_dump c.args.fed.now.wrapped.now.design (links_of c.args.fed.now.wrapped.now.system) c.args.fed.now.wrapped.now.placement c.args.cycles c.args.fed.now.rows.now.rows held c.in-Ok-dump_text.text.items c.in-Ok.ensures.ok c.in-Ok-dump_text.ensures;
  err = tt;
}

pub returns-in-Err : goal.returns-in-Err
returns-in-Err c = record {
  ok = tt;
  err = λ held before after. declined c.args.fed.now.wrapped.now.design (links_of c.args.fed.now.wrapped.now.system) c.args.fed.now.wrapped.now.placement c.args.cycles c.args.fed.now.rows.now.rows held c.in-Err.stop before after c.in-Err.ensures.err;
}
