use Rattle.lid_size.proofs.Reaching.{stations_of}
use Rattle.lid_size.proofs.sizing.guess_from.Goals as goal

pub forward_ratios-requires : goal.forward_ratios-requires
forward_ratios-requires c = stations_of _ _ c.args.graph.now c.len.result c.widest.view_is c.widest.invariant c.requires.graph c.len.ensures

pub find-requires : goal.find-requires
find-requires c = (stations_of _ _ c.args.graph.now c.len.result c.widest.view_is c.widest.invariant c.requires.graph c.len.ensures).rateable
