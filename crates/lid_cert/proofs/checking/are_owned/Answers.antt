use Rattle.lid_cert.proofs.Owning.{owner_within}
use Rattle.lid_cert.proofs.checking.are_owned.Goals as goal

pub are_edges_owned-requires-clause-within : goal.are_edges_owned-requires-clause-within
are_edges_owned-requires-clause-within c = owner_within c.args.graph.now c.args.parts.now c.args.owners.now c.requires.owners
