-- The lists of the actors that fill and drain the station grow by it.
use Rattle.lid_clock.proofs.Joined.{joins, slot_is}
use Rattle.lid_clock.proofs.joining.join.Goals as goal

pub returns-clause-joins : goal.returns-clause-joins
returns-clause-joins c =
    joins c.args.actors.now c.args.station c.args.filler c.args.drainer c.index-actors-filler.result c.index-actors-drainer.result c.fills.new.self c.drains.new.self c.requires.filled c.requires.drained
    c.in_ok-slot.ensures.outs c.in_ok-slot.ensures.rest c.in_ok-drains.ensures.ins c.in_ok-drains.ensures.rest

pub returns-clause-slot : goal.returns-clause-slot
returns-clause-slot c = slot_is c.args.actors.now c.args.filler c.in_ok-slot.slot c.index-actors-filler.result c.requires.filled c.in_ok-slot.ensures.slot
