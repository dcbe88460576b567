-- Each token is offered once, to a station of its own.
use Rattle.std.proofs.Common.{refl, arith}
use Rattle.lid_clock_flat.proofs.Offers.{offered_next}
use Rattle.lid_clock_flat.proofs.reads.offer_all.Goals as goal

pub loop-i-preserved : goal.loop-i-preserved
loop-i-preserved c =
    let q = c.requires in
    offered_next c.args.reads.now c.args.tokens.now c.loop-i.i _ c.args.stations.now c.loop-i.stations c.offer.new.self (omega arith) q.there q.once q.room q.apart c.loop-i.invariant refl c.offer.ensures.all c.offer.ensures.places
