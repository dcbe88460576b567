use Rattle.std.proofs.Common.{arith}
use Rattle.std.proofs.lemmas.Option.{slice_get_within}
use Rattle.lid_station.specs.declared.pair.Pair.{Pair}
use Rattle.lid_free_crew.proofs.Lists.{mapped}
use Rattle.lid_free.proofs.gathering.note_passed.Goals as goal

pub returns : goal.returns
returns c =
    mapped (λ (p : Pair). p.taken) c.args.pairs.now c.loop-station.passed c.loop-station.invariant.many
    (λ s p at_p.
    let within = slice_get_within c.args.pairs.now s p at_p in
    let past = c.loop-station-test.false in
    c.loop-station.invariant.each s p (omega arith) at_p)
