use Rattle.std.proofs.Common.{slice_get, List, length, length-append, refl, sym, ◌∙◌, ap, arith}
use Rattle.lid_station.specs.declared.pair.Pair.{Pair}
use Rattle.lid_station.proofs.Starts.{each_more, starts_stand}
use Rattle.lid_station.proofs.plain.PlainBoard.start.Goals as goal

pub loop-station-preserved : goal.loop-station-preserved
loop-station-preserved c =
    let items = c.in_ok-push.ensures.items in
    let many = c.loop-station.invariant.many in
    record {
      many = ap (λ (xs : List Pair). length xs) items ∙ simp (length-append, many) refl;
      each = λ i p at.
          each_more c.args.firsts.now c.args.caps.now c.loop-station.pairs.items c.in_ok-start_pair.field-0 c.loop-station.station
          many c.loop-station.invariant.each c.in_ok-start_pair.ensures i p (ap (λ (xs : List Pair). slice_get xs i) (sym items) ∙ at);
    }

pub returns-clause-stands : goal.returns-clause-stands
returns-clause-stands c streams begin =
    starts_stand c.args.firsts.now c.args.caps.now c.loop-station.pairs.items streams record { many = omega arith; each = c.loop-station.invariant.each } begin
