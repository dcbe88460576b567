use Rattle.std.proofs.Common.{◌≡◌, ◌<◌, length, refl, ◌∙◌, ap, arith}
use Rattle.std.proofs.lemmas.Bool.Decides.{nat_tests}
use Rattle.std.proofs.lemmas.Option.{get_or_from_slice_get}
use Rattle.lid_station.specs.declared.pair.Pair.{Pair}
use Rattle.lid_station.specs.Boards.{marked}
use Rattle.lid_station.specs.Plain.{PlainAdmits}
use Rattle.lid_station.proofs.Boards.{changed_here}
use Rattle.lid_station.proofs.PlainStations.{serves_fill, admits_looked}
use Rattle.lid_station_tests.proofs.stations.offer.Goals as goal

pub look_out-look-requires : goal.look_out-look-requires
look_out-look-requires c =
    let there : 0 < length c.args.board.now.pairs.items = grind (arith, nat_tests) in
    serves_fill c.args.board.now.pairs.items 0 there

pub put-requires-clause-room : goal.put-requires-clause-room
put-requires-clause-room c =
    let there : 0 < length c.args.board.now.pairs.items = grind (arith, nat_tests) in
    let served = serves_fill c.args.board.now.pairs.items 0 there in
    (marked served.0, changed_here _ _ 0 marked served.0 c.in-Room.ensures.changed served.1, refl)

pub put-requires-clause-admitted : goal.put-requires-clause-admitted
put-requires-clause-admitted c =
    let few : c.index.result.now.put < 1000 = c.if-index-ge1000.false in
    let before : PlainAdmits c.args.board.now.pairs.items 0 c.args.token = record {
      small = c.if-token.false;
      counted = λ p at.
          let is : c.index.result.now ≡ p = c.index.ensures ∙ get_or_from_slice_get c.args.board.now.pairs.items 0 p c.index.result.now at in
          let put : c.index.result.now.put ≡ p.put = ap (λ (q : Pair). q.put) is in
          omega arith;
    } in
    admits_looked c.args.board.now.pairs.items c.look_out-look.new.self.pairs.items 0 c.args.token c.look_out-look.result before c.look_out-look.ensures.changed
