use Rattle.std.proofs.Common.{◌≡◌, ℕ, ◌<◌, length, ◌∙◌, ap, subst, arith}
use Rattle.std.specs.Prelude.{IfSome}
use Rattle.lid_walk_machine.specs.Setups.{output_rows}
use Rattle.lid_walk.proofs.Numbers.{sink_there}
use Rattle.lid_base.proofs.Places.{item_read}
use Rattle.lid_walk.proofs.walk.Walk.rows.Goals as goal

pub unwrap-requires : goal.unwrap-requires
unwrap-requires c =
    let (m, st, walks) = c.requires in
    let place = c.sink.ensures m st walks in
    let within : c.sink.result < length c.args.self.now.actors.items = omega (arith, place, sink_there m walks.rules, walks.actors.many) in
    (c.given.ensures.which m c.sink.result (st c.sink.result) (walks.actors.each c.sink.result c.index.result.now (item_read c.args.self.now.actors.items c.sink.result c.index.result.now within c.index.ensures))).1 place

pub returns : goal.returns
returns c m st walks =
    let place = c.sink.ensures m st walks in
    let within : c.sink.result < length c.args.self.now.actors.items = omega (arith, place, sink_there m walks.rules, walks.actors.many) in
    let is = c.given.ensures.rows m c.sink.result (st c.sink.result) (walks.actors.each c.sink.result c.index.result.now (item_read c.args.self.now.actors.items c.sink.result c.index.result.now within c.index.ensures)) in
    subst (λ o. IfSome o (λ rows. rows.now ≡ output_rows m (st c.sink.result).fired)) c.unwrap.ensures is ∙ ap (λ (v : ℕ). output_rows m (st v).fired) place
