use Rattle.std.proofs.Common.{◌≡◌, ℕ, ◌<◌, length, subst, arith}
use Rattle.std.specs.Prelude.{IfSome}
use Rattle.lid_walk_machine.specs.Setups.{output_rows}
use Rattle.lid_shell.specs.Parts.{AreColumnsAtSink}
use Rattle.lid_walk.proofs.Numbers.{sink_there}
use Rattle.lid_base.proofs.Places.{item_read}
use Rattle.lid_walk.proofs.walk.Walk.into_rows.Goals as goal

pub unwrap-requires : goal.unwrap-requires
unwrap-requires c =
    let (m, st, walks) = c.requires in
    let place = c.sink-sink.ensures m st walks in
    let within : c.sink-sink.result < length c.args.self.actors.items = omega (arith, place, sink_there m walks.rules, walks.actors.many) in
    (c.into_given.ensures.which m c.sink-sink.result (st c.sink-sink.result) (walks.actors.each c.sink-sink.result c.swap_remove.result (item_read c.args.self.actors.items c.sink-sink.result c.swap_remove.result within c.swap_remove.ensures.value))).1 place

pub returns : goal.returns
returns c m st walks =
    let place = c.sink-sink.ensures m st walks in
    let within : c.sink-sink.result < length c.args.self.actors.items = omega (arith, place, sink_there m walks.rules, walks.actors.many) in
    let is = c.into_given.ensures.rows m c.sink-sink.result (st c.sink-sink.result) (walks.actors.each c.sink-sink.result c.swap_remove.result (item_read c.args.self.actors.items c.sink-sink.result c.swap_remove.result within c.swap_remove.ensures.value)) in
    let rows = subst (λ o. IfSome o (λ rows. AreColumnsAtSink m c.sink-sink.result rows.columns × (rows.bits ≡ output_rows m (st c.sink-sink.result).fired))) c.unwrap.ensures is in
    subst (λ (v : ℕ). AreColumnsAtSink m v c.unwrap.result.columns × (c.unwrap.result.bits ≡ output_rows m (st v).fired)) place rows
