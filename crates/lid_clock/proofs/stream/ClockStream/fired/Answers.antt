-- An actor counts how often it has fired.
use Rattle.std.proofs.Common.{arith}
use Rattle.lid_clock.proofs.Told.{fired_is, actor_there}
use Rattle.lid_base.proofs.Places.{item_read}
use Rattle.lid_clock.proofs.stream.ClockStream.fired.Goals as goal

pub index-requires : goal.index-requires
index-requires c =
    let within = actor_there c.requires.0 c.requires.1 c.requires.2 c.args.self.now c.args.actor c.requires.3 c.requires.4 in
    let many = c.args.self.now.actors.ok.0 in
    omega arith

pub returns : goal.returns
returns c = λ l k g ran.
    let within = actor_there c.requires.0 c.requires.1 c.requires.2 c.args.self.now c.args.actor c.requires.3 c.requires.4 in
    fired_is l k g c.args.actor c.args.self.now c.index.result.now ran (item_read c.args.self.now.actors.items c.args.actor c.index.result.now within c.index.ensures)
