-- A station gains the token that stands in its slot of its filler's tokens, where that fired.
use Rattle.std.proofs.Common.{sym, arith}
use Rattle.std.proofs.lemmas.Option.{get_or_from_slice_get}
use Rattle.lid_clock.proofs.Settled.{ends_there, filler_decided, slot_there, room_of, few_put, gains, gains_none}
use Rattle.lid_base.proofs.Places.{item_read}
use Rattle.lid_clock.proofs.station.ClockStation.gain.Goals as goal

pub bounds-actors-self : goal.bounds-actors-self
bounds-actors-self c =
    let q = c.requires in
    (ends_there c.runs_go_by_rules.ensures q.life q.k q.g q.station _ _ c.args.self.now c.args.actors.now q.rules q.there q.is q.decided).0

pub index-requires : goal.index-requires
index-requires c =
    let q = c.requires in
    let a = c.index-actors-self.result in
    let own = filler_decided c.runs_go_by_rules.ensures q.life q.k q.g q.station _ _ c.args.self.now c.args.actors.now q.rules q.there q.is q.decided a c.index-actors-self.is in
    let within = slot_there q.life q.k q.g q.station _ _ c.args.self.now a q.is own in
    let many = a.tokens.ok.0 in
    omega arith

pub accept-requires-clause-room : goal.accept-requires-clause-room
accept-requires-clause-room c =
    let q = c.requires in
    let r = c.runs_go_by_rules.ensures in
    let a = c.index-actors-self.result in
    let own = filler_decided r q.life q.k q.g q.station _ _ c.args.self.now c.args.actors.now q.rules q.there q.is q.decided a c.index-actors-self.is in
    room_of r q.life q.k q.g q.station c.args.self.now a q.rules q.there q.is own c.if-filler.true

pub accept-requires-clause-few : goal.accept-requires-clause-few
accept-requires-clause-few c =
    let q = c.requires in
    few_put c.runs_go_by_rules.ensures q.life q.k q.station _ c.args.self.now q.rules q.there q.is

pub returns-then-filler : goal.returns-then-filler
returns-then-filler c = λ l k g station life inside is decided.
    let r = c.runs_go_by_rules.ensures in
    let x = c.args.self.now in
    let a = c.index-actors-self.result in
    let own = filler_decided r l k g station _ _ x c.args.actors.now life inside is decided a c.index-actors-self.is in
    let within = slot_there l k g station _ _ x a is own in
    let read = sym (get_or_from_slice_get a.tokens.items x.slot c.index.result.now 0 (item_read a.tokens.items x.slot c.index.result.now within c.index.ensures)) in
    let e = c.accept.ensures in
    gains r l k g station c.index.result.now x c.accept.new.self a life inside is own c.if-filler.true read
    (record { filler = e.ends.0; slot = e.ends.1; drainer = e.ends.2 }) e.put e.taken e.places

pub returns-else-filler : goal.returns-else-filler
returns-else-filler c = λ l k g station life inside is decided.
    let a = c.index-actors-self.result in
    gains_none l k g station c.args.self.now a is (filler_decided c.runs_go_by_rules.ensures l k g station _ _ c.args.self.now c.args.actors.now life inside is decided a c.index-actors-self.is) c.if-filler.false
