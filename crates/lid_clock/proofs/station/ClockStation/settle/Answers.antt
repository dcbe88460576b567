-- A station that has gained its filler's token loses its oldest one where its drainer fired.
use Rattle.lid_clock.proofs.Settled.{ends_there, drainer_decided, token_of_drainer, grows, settles, settles_as_is, some_filler}
use Rattle.lid_clock.proofs.station.ClockStation.settle.Goals as goal

pub bounds-actors-self : goal.bounds-actors-self
bounds-actors-self c =
    let q = c.requires in
    (ends_there c.runs_go_by_rules.ensures q.life q.k q.g q.station _ _ c.gain.new.self c.args.actors.now q.rules q.there (c.gain.ensures q.life q.k q.g q.station q.rules q.there q.is q.decided) q.decided).1

pub release-requires : goal.release-requires
release-requires c =
    let q = c.requires in
    let r = c.runs_go_by_rules.ensures in
    let half = c.gain.ensures q.life q.k q.g q.station q.rules q.there q.is q.decided in
    let a = c.index-actors-self.result in
    let fills = some_filler r q.life q.k q.g q.station _ _ c.args.self.now c.args.actors.now q.rules q.there q.is q.decided in
    token_of_drainer r q.life q.k q.g q.station c.gain.new.self a q.rules q.there half
    (grows q.life q.k q.g q.station _ _ c.args.self.now fills.0 q.is fills.1)
    (drainer_decided r q.life q.k q.g q.station _ _ c.gain.new.self c.args.actors.now q.rules q.there half q.decided a c.index-actors-self.is)
    c.if-drainer.true

pub returns-then-drainer : goal.returns-then-drainer
returns-then-drainer c = λ l k g station life inside is decided.
    let half = c.gain.ensures l k g station life inside is decided in
    let a = c.index-actors-self.result in
    let e = c.release.ensures in
    settles l k g station c.gain.new.self c.release.new.self a half
    (drainer_decided c.runs_go_by_rules.ensures l k g station _ _ c.gain.new.self c.args.actors.now life inside half decided a c.index-actors-self.is)
    c.if-drainer.true
    (record { filler = e.ends.0; slot = e.ends.1; drainer = e.ends.2 }) e.put e.taken e.places

pub returns-else-drainer : goal.returns-else-drainer
returns-else-drainer c = λ l k g station life inside is decided.
    let half = c.gain.ensures l k g station life inside is decided in
    let a = c.index-actors-self.result in
    settles_as_is l k g station c.gain.new.self a half
    (drainer_decided c.runs_go_by_rules.ensures l k g station _ _ c.gain.new.self c.args.actors.now life inside half decided a c.index-actors-self.is)
    c.if-drainer.false
