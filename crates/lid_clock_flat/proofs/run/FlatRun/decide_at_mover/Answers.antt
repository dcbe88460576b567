-- A mover decides beside the stations as those before it have left them, and stays awake where it fired.
use Rattle.std.proofs.Common.{◌≡◌, ℕ, ◌+◌, length, set, refl, ap, arith}
use Rattle.lid_base.proofs.Places.{item_read}
use Rattle.lid_clock_flat.proofs.Waking.{mover_ready, mover_next}
use Rattle.lid_clock_flat.proofs.run.FlatRun.decide_at_mover.Goals as goal

pub returns-clause-is : goal.returns-clause-is
returns-clause-is c = λ l k g holds to.
    let q = c.requires in
    let x = c.args.self.now in
    let n : ℕ = length x.nodes.items + c.args.mover in
    let went = c.decide-went.result in
    let many = x.nodes.ok.0 in
    let number : c.len.result + c.args.mover ≡ n = omega (arith, c.len.ensures) in
    let at = item_read x.movers.items c.args.mover c.index_mut.result.now q.5 c.index_mut.ensures.value in
    let begins = mover_ready l k g n c.args.mover went x to refl c.args.source c.args.sink c.index_mut.result.now at holds in
    mover_next l k g n c.args.mover went x to refl _ c.decide-went.new.self c.decide-went.new.stations q.5 (c.decide-went.ensures l k n begins) refl refl refl
    (ap (λ (v : ℕ). set x.went.items v went) number) (ap (λ (v : ℕ). set x.awake.items v went) number)
