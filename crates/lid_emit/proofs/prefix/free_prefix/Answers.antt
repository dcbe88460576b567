use Rattle.std.proofs.Common.{◌≡◌, ◌<◌, ◌^◌, ◌++◌, ◌∙◌, ◌-◌, ℕ, List, [], length, ap, subst, arith}
use Rattle.std.proofs.lemmas.List.{length-append}
use Rattle.lid_emit.specs.Prefixes.{IsLonger, count_with}
use Rattle.lid_emit.proofs.Counting.{room_more, room_first, free_so}
use Rattle.lid_emit.proofs.prefix.free_prefix.Goals as goal

pub loop-init : goal.loop-init
loop-init c =
    let names = c.args.inputs.now ++ c.args.outputs.now in
    let few : length names < 32768 = (let l = length-append c.args.inputs.now c.args.outputs.now in let h = c.requires in omega arith) in
    record { some = omega arith; most = omega arith; room = room_more [] c.in_ok-prefix.prefix.items 0 names (omega arith) (room_first names few) c.in_ok-prefix.ensures }

pub returns-then-count-eq0-clause-free : goal.returns-then-count-eq0-clause-free
returns-then-count-eq0-clause-free c =
    let names = c.args.inputs.now ++ c.args.outputs.now in
    let counted = c.count.ensures ∙ ap (λ (p : List ℕ). count_with p names) c.as_slice.ensures.value in
    let none = c.if-count-eq0.true in
    free_so c.loop.prefix.items names (omega arith)

pub loop-preserved : goal.loop-preserved
loop-preserved c =
    let names = c.args.inputs.now ++ c.args.outputs.now in
    let step : IsLonger c.loop.prefix.items c.in_ok-prefix-2.prefix.items names = subst (λ (p : List ℕ). IsLonger p c.in_ok-prefix-2.prefix.items names) c.as_slice-in-loop.ensures.value c.in_ok-prefix-2.ensures in
    let less : c.loop.counter < 15 = (let t = c.loop-test.true in omega arith) in
    record { some = omega arith; most = omega arith; room = room_more c.loop.prefix.items c.in_ok-prefix-2.prefix.items c.loop.counter names less c.loop.invariant.room step }

pub returns-clause-free : goal.returns-clause-free
returns-clause-free c =
    let names = c.args.inputs.now ++ c.args.outputs.now in
    let few = c.loop.invariant.room.few in
    let at : 15 - c.loop.counter ≡ 0 = (let t = c.loop-test.false in omega arith) in
    let power : 2 ^ (15 - c.loop.counter) ≡ 1 = ap (λ (n : ℕ). 2 ^ n) at in
    free_so c.loop.prefix.items names (omega arith)
