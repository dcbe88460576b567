use Rattle.std.proofs.Common.{◌++◌, ℕ, List, ap, ◌∙◌, arith}
use Rattle.lid_emit.specs.Prefixes.{count_with}
use Rattle.lid_emit.proofs.Counting.{fewer_a, fewer_b}
use Rattle.lid_emit.proofs.prefix.longer.Goals as goal

pub returns-then-count : goal.returns-then-count
returns-then-count c =
    let names = c.args.inputs.now ++ c.args.outputs.now in
    let a = c.count.ensures ∙ ap (λ (p : List ℕ). count_with p names) c.as_slice.ensures.value in
    let b = c.count-2.ensures ∙ ap (λ (p : List ℕ). count_with p names) c.as_slice-2.ensures.value in
    let test = c.if-count.true in
    fewer_a c.args.prefix.now c.in_ok-a.a.items c.in_ok-b.b.items names c.in_ok-a.ensures c.in_ok-b.ensures (omega arith)

pub returns-else-count : goal.returns-else-count
returns-else-count c =
    let names = c.args.inputs.now ++ c.args.outputs.now in
    let a = c.count.ensures ∙ ap (λ (p : List ℕ). count_with p names) c.as_slice.ensures.value in
    let b = c.count-2.ensures ∙ ap (λ (p : List ℕ). count_with p names) c.as_slice-2.ensures.value in
    let test = c.if-count.false in
    fewer_b c.args.prefix.now c.in_ok-a.a.items c.in_ok-b.b.items names c.in_ok-a.ensures c.in_ok-b.ensures (omega arith)
