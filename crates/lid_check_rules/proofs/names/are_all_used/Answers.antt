use Rattle.std.proofs.Common.{◌≡◌, ℕ, List, ◌<◌, ◌≤◌, true, false, not, length, Some, slice_get, sym, ap, ◌∙◌, arith}
use Rattle.std.specs.List.{list_all}
use Rattle.std.proofs.lemmas.List.{drop_all}
use Rattle.lid_check_rules.specs.Conditions.{is_misused}
use Rattle.lid_check_rules.proofs.Sets.{all_from}
use Rattle.lid_check_rules.proofs.names.are_all_used.Goals as goal

pub returns-then-not-is_used_at : goal.returns-then-not-is_used_at
returns-then-not-is_used_at c h = absurd (let f : false ≡ true = h in cc)

pub loop-i-preserved : goal.loop-i-preserved
loop-i-preserved c =
    let names = c.args.names.now in
    let i = c.loop-i.i in
    let within : i < length names = omega arith in
    let p = λ (name : List ℕ). not (is_misused c.args.ports.now c.args.nets.now.table.now name) in
    let used = λ (name : List ℕ) (here : slice_get names i ≡ Some name). sym (ap not (c.is_used_at.ensures c.if-not-is_used_at.false name here)) in
    sym (all_from p names i true within used) ∙ c.loop-i.invariant

pub returns : goal.returns
returns c h =
    let names = c.args.names.now in
    let i = c.loop-i.i in
    let past : length names ≤ i = omega arith in
    let p = λ (name : List ℕ). not (is_misused c.args.ports.now c.args.nets.now.table.now name) in
    sym c.loop-i.invariant ∙ ap (list_all p) (drop_all i names past)
