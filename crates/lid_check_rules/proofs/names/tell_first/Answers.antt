use Rattle.std.proofs.Common.{◌≡◌, ◌+◌, ◌<◌, ◌≤◌, Bool, cond, length, find, drop, option_map, Some, sym, ap, ◌∙◌, arith}
use Rattle.std.proofs.lemmas.List.{drop_all}
use Rattle.lid_base.proofs.Places.{item_at}
use Rattle.lid_check_table.specs.Tables.{names_in}
use Rattle.lid_check_rules.specs.Names.{is_faulty, told_name}
use Rattle.lid_check_rules.proofs.Sets.{find_from}
use Rattle.lid_check_rules.proofs.Telling.{rule_by_first, rule_unbroken}
use Rattle.lid_check_rules.proofs.names.tell_first.Goals as goal

pub returns-then-is_unbroken : goal.returns-then-is_unbroken
returns-then-is_unbroken c =
    sym (rule_unbroken c.args.rule c.args.ports.now c.args.nets.now.table.now (c.is_unbroken.ensures c.if-is_unbroken.true))

pub returns-then-is_faulty : goal.returns-then-is_faulty
returns-then-is_faulty c =
    let m = c.args.nets.now.table.now in
    let names = names_in m in
    let p = is_faulty c.args.rule c.args.ports.now m in
    let i = c.loop-number.number in
    let below : i < length names = omega (arith, c.len-number-end.ensures) in
    let name = item_at names i below in
    let holds = sym (c.is_faulty.ensures name.0 name.1) ∙ c.if-is_faulty.true in
    let found : find p names ≡ Some name.0 =
    sym c.loop-number.invariant ∙ find_from p names i name.0 below name.1 ∙ ap (λ (b : Bool). cond b (Some name.0) (find p (drop (i + 1) names))) holds in
    c.tell_at.ensures name.0 name.1 ∙ sym (rule_by_first c.args.rule c.args.ports.now m ∙ ap (option_map (told_name c.args.rule m.name)) found)

pub loop-number-preserved : goal.loop-number-preserved
loop-number-preserved c =
    let m = c.args.nets.now.table.now in
    let names = names_in m in
    let p = is_faulty c.args.rule c.args.ports.now m in
    let i = c.loop-number.number in
    let below : i < length names = omega (arith, c.len-number-end.ensures) in
    let name = item_at names i below in
    let fails = sym (c.is_faulty.ensures name.0 name.1) ∙ c.if-is_faulty.false in
    sym (find_from p names i name.0 below name.1 ∙ ap (λ (b : Bool). cond b (Some name.0) (find p (drop (i + 1) names))) fails) ∙ c.loop-number.invariant

pub returns : goal.returns
returns c =
    let m = c.args.nets.now.table.now in
    let names = names_in m in
    let p = is_faulty c.args.rule c.args.ports.now m in
    let i = c.loop-number.number in
    let past : length names ≤ i = omega (arith, c.len-number-end.ensures) in
    let none = sym c.loop-number.invariant ∙ ap (find p) (drop_all i names past) in
    sym (rule_by_first c.args.rule c.args.ports.now m ∙ ap (option_map (told_name c.args.rule m.name)) none)
