use Rattle.std.proofs.Common.{Bool, List, ◌<◌, ◌≤◌, ◌∷◌, [], cond, map, length, ap, subst, sym, ◌∙◌, arith}
use Rattle.std.proofs.lemmas.List.{take_all}
use Rattle.lid_base.proofs.Places.{item_read, get_map}
use Rattle.lid_design.specs.declared.Bind.{Bind}
use Rattle.lid_design.specs.Models.{actual_of}
use Rattle.lid_check_table.specs.Tables.{Appends}
use Rattle.lid_check_table.proofs.Appending.{none_appended, more_appended, picked_grows}
use Rattle.lid_check_ports.specs.Nets.{is_on, actuals_on}
use Rattle.lid_check_ports.proofs.nets.append_actuals.Goals as goal

pub loop-i-init : goal.loop-i-init
loop-i-init c names are = none_appended names c.args.list.now.items

pub loop-i-preserved : goal.loop-i-preserved
loop-i-preserved c names are =
    let xs = c.args.binds.now in
    let i = c.loop-i.i in
    let below : i < length xs = omega arith in
    let p = λ (b : Bind). is_on c.args.side c.args.ports.now c.args.sub b.formal in
    let x = c.index-binds-i.result in
    let b = c.loop-i.list.items in
    let d = c.append_at.new.list.items in
    let here = get_map actual_of xs i x (item_read xs i x below c.index-binds-i.is) in
    let test = λ (y : Bind). is_on c.args.side c.args.ports.now c.args.sub y.formal in
    let wanted = c.is_on-wanted.ensures ∙ ap (is_on c.args.side c.args.ports.now c.args.sub) c.as_slice.ensures ∙ ap test (sym c.index-binds-i.is) in
    let step = subst (λ (w : Bool). Appends names b d (cond w (x.actual ∷ []) [])) wanted (c.in_ok-append_at.ensures names (map actual_of xs) x.actual are here) in
    more_appended (actuals_on c.args.side c.args.ports.now c.args.sub) (λ y. cond (p y) (y.actual ∷ []) []) (picked_grows p actual_of) names c.args.list.now.items b d xs i x c.index-binds-i.is below (c.loop-i.invariant names are) step

pub returns : goal.returns
returns c names are =
    let xs = c.args.binds.now in
    let past : length xs ≤ c.loop-i.i = omega arith in
    subst (λ (bs : List Bind). Appends names c.args.list.now.items c.loop-i.list.items (actuals_on c.args.side c.args.ports.now c.args.sub bs)) (take_all c.loop-i.i xs past) (c.loop-i.invariant names are)
