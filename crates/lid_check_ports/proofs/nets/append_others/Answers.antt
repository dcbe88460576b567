use Rattle.std.proofs.Common.{ℕ, Bool, List, ◌<◌, ◌≤◌, ◌∷◌, [], cond, not, filter, length, ap, subst, ◌∙◌, arith}
use Rattle.std.proofs.lemmas.List.{take_all}
use Rattle.lid_base.proofs.Places.{item_read}
use Rattle.lid_check_table.specs.Tables.{Appends}
use Rattle.lid_check_table.proofs.Appending.{none_appended, more_appended, filter_grows}
use Rattle.lid_check_ports.specs.declared.ports.Port.TheVariants.{Input}
use Rattle.lid_check_ports.specs.Ports.{is_in}
use Rattle.lid_check_ports.proofs.nets.append_others.Goals as goal

pub loop-i-init : goal.loop-i-init
loop-i-init c all are = none_appended all c.args.list.now.items

pub loop-i-preserved : goal.loop-i-preserved
loop-i-preserved c all are =
    let xs = c.args.names.now in
    let i = c.loop-i.i in
    let below : i < length xs = omega arith in
    let p = λ (net : List ℕ). not (is_in c.args.ports.now Input c.args.k net) in
    let x = c.index-names-i.result in
    let b = c.loop-i.list.items in
    let d = c.append_at.new.list.items in
    let here = item_read xs i x below c.index-names-i.is in
    let wanted = ap not (c.has-wanted.ensures ∙ ap (is_in c.args.ports.now Input c.args.k) c.as_slice.ensures) in
    let step = subst (λ (w : Bool). Appends all b d (cond w (x ∷ []) [])) wanted (c.in_ok-append_at.ensures all xs x are here) in
    more_appended (filter p) (λ y. cond (p y) (y ∷ []) []) (filter_grows p) all c.args.list.now.items b d xs i x c.index-names-i.is below (c.loop-i.invariant all are) step

pub returns : goal.returns
returns c all are =
    let xs = c.args.names.now in
    let past : length xs ≤ c.loop-i.i = omega arith in
    let p = λ (net : List ℕ). not (is_in c.args.ports.now Input c.args.k net) in
    subst (λ (ns : List (List ℕ)). Appends all c.args.list.now.items c.loop-i.list.items (filter p ns)) (take_all c.loop-i.i xs past) (c.loop-i.invariant all are)
