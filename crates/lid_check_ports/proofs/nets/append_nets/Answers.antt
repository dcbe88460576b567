use Rattle.std.proofs.Common.{◌≡◌, ℕ, List, ◌+◌, ◌<◌, ◌≤◌, flat_map, length, slice_get, take, drop, get_or, ap, subst, sym, ◌∙◌, arith}
use Rattle.std.proofs.lemmas.List.{length-map, take_all}
use Rattle.lid_base.proofs.Places.{item_read}
use Rattle.lid_design.specs.declared.Model.{Model}
use Rattle.lid_design.specs.declared.Inst.{Inst}
use Rattle.lid_design.specs.Models.{actual_names, actual_of}
use Rattle.lid_check_table.specs.Tables.{names_in, AreNumbersOf, Appends}
use Rattle.lid_check_table.proofs.Growing.{flat_grows}
use Rattle.lid_check_table.proofs.Appending.{none_appended, more_appended, flat_cut}
use Rattle.lid_check_ports.specs.Nets.{nets_on}
use Rattle.lid_check_ports.proofs.nets.append_nets.Goals as goal

pub loop-i-init : goal.loop-i-init
loop-i-init c = record {
  appended = none_appended (names_in c.args.table.now) c.args.list.now.items;
  left = c.actuals-left.ensures;
}

pub split_at-requires : goal.split_at-requires
split_at-requires c =
    let m = c.args.table.now in
    let xs = m.insts in
    let i = c.loop-i.i in
    let insts : c.as_slice-insts.result.now ≡ xs = c.as_slice-insts.ensures ∙ ap (λ (m : Model). m.insts) c.model.ensures in
    let below : i < length xs = omega (arith, ap (λ (is : List Inst). length is) insts) in
    let x = c.index-insts-i.result in
    let is = c.index-insts-i.is ∙ ap (λ (is : List Inst). get_or is i x) insts in
    let cut = flat_cut actual_names (names_in m) xs i x c.loop-i.left.now is below c.loop-i.invariant.left in
    omega (arith, cut.long, length-map x.binds actual_of, c.len.ensures)

pub append_inst-requires-clause-inst : goal.append_inst-requires-clause-inst
append_inst-requires-clause-inst c =
    let m = c.args.table.now in
    let i = c.loop-i.i in
    let insts : c.as_slice-insts.result.now ≡ m.insts = c.as_slice-insts.ensures ∙ ap (λ (m : Model). m.insts) c.model.ensures in
    let below : i < length m.insts = omega (arith, ap (λ (is : List Inst). length is) insts) in
    let x = c.index-insts-i.result in
    let is = c.index-insts-i.is ∙ ap (λ (is : List Inst). get_or is i x) insts in
    ap (λ (is : List Inst). slice_get is i) c.requires.insts ∙ item_read m.insts i x below is

pub loop-i-preserved : goal.loop-i-preserved
loop-i-preserved c =
    let m = c.args.table.now in
    let names = names_in m in
    let xs = m.insts in
    let i = c.loop-i.i in
    let insts : c.as_slice-insts.result.now ≡ xs = c.as_slice-insts.ensures ∙ ap (λ (m : Model). m.insts) c.model.ensures in
    let below : i < length xs = omega (arith, ap (λ (is : List Inst). length is) insts) in
    let x = c.index-insts-i.result in
    let is = c.index-insts-i.is ∙ ap (λ (is : List Inst). get_or is i x) insts in
    let left = c.loop-i.left.now in
    let cut = flat_cut actual_names names xs i x left is below c.loop-i.invariant.left in
    let own : c.len.result ≡ length (actual_names x) = c.len.ensures ∙ sym (length-map x.binds actual_of) in
    let front = subst (AreNumbersOf names (actual_names x)) (sym (c.split_at.ensures.front ∙ ap (λ (k : ℕ). take k left) own)) cut.front in
    record {
      appended = more_appended (flat_map (nets_on c.args.side c.args.ports.now)) (nets_on c.args.side c.args.ports.now) (flat_grows (nets_on c.args.side c.args.ports.now)) names c.args.list.now.items c.loop-i.list.items c.append_inst.new.list.items xs i x is below c.loop-i.invariant.appended (c.in_ok-append_inst.ensures names front);
      left = subst (AreNumbersOf names (flat_map actual_names (drop (i + 1) xs))) (sym (c.split_at.ensures.back ∙ ap (λ (k : ℕ). drop k left) own)) cut.back;
    }

pub returns : goal.returns
returns c =
    let m = c.args.table.now in
    let i = c.loop-i.i in
    let insts : c.as_slice-insts.result.now ≡ m.insts = c.as_slice-insts.ensures ∙ ap (λ (m : Model). m.insts) c.model.ensures in
    let all : length m.insts ≤ i = omega (arith, ap (λ (is : List Inst). length is) insts) in
    subst (λ (is : List Inst). Appends (names_in m) c.args.list.now.items c.loop-i.list.items (flat_map (nets_on c.args.side c.args.ports.now) is)) (take_all i m.insts all) c.loop-i.invariant.appended
