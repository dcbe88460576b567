use Rattle.std.proofs.Common.{ℕ, Bool, ◌||◌, length, nat_eq, sym, ◌∙◌, ap}
use Rattle.lid_check_rules.proofs.Buffers.{wire_is}
use Rattle.lid_check_rules.proofs.root.is_wire.Goals as goal

pub returns-then-passes_on : goal.returns-then-passes_on
returns-then-passes_on c =
    let names = c.in-Names in
    c.if-passes_on.true ∙ sym (wire_is c.args.cell.now names.inputs names.out names.cover names.is c.requires c.passes_on.result c.passes_on.ensures ∙ ap (λ (b : Bool). b || nat_eq (length names.inputs) 0) c.if-passes_on.true)

pub returns-else-passes_on : goal.returns-else-passes_on
returns-else-passes_on c =
    let names = c.in-Names in
    ap (λ (n : ℕ). nat_eq n 0) c.len.ensures ∙ sym (wire_is c.args.cell.now names.inputs names.out names.cover names.is c.requires c.passes_on.result c.passes_on.ensures ∙ ap (λ (b : Bool). b || nat_eq (length names.inputs) 0) c.if-passes_on.false)
