use Rattle.std.proofs.Common.{◌≡◌, length, sym, ◌∙◌, ap, arith}
use Rattle.lid_check_rules.proofs.Buffers.{passed_on}
use Rattle.lid_emit_shells.proofs.nets.pass_by.Goals as goal

pub bounds-as_slice-0 : goal.bounds-as_slice-0
bounds-as_slice-0 c =
    let one = (passed_on c.args.c.now.cover (sym c.passes_on.ensures ∙ c.if-passes_on.true)).0 in
    let wide : c.args.c.now.cover.inputs ≡ length c.args.c.now.ins = c.requires.rules.1 in
    let long : length c.as_slice.result.now ≡ length c.args.c.now.ins = ap length c.as_slice.ensures in
    omega arith
