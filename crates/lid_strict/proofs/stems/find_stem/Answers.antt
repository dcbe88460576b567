use Rattle.std.proofs.Common.{◌≡◌, length, sym, ◌∙◌, ap, subst, arith}
use Rattle.lid_check_elab.specs.Covers.{cover_in}
use Rattle.lid_check_parts.specs.Parts.{HasCover}
use Rattle.lid_check_rules.proofs.Buffers.{passed_on}
use Rattle.lid_strict.proofs.stems.find_stem.Goals as goal

pub bounds-as_slice-0 : goal.bounds-as_slice-0
bounds-as_slice-0 c =
    let d = c.args.design.now in
    let cover = c.in-Cover in
    let has = subst (HasCover d) cover.is c.requires in
    let one : (cover_in d cover.model cover.cell).inputs ≡ 1 = (passed_on (cover_in d cover.model cover.cell) (sym c.is_buffer.ensures ∙ c.if-is_buffer.true)).0 in
    let wide : (cover_in d cover.model cover.cell).inputs ≡ length cover.inputs = has.1 in
    let long : length c.as_slice.result.now ≡ length cover.inputs = ap length c.as_slice.ensures in
    omega arith
