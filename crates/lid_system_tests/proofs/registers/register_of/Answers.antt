use Rattle.std.proofs.Common.{length, refl, sym, ◌∙◌, ap, subst}
use Rattle.lid_design.specs.Flat.{IsFlat}
use Rattle.lid_system_tests.specs.Registers.{cover_with}
use Rattle.lid_system_tests.proofs.Parts.{register_is_flat, register_of_parts, length_nets}
use Rattle.lid_system_tests.proofs.registers.register_of.Goals as goal

pub returns-clause-rules : goal.returns-clause-rules
returns-clause-rules c =
    let cover = cover_with (length c.args.reads.now) c.args.on c.args.cubes.now in
    let same = register_of_parts c.args.inputs c.args.init c.args.reads.now cover c.args.outs.now c.in_ok-ins.ins c.in_ok-outs.outs c.in_ok-latches.latches c.in_ok-covers.covers c.in_ok-ins.ensures c.in_ok-outs.ensures c.in_ok-latches.ensures c.in_ok-covers.ensures in
    subst IsFlat (sym same) (register_is_flat c.args.inputs c.args.init c.args.reads.now cover c.args.outs.now c.requires.reads c.requires.cover refl c.requires.outs)

pub returns-clause-ins : goal.returns-clause-ins
returns-clause-ins c = ap length c.in_ok-ins.ensures ∙ length_nets 0 c.args.inputs
