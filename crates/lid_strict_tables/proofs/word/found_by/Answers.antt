use Rattle.std.proofs.Common.{◌/◌, bit_and, bit_xor}
use Rattle.lid_strict_tables.proofs.Masks.{set_found, set_missed}
use Rattle.lid_strict_tables.proofs.word.found_by.Goals as goal

pub returns-then-high-cube-eq0 : goal.returns-then-high-cube-eq0
returns-then-high-cube-eq0 c i h =
    set_found c.args.mask (bit_and (bit_xor c.args.high (c.args.cube.value / 64)) (c.args.cube.care / 64)) i c.args.cube c.requires c.if-high-cube-eq0.true h

pub returns-else-high-cube-eq0 : goal.returns-else-high-cube-eq0
returns-else-high-cube-eq0 c i h = set_missed (bit_and (bit_xor c.args.high (c.args.cube.value / 64)) (c.args.cube.care / 64)) i c.args.cube c.if-high-cube-eq0.false
