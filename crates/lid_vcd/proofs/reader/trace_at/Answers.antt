use Rattle.std.proofs.Common.{arith, rules}
use Rattle.lid_vcd_form.specs.Words.{placed_words}
use Rattle.lid_vcd.proofs.Sound.{writable_trace}
use Rattle.lid_vcd.proofs.reader.trace_at.Goals as goal

pub returns-in-Ok-clause-writable : goal.returns-in-Ok-clause-writable
returns-in-Ok-clause-writable c =
    writable_trace (placed_words c.args.bytes.now) c.args.place _ c.requires.form (search rules) (search rules) (search rules) (let few = c.if-count-gt-MOST_CELLS.false in let count = c.count_cells-count.ensures in omega arith)
