use Rattle.std.proofs.Common.{◌∷◌, [], ap, subst}
use Rattle.lid_check_table.specs.Tables.{Enters}
use Rattle.lid_base.proofs.Results.{on_ok}
use Rattle.lid_check_table.proofs.Growing.{cell_enters}
use Rattle.lid_check_table.proofs.entering.enter_cell.Goals as goal

pub returns : goal.returns
returns c =
    on_ok c.enter.result (λ last.
    let last = subst (Enters c.enter_control.new.names c.enter.new.names c.args.into.now.outs.items c.enter.new.numbers.items) (ap (λ n. n ∷ []) c.out_of.ensures) last in
    cell_enters c.args.names.now c.enter_reads.new.names c.enter_control.new.names c.enter.new.names c.args.into.now.reads.items c.enter_reads.new.numbers.items c.args.into.now.outs.items c.enter.new.numbers.items c.args.cell.now c.in_ok-enter_reads.ensures c.in_ok-enter_control.ensures last) c.enter.ensures
