use Rattle.lid_base.proofs.Results.{on_ok}
use Rattle.lid_texts_packed.proofs.Writing.{printed_next}
use Rattle.lid_texts_packed.proofs.writer.RowsPrinter.push.Goals as goal

pub returns-clause-printed : goal.returns-clause-printed
returns-clause-printed c =
    let printer = c.args.self.now in
    on_ok c.append_line.result
    (λ more rows before. printed_next printer.columns.now rows c.args.row.now printer.text.items c.append_line.new.into.items before more)
    c.append_line.ensures.ok
