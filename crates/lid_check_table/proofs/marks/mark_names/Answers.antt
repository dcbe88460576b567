use Rattle.std.proofs.Common.{List, Bool, arith, sym, ap, ◌∙◌, []}
use Rattle.std.proofs.lemmas.List.{drop_all}
use Rattle.lid_design.specs.Models.{occurrences}
use Rattle.lid_check_table.specs.Tables.{names_in}
use Rattle.lid_check_table.specs.Marks.{marked_at}
use Rattle.lid_check_table.proofs.Marking.{none_marked, marks_all, firsts_once}
use Rattle.lid_check_table.proofs.marks.mark_names.Goals as goal

pub returns : goal.returns
returns c list numbers =
    let m = c.args.table.now in
    let ks = c.args.numbers.now in
    c.from_vec.ensures
    ∙ ap (marked_at c.loop-number.marks.items) (sym (drop_all c.loop-number.number-index ks (omega arith)))
    ∙ c.loop-number.invariant
    ∙ ap (λ (bs : List Bool). marked_at bs ks) (none_marked (names_in m))
    ∙ marks_all (names_in m) (firsts_once (occurrences m)) [] list ks numbers
