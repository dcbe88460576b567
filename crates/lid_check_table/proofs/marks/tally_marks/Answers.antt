use Rattle.std.proofs.Common.{List, Bool, false, length, replicate, arith, sym, ap, ◌∙◌, []}
use Rattle.std.proofs.lemmas.List.{drop_all}
use Rattle.lid_design.specs.Models.{occurrences}
use Rattle.lid_check_table.specs.Tables.{names_in}
use Rattle.lid_check_table.specs.Marks.{marks_of, marked_at, again_at_all}
use Rattle.lid_check_table.proofs.Marking.{none_marked, none_again, marks_all, again_all, firsts_once}
use Rattle.lid_check_table.proofs.marks.tally_marks.Goals as goal

pub returns-clause-all : goal.returns-clause-all
returns-clause-all c list numbers =
    let m = c.args.table.now in
    let ks = c.args.numbers.now in
    c.from_vec.ensures
    ∙ ap (marked_at c.loop-number.all.items) (sym (drop_all c.loop-number.number-index ks (omega arith)))
    ∙ c.loop-number.invariant.0
    ∙ ap (λ (bs : List Bool). marked_at bs ks) (none_marked (names_in m))
    ∙ marks_all (names_in m) (firsts_once (occurrences m)) [] list ks numbers

pub returns-clause-twice : goal.returns-clause-twice
returns-clause-twice c list numbers =
    let m = c.args.table.now in
    let ks = c.args.numbers.now in
    let names = names_in m in
    c.from_vec-2.ensures
    ∙ ap (again_at_all c.loop-number.all.items c.loop-number.twice.items) (sym (drop_all c.loop-number.number-index ks (omega arith)))
    ∙ c.loop-number.invariant.1
    ∙ ap (λ (bs : List Bool). again_at_all bs (replicate (length names) false) ks) (none_marked names)
    ∙ ap (λ (bs : List Bool). again_at_all (marks_of names []) bs ks) (none_again names)
    ∙ again_all names (firsts_once (occurrences m)) [] list ks numbers
