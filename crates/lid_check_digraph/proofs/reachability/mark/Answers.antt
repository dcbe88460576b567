use Rattle.std.proofs.Common.{List, ℕ, take, get_or, sym, subst, arith}
use Rattle.std.proofs.lemmas.List.{take_more}
use Rattle.lid_check_digraph.specs.Searches.{Marks}
use Rattle.lid_check_digraph.proofs.Backward.{marks_then}
use Rattle.lid_check_digraph.proofs.reachability.mark.Goals as goal

pub loop-number-preserved : goal.loop-number-preserved
loop-number-preserved c =
    let i = c.loop-number.number-index in
    let numbers = c.args.numbers.now in
    subst (λ (xs : List ℕ). Marks xs c.args.seen.now c.args.todo.now.items c.mark_one.new.seen c.mark_one.new.todo.items) (sym (take_more numbers i 0 (omega arith)))
    (marks_then (take i numbers) (get_or numbers i 0) c.args.seen.now c.loop-number.seen c.mark_one.new.seen c.args.todo.now.items c.loop-number.todo.items c.mark_one.new.todo.items c.loop-number.invariant c.in_ok-mark_one.ensures)
