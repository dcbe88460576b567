use Rattle.std.proofs.Common.{List, [], ◌∷◌, ℕ, true, set, sym, subst}
use Rattle.lid_check_digraph.specs.Searches.{Marks}
use Rattle.lid_check_digraph.proofs.Backward.{marks_new}
use Rattle.lid_check_digraph.proofs.reachability.mark_one.Goals as goal

pub returns : goal.returns
returns c =
    subst (λ (xs : List ℕ). Marks (c.args.number ∷ []) c.args.seen.now c.args.todo.now.items (set c.args.seen.now c.args.number true) xs) (sym c.in_ok-push.ensures.items)
    (marks_new c.args.seen.now c.args.todo.now.items c.args.number c.requires c.if-seen-number.false)
