use Rattle.std.proofs.Common.{Bool, List, [], ℕ, if◌then◌else◌, sym, ◌∙◌, ap, subst}
use Rattle.std.proofs.lemmas.Result.{on_ok_weaker}
use Rattle.lid_check_digraph.specs.Graphs.{reads_at}
use Rattle.lid_check_digraph.specs.Searches.{Marks}
use Rattle.lid_check_digraph.proofs.Backward.{marks_none, followed_free}
use Rattle.lid_check_digraph.proofs.reachability.look_at.Goals as goal

pub returns-then-cut-c : goal.returns-then-cut-c
returns-then-cut-c c =
    subst (λ (xs : List ℕ). Marks xs c.args.seen.now c.args.todo.now.items c.args.seen.now c.args.todo.now.items) (sym (ap (λ (b : Bool). if b then [] else reads_at c.args.graph.now.reads.now c.args.c) c.if-cut-c.true)) (marks_none c.args.seen.now c.args.todo.now.items)

pub returns : goal.returns
returns c =
    on_ok_weaker c.mark.result (λ marks. subst (λ (xs : List ℕ). Marks xs c.args.seen.now c.args.todo.now.items c.mark.new.seen c.mark.new.todo.items) (c.reads_of.ensures.reads ∙ sym (followed_free c.args.graph.now.reads.now c.args.cut.now c.args.c c.if-cut-c.false)) marks) c.mark.ensures
