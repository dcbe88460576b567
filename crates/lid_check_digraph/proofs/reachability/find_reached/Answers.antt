use Rattle.std.proofs.Common.{◌≡◌, ◌↔◌, ◌∙◌, Bool, List, true, sym, subst, arith}
use Rattle.lid_check_digraph.specs.Graphs.{flag, IsReached}
use Rattle.lid_base.proofs.Lists.{refilled}
use Rattle.lid_check_digraph.proofs.reachability.find_reached.Goals as goal

pub returns-clause-exact : goal.returns-clause-exact
returns-clause-exact c = λ k h.
    (let whole : c.from_vec.result ≡ c.reach_all.new.reached = c.from_vec.ensures ∙ refilled c.in_ok-reached.reached.len c.reach_all.new.reached c.in_ok-reached.reached.items (omega arith) in
    subst (λ (l : List Bool). (flag l k ≡ true) ↔ IsReached c.args.graph.now.reads.now c.args.cut.now c.args.starts.now k) (sym whole)
    (c.reach_all.ensures k (c.requires.order.all k h)))
