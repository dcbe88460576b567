use Rattle.std.proofs.Common.{◌≡◌, ◌↔◌, Bool, List, true, sym, subst, arith}
use Rattle.lid_check_digraph.specs.Graphs.{flag}
use Rattle.lid_check_digraph.specs.Searches.{IsFeeding}
use Rattle.lid_check_digraph.proofs.Backward.{search_exact}
use Rattle.lid_base.proofs.Lists.{refilled}
use Rattle.lid_check_digraph.proofs.reachability.search_back.Goals as goal

pub returns-clause-exact : goal.returns-clause-exact
returns-clause-exact c = λ a.
    subst (λ (l : List Bool). (flag l a ≡ true) ↔ IsFeeding c.args.graph.now.reads.now c.args.cut.now a c.args.end) (sym (refilled c.in_ok-seen.seen.len c.search_all.new.seen c.in_ok-seen.seen.items (omega arith)))
    (search_exact c.args.graph.now.reads.now c.args.cut.now c.args.end c.search_all.new.seen c.in_ok-search_all.ensures a)
