use Rattle.std.proofs.Common.{◌≡◌, ◌<◌, ◌↔◌, Bool, List, true, length, sym, subst, arith}
use Rattle.lid_check_digraph.specs.Graphs.{flag, IsReaching}
use Rattle.lid_check_digraph.proofs.Backward.{reaching_exact}
use Rattle.lid_check_digraph.proofs.reachability.find_reaching.Goals as goal

pub returns-clause-exact : goal.returns-clause-exact
returns-clause-exact c = λ a.
    (let within : c.args.end < length c.in_ok-seen.seen.items = omega (arith, c.requires.within, c.in_ok-seen.ensures.count) in
    subst (λ (l : List Bool). (flag l a ≡ true) ↔ IsReaching c.args.graph.now.reads.now c.args.cut.now a c.args.end) (sym c.from_vec.ensures)
    (reaching_exact c.args.graph.now.reads.now c.args.cut.now c.args.end c.in_ok-seen.seen.items within c.in_ok-seen.ensures.exact a))
