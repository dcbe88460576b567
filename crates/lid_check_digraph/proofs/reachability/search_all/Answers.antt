use Rattle.std.proofs.Common.{◌<◌, List, ℕ, length, sym, subst, arith}
use Rattle.lid_base.specs.Lists.{Among}
use Rattle.lid_base.proofs.Lists.{among_last}
use Rattle.lid_check_digraph.specs.Searches.{IsSearch}
use Rattle.lid_check_digraph.proofs.Lists.{flag_within}
use Rattle.lid_check_digraph.proofs.Backward.{search_start, search_on}
use Rattle.lid_check_digraph.proofs.reachability.search_all.Goals as goal

pub look_at-requires-in-Some-clause-within : goal.look_at-requires-in-Some-clause-within
look_at-requires-in-Some-clause-within c =
    let within : c.in-Some.c < length c.loop-c.seen = flag_within c.loop-c.seen c.in-Some.c (c.loop-c.invariant.marked c.in-Some.c (subst (λ (xs : List ℕ). Among c.in-Some.c xs) (sym c.in-Some.ensures.items) (among_last c.in-Some.c c.pop.new.self.items))) in
    omega (arith, c.loop-c.invariant.count)

pub loop-c-preserved : goal.loop-c-preserved
loop-c-preserved c =
    search_on c.args.graph.now.reads.now c.args.cut.now c.args.end c.loop-c.seen c.look_at-in-Some.new.seen c.pop.new.self.items c.look_at-in-Some.new.todo.items c.in-Some.c (subst (λ (xs : List ℕ). IsSearch c.args.graph.now.reads.now c.args.cut.now c.args.end c.loop-c.seen xs) c.in-Some.ensures.items c.loop-c.invariant) c.in_ok-look_at-2.ensures

pub loop-c-init : goal.loop-c-init
loop-c-init c = search_start c.args.graph.now.reads.now c.args.cut.now c.args.end c.args.seen.now c.look_at.new.seen c.args.todo.now.items c.look_at.new.todo.items c.requires.seen c.requires.todo c.in_ok-look_at.ensures
