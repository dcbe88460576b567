use Rattle.std.proofs.Common.{◌≡◌, ◌<◌, ◌↔◌, Bool, true, false, length, sym, ◌∙◌, subst, arith}
use Rattle.std.proofs.lemmas.List.{get_or_default}
use Rattle.lid_check_digraph.specs.Graphs.{IsOnLoop, flag}
use Rattle.lid_check_digraph.proofs.Walking.{loop_told}
use Rattle.lid_check_digraph.proofs.reachability.is_on_loop.Goals as goal

pub returns : goal.returns
returns c =
    let within : c.args.k < length c.in_ok-seen.seen.items = omega (arith, c.requires.within, c.in_ok-seen.ensures.count) in
    let same : c.index.result.now ≡ flag c.in_ok-seen.seen.items c.args.k = c.index.ensures ∙ get_or_default c.in_ok-seen.seen.items c.args.k c.index.result.now false within in
    subst (λ (on : Bool). (on ≡ true) ↔ IsOnLoop c.args.graph.now.reads.now c.args.k) (sym same) (loop_told c.args.graph.now.reads.now c.args.cut.now c.requires.cut c.args.k c.in_ok-seen.seen.items (c.in_ok-seen.ensures.exact c.args.k))
