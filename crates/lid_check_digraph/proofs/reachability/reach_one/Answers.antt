use Rattle.std.proofs.Common.{◌<◌, ◌∙◌, ap, not, length, inl, arith}
use Rattle.lid_check_digraph.proofs.Reached.{reached_start, reached_no, reached_any, set_true, set_false}
use Rattle.lid_check_digraph.proofs.reachability.reach_one.Goals as goal
use Rattle.lid_check_digraph.proofs.reachability.reach_one.Goals.{then-start, else-start+then-not-shut, else-start+else-not-shut}

pub returns-clause-here : goal.returns-clause-here
returns-clause-here c =
    let g = c.args.graph.now.reads.now in
    let cut = c.args.cut.now in
    let starts = c.args.starts.now in
    let k = c.args.k in
    let reached = c.args.reached.now in
    let within : k < length reached = omega (arith, c.requires.reached, c.requires.within) in
    elim c.if-start.branch [
      | then-start w ↦ set_true g cut starts k reached within c.if-start.now (w.now-is ∙ w.if-start.true) (reached_start g cut starts k w.if-start.true)
      | else-start+then-not-shut w ↦ reached_any g cut starts k reached c.requires.earlier within w.reads_of.result.now w.reads_of.ensures.reads w.if-start.false w.if-not-shut.true w.is_any.result w.is_any.ensures c.if-start.now w.now-is
      | else-start+else-not-shut w ↦ set_false g cut starts k reached within c.if-start.now (w.now-is ∙ ap not w.if-not-shut.false) (reached_no g cut starts k reached c.requires.earlier w.if-start.false (inl w.if-not-shut.false))
    ]
