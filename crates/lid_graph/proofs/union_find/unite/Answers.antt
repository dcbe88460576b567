use Rattle.std.proofs.Common.{arith}
use Rattle.lid_graph.proofs.Trees.{label_merged_left, label_merged_right}
use Rattle.lid_graph.proofs.union_find.unite.Goals as goal

pub returns-then-left-right-clause-label : goal.returns-then-left-right-clause-label
returns-then-left-right-clause-label c = λ label labelled.
    let left = c.find-left.ensures.label label labelled in
    let right = c.find-right.ensures.label label left.0 in
    label_merged_left c.find-right.new.parents label c.args.u c.args.v c.find-left.result c.find-right.result c.find-right.ensures.forest right.0 (omega (arith, c.requires.left)) (omega (arith, c.requires.right)) left.1 right.1 c.if-left-right.true

pub returns-else-left-right-clause-label : goal.returns-else-left-right-clause-label
returns-else-left-right-clause-label c = λ label labelled.
    let left = c.find-left.ensures.label label labelled in
    let right = c.find-right.ensures.label label left.0 in
    label_merged_right c.find-right.new.parents label c.args.u c.args.v c.find-left.result c.find-right.result c.find-right.ensures.forest right.0 (omega (arith, c.requires.left)) (omega (arith, c.requires.right)) left.1 right.1 c.if-left-right.false
