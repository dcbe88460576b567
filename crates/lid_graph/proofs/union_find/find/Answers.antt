use Rattle.std.proofs.Common.{◌<◌, ◌≤◌, length, get_or, ◌∙◌, arith}
use Rattle.lid_graph.proofs.Trees.{forest_write, label_halved}
use Rattle.lid_graph.proofs.union_find.find.Goals as goal

pub loop-parents-preserved : goal.loop-parents-preserved
loop-parents-preserved c =
    let forest = c.loop-parents.invariant.forest in
    let here : c.loop-parents.at < length c.loop-parents.parents = omega (arith, c.requires.within) in
    let low : get_or c.loop-parents.parents c.loop-parents.at 0 ≤ c.loop-parents.at = forest c.loop-parents.at here in
    let lower : get_or c.loop-parents.parents (get_or c.loop-parents.parents c.loop-parents.at 0) 0 ≤ get_or c.loop-parents.parents c.loop-parents.at 0 = forest (get_or c.loop-parents.parents c.loop-parents.at 0) (omega arith) in
    record {
      forest = forest_write c.loop-parents.parents c.loop-parents.at (get_or c.loop-parents.parents (get_or c.loop-parents.parents c.loop-parents.at 0) 0) forest here (omega arith);
      within = omega arith;
      label = λ label labelled.
          let before = c.loop-parents.invariant.label label labelled in (
            label_halved c.loop-parents.parents label c.loop-parents.at forest before.0 here,
            before.0.parent (get_or c.loop-parents.parents c.loop-parents.at 0) (omega arith) ∙ (before.0.parent c.loop-parents.at here ∙ before.1),
          );
    }
