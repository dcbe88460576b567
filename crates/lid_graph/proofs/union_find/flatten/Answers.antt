use Rattle.std.proofs.Common.{◌<◌, ◌≤◌, length, get_or, arith}
use Rattle.lid_graph.proofs.Trees.{forest_write, flat_more, label_halved}
use Rattle.lid_graph.proofs.union_find.flatten.Goals as goal

pub loop-v-preserved : goal.loop-v-preserved
loop-v-preserved c =
    let forest = c.loop-v.invariant.forest in
    let here : c.loop-v.v < length c.loop-v.parents = omega arith in
    let low : get_or c.loop-v.parents c.loop-v.v 0 ≤ c.loop-v.v = forest c.loop-v.v here in
    let lower : get_or c.loop-v.parents (get_or c.loop-v.parents c.loop-v.v 0) 0 ≤ get_or c.loop-v.parents c.loop-v.v 0 = forest (get_or c.loop-v.parents c.loop-v.v 0) (omega arith) in
    record {
      forest = forest_write c.loop-v.parents c.loop-v.v (get_or c.loop-v.parents (get_or c.loop-v.parents c.loop-v.v 0) 0) forest here (omega arith);
      label = λ label labelled.
          let before = c.loop-v.invariant.label label labelled in (
            label_halved c.loop-v.parents label c.loop-v.v forest before.0 here,
            flat_more c.loop-v.parents label c.loop-v.v forest before.0 here before.1,
          );
    }
