use Rattle.std.proofs.Common.{Option, List, ℕ, subst}
use Rattle.lid_check_digraph.specs.Graphs.{IsOrder}
use Rattle.lid_check_loops.specs.declared.outputs.Lead.{Lead}
use Rattle.lid_check_loops.specs.Flaws.{FindsDependence}
use Rattle.lid_check_loops.proofs.flaws.find_in_order.Goals as goal

pub returns-in-Some : goal.returns-in-Some
returns-in-Some c = (c.requires.loops, subst (λ (o : Option Lead). FindsDependence c.args.columns.now.design o) c.in-Some.is c.in_ok-lead.ensures)

pub returns-in-None : goal.returns-in-None
returns-in-None c = (
  c.requires.loops,
  subst (λ (o : Option Lead). FindsDependence c.args.columns.now.design o) c.in-None.is c.in_ok-lead.ensures,
  subst (λ (g : List (List ℕ)). IsOrder g c.args.order) c.requires.reads c.requires.order,
)
