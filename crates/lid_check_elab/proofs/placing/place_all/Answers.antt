use Rattle.std.proofs.Common.{List, map, sym, subst}
use Rattle.lid_check_elab.specs.declared.driver.ColumnDriver.{ColumnDriver}
use Rattle.lid_check_elab.specs.Elaborations.{shown_driver}
use Rattle.lid_check_elab.specs.Scopes.{ArePlaced}
use Rattle.lid_check_elab.proofs.placing.place_all.Goals as goal

pub returns-clause-written : goal.returns-clause-written
returns-clause-written c = subst (λ (ds : List ColumnDriver). ArePlaced c.args.judged.now (map (shown_driver c.args.judged.now) ds)) (sym c.from_vec.ensures) c.in_ok-push_all.ensures.written
