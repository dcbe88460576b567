use Rattle.std.proofs.Common.{◌≡◌, ◌++◌, drop, map}
use Rattle.lid_check_names.specs.Names.{texts}
use Rattle.lid_check_drivers.specs.Locals.{actual_for}
use Rattle.lid_check_elab.specs.Templates.{net_place}
use Rattle.lid_check_elab.proofs.bound.list_places.Given as goal

abbrev pub invariant-loop-formal : goal.invariant-loop-formal
invariant-loop-formal l =
    l.places.items ++ map (λ formal. net_place l.judged l.model (actual_for l.numbered.inst.now formal)) (texts (drop l.formal-index l.formals))
    ≡ map (λ formal. net_place l.judged l.model (actual_for l.numbered.inst.now formal)) (texts l.formals)
