use Rattle.std.proofs.Common.{◌≡◌, ◌++◌, drop, map}
use Rattle.lid_check_elab.specs.Elaborations.{shown_driver}
use Rattle.lid_check_elab.specs.Templates.{seen_around}
use Rattle.lid_check_elab.specs.Scopes.{picked_driver}
use Rattle.lid_check_elab.proofs.placing.push_drivers.Given as goal

abbrev pub invariant-loop-pick : goal.invariant-loop-pick
invariant-loop-pick l =
    map (shown_driver l.judged) l.drivers.items ++ map (picked_driver l.judged l.base.start l.base.offsets.now (seen_around l.base.around) l.locals) (drop l.pick-index l.picks)
    ≡ map (shown_driver l.judged) l.fn.drivers.items ++ map (picked_driver l.judged l.base.start l.base.offsets.now (seen_around l.base.around) l.locals) l.picks
