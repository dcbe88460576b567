use Rattle.std.proofs.Common.{◌<◌, ◌∷◌, [], map, length, arith}
use Rattle.std.proofs.lemmas.List.{map-append}
use Rattle.lid_design.specs.Models.{actual_of}
use Rattle.lid_check_table.proofs.Growing.{enters_more}
use Rattle.lid_check_table.proofs.entering.enter_actuals.Goals as goal

pub loop-bind-preserved : goal.loop-bind-preserved
loop-bind-preserved c =
    let below : c.loop-bind.bind-index < length c.args.binds.now = omega arith in
    enters_more (map actual_of) (λ b. actual_of b ∷ []) (λ xs x. map-append actual_of xs (x ∷ [])) c.args.names.now c.loop-bind.names c.enter.new.names c.args.numbers.now.items c.loop-bind.numbers.items c.enter.new.numbers.items c.args.binds.now c.loop-bind.bind-index c.bind-item.result c.bind-item.is below c.loop-bind.invariant c.in_ok-enter.ensures
