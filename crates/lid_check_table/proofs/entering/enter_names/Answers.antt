use Rattle.std.proofs.Common.{ℕ, List, ◌<◌, ◌∷◌, [], length, arith, refl}
use Rattle.lid_check_table.proofs.Growing.{enters_more}
use Rattle.lid_check_table.proofs.entering.enter_names.Goals as goal

pub loop-name-preserved : goal.loop-name-preserved
loop-name-preserved c =
    let below : c.loop-name.name-index < length c.args.list.now = omega arith in
    enters_more (λ (ns : List (List ℕ)). ns) (λ n. n ∷ []) (λ xs x. refl) c.args.names.now c.loop-name.names c.enter.new.names c.args.numbers.now.items c.loop-name.numbers.items c.enter.new.numbers.items c.args.list.now c.loop-name.name-index c.name-item.result c.name-item.is below c.loop-name.invariant c.in_ok-enter.ensures
