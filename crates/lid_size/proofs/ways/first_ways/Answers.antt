use Rattle.std.proofs.Common.{◌∷◌, ◌++◌, [], List, sym, ◌∙◌, ap}
use Rattle.lid_base.proofs.Each.{each_one_more}
use Rattle.lid_size.specs.declared.ways.Way.{Way}
use Rattle.lid_size.specs.Testing.{empty_way}
use Rattle.lid_size.proofs.ways.first_ways.Goals as goal

pub loop-v-preserved : goal.loop-v-preserved
loop-v-preserved c =
    c.in_ok-push.ensures.items
    ∙ (ap (λ (ways : List Way). ways ++ empty_way c.loop-v.v ∷ []) c.loop-v.invariant ∙ sym (each_one_more empty_way c.loop-v.v))
