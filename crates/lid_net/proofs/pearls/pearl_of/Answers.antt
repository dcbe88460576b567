use Rattle.lid_net.proofs.Numbering.{pearl_is}
use Rattle.lid_net.proofs.pearls.pearl_of.Goals as goal

pub returns : goal.returns
returns c =
    let d = c.args.checked.now in
    let f = c.in_ok-flat.flat in
    let flat = c.in_ok-flat.ensures.part in
    pearl_is d c.args.pearl f flat c.lay_out.result c.lay_out.ensures.reordered c.lay_out.ensures.rules c.lay_out.ensures.state (λ g reordered. c.pearls_stand_for_columns.ensures d flat.col f g reordered flat.each)
