use Rattle.std.proofs.Common.{sym, ◌∙◌}
use Rattle.lid_net_channels.proofs.Cutting.{item_is, width_apart, width_room, width_full}
use Rattle.lid_net_channels.proofs.pieces.width_after.Goals as goal

pub returns-then-not-goes_on : goal.returns-then-not-goes_on
returns-then-not-goes_on c =
    let is = item_is c.args.reads.now c.args.i c.requires.there in
    let joined = c.goes_on.ensures _ is in
    width_apart c.args.reads.now c.args.i _ c.requires.there is (sym joined ∙ c.if-not-goes_on.true)

pub returns-then-width-lt-MOST_PORTS : goal.returns-then-width-lt-MOST_PORTS
returns-then-width-lt-MOST_PORTS c =
    let is = item_is c.args.reads.now c.args.i c.requires.there in
    let joined = c.goes_on.ensures _ is in
    width_room c.args.reads.now c.args.i c.args.width _ c.requires.there is (sym joined ∙ c.if-not-goes_on.false) c.requires.width c.if-width-lt-MOST_PORTS.true

pub returns-else-width-lt-MOST_PORTS : goal.returns-else-width-lt-MOST_PORTS
returns-else-width-lt-MOST_PORTS c =
    let is = item_is c.args.reads.now c.args.i c.requires.there in
    let joined = c.goes_on.ensures _ is in
    width_full c.args.reads.now c.args.i c.args.width _ c.requires.there is (sym joined ∙ c.if-not-goes_on.false) c.requires.width c.if-width-lt-MOST_PORTS.false
