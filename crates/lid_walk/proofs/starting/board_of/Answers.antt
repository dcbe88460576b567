-- The board starts with the start tokens of a setup.
use Rattle.std.proofs.Common.{sym, ◌∙◌, ap}
use Rattle.lid_stations.specs.Placed.{Placing}
use Rattle.lid_base.proofs.Results.{if_both_ok}
use Rattle.lid_walk.proofs.Started.{started}
use Rattle.lid_walk.proofs.starting.board_of.Goals as goal

pub returns : goal.returns
returns c =
    if_both_ok c.start.result
    (λ board starts stands. λ m of.
    started m c.as_slice.result.now c.as_slice-2.result.now board.pairs.items of.rules (c.as_slice.ensures.value ∙ c.in_ok-firsts.ensures.are m of)
    (c.as_slice-2.ensures ∙ ap (λ (v : Placing). v.placement.caps) c.placed.view_is ∙ ap (λ p. p.caps) (sym of.placement)) starts stands)
    c.start.ensures.started c.start.ensures.stands
