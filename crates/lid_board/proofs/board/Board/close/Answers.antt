use Rattle.std.proofs.Common.{rules, List, length, refl, sym, ◌∙◌, ap, subst}
use Rattle.std.specs.Prelude.{slice_get}
use Rattle.std.proofs.lemmas.Option.{slice_get_within}
use Rattle.lid_station.specs.Plain.{plain_ends, PlainStands}
use Rattle.lid_station.specs.declared.pair.Pair.{Pair}
use Rattle.lid_board.specs.Owners.{start_ends}
use Rattle.lid_board.proofs.Closed.{close_can, close_stands, close_ends, restored_as, can_as}
use Rattle.lid_base.proofs.Lists.{refilled}
use Rattle.lid_board.proofs.board.Board.close.Goals as goal

pub restore_all-requires-clause-can : goal.restore_all-requires-clause-can
restore_all-requires-clause-can c i p at =
    let final = c.close_with-closed.ensures.values.2 in
    let here = ap (λ (ps : List Pair). slice_get ps i) (sym c.as_mut_slice.ensures.value) ∙ at in
    let there = slice_get_within c.args.into.now.pairs.items i p here in
    can_as _ _ _ _ _ _ i p c.close_with-closed.ensures.counts.0 c.as_slice.ensures.value c.as_slice-2.ensures.value
    (close_can (start_ends c.args.self) c.args.self.caps.items c.args.self.firsts.items c.args.self.table.shared.table_id c.args.self.laid final.0 c.args.hand.seat.id c.args.hand.seat.me.0 final.1.0 final.1.1 c.args.hand.ends.items c.args.hand.tied c.requires.all
    (length c.args.into.now.pairs.items) c.requires.many i p there (c.requires.caps i p here))

pub returns-clause-ends : goal.returns-clause-ends
returns-clause-ends c end inside =
    let final = c.close_with-closed.ensures.values.2 in
    ap (λ (ps : List Pair). plain_ends ps end) (refilled c.args.into.now.pairs.len c.restore_all.new.pairs c.args.into.now.pairs.items (search rules))
    ∙ close_ends (start_ends c.args.self) c.args.self.caps.items c.args.self.firsts.items c.args.self.table.shared.table_id c.args.self.laid final.0 c.args.hand.seat.id c.args.hand.seat.me.0 final.1.0 final.1.1 c.args.hand.ends.items c.args.hand.tied c.requires.all
    (length c.args.into.now.pairs.items) c.requires.many _ c.args.into.now.pairs.items c.restore_all.new.pairs final.2 refl c.requires.caps
    (restored_as _ _ _ _ _ _ _ _ c.as_slice.ensures.value c.as_slice-2.ensures.value c.as_mut_slice.ensures.value c.restore_all.ensures) end inside

pub returns-clause-stands : goal.returns-clause-stands
returns-clause-stands c streams stands =
    let final = c.close_with-closed.ensures.values.2 in
    subst (λ (ps : List Pair). PlainStands ps streams) (sym (refilled c.args.into.now.pairs.len c.restore_all.new.pairs c.args.into.now.pairs.items (search rules)))
    (close_stands (start_ends c.args.self) c.args.self.caps.items c.args.self.firsts.items c.args.self.table.shared.table_id c.args.self.laid final.0 c.args.hand.seat.id c.args.hand.seat.me.0 final.1.0 final.1.1 c.args.hand.ends.items c.args.hand.tied c.requires.all
    (length c.args.into.now.pairs.items) c.requires.many _ c.args.into.now.pairs.items c.restore_all.new.pairs final.2 refl c.requires.caps
    (restored_as _ _ _ _ _ _ _ _ c.as_slice.ensures.value c.as_slice-2.ensures.value c.as_mut_slice.ensures.value c.restore_all.ensures) streams stands)
