use Rattle.std.proofs.Common.{rules, ℕ, List, None, get_or, sym, ◌∙◌, ap, subst}
use Rattle.std.specs.Prelude.{Option}
use Rattle.lid_board.specs.Owners.{start_ends}
use Rattle.lid_board.specs.Parting.{or_else}
use Rattle.lid_board.specs.Relation.{AreWithin}
use Rattle.lid_board.specs.Ties.{IsTied}
use Rattle.lid_board.specs.Views.{EndTable, at}
use Rattle.lid_board.proofs.Numbers.{written_long, tied_merged, within_merged}
use Rattle.lid_board.proofs.Parting.{at_merged}
use Rattle.lid_base.proofs.Lists.{refilled}
use Rattle.lid_board.proofs.board.Board.join.Goals as goal

pub invariant_of-hand : goal.invariant_of-hand
invariant_of-hand c = record {
  tied =
      subst (IsTied _) (sym c.join_both.ensures.both)
      (tied_merged c.args.hand.now.ends.items c.args.other.ends.items _ c.args.hand.now.seat.me.0.ends c.args.other.seat.me.0.ends c.args.hand.now.tied c.args.other.tied
      (λ k.
      ap (λ (xs : List (Option ℕ)). get_or xs k None) (refilled c.args.hand.now.ends.len c.merge_numbers.new.into c.args.hand.now.ends.items (search rules))
      ∙ c.merge_numbers.ensures k
      ∙ ap (λ (xs : List (Option ℕ)). or_else (get_or xs k None) (get_or c.as_slice.result.now k None)) c.as_mut_slice.ensures.value
      ∙ ap (λ (xs : List (Option ℕ)). or_else (get_or c.args.hand.now.ends.items k None) (get_or xs k None)) c.as_slice.ensures.value));
  early = c.join_both.ensures.early c.args.hand.now.early c.args.other.early;
  no_slot = c.join_both.ensures.seat.1 ∙ c.args.hand.now.no_slot;
}

pub returns-clause-joined : goal.returns-clause-joined
returns-clause-joined c end = ap (λ (e : EndTable). at e end) c.join_both.ensures.both ∙ at_merged c.args.hand.now.seat.me.0.ends c.args.other.seat.me.0.ends end

pub returns-clause-of : goal.returns-clause-of
returns-clause-of c = record {
  table = c.join_both.ensures.seat.0 ∙ c.requires.of.table;
  room = written_long c.merge_numbers.new.into c.args.hand.now.ends.items c.args.hand.now.ends.len (search rules) (search rules) ∙ c.requires.of.room;
  within =
      subst (AreWithin (start_ends c.args.self.now)) (sym c.join_both.ensures.both)
      (within_merged (start_ends c.args.self.now) c.args.hand.now.seat.me.0.ends c.args.other.seat.me.0.ends c.requires.of.within c.requires.other.within);
}
