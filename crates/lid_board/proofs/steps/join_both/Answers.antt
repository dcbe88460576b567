use Rattle.std.proofs.Common.{sym, ap, subst}
use Rattle.atomic_table.specs.Table.{Me}
use Rattle.lid_board.specs.Views.{IsEarly}
use Rattle.lid_board.specs.declared.view.HandView.{HandView}
use Rattle.lid_board.proofs.Numbers.{early_merged}
use Rattle.lid_board.proofs.Parting.{joins}
use Rattle.lid_board.proofs.steps.join_both.Goals as goal

pub join_seat-requires : goal.join_seat-requires
join_seat-requires c = (
  c.requires.here.0,
  c.requires.other,
  c.requires.no_slot,
  c.requires.here.1,
  joins c.args.cells.now.key.me.0.ends c.args.seat.now.id c.args.seat.now.me.0 c.args.other.id c.args.other.me.0,
)

pub returns-clause-early : goal.returns-clause-early
returns-clause-early c early early_other =
    subst IsEarly (sym (ap (λ (m : Me (Unit {0}) HandView). m.0.ends) c.join_seat.ensures.2)) (early_merged c.args.seat.now.me.0.ends c.args.other.me.0.ends early early_other)
