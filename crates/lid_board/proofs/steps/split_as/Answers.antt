use Rattle.std.proofs.Common.{sym, ap, subst}
use Rattle.atomic_table.specs.Table.{Me}
use Rattle.lid_board.specs.Views.{IsEarly}
use Rattle.lid_board.specs.declared.view.HandView.{HandView}
use Rattle.lid_board.proofs.Numbers.{early_left, early_right}
use Rattle.lid_board.proofs.Parting.{splits}
use Rattle.lid_board.proofs.steps.split_as.Goals as goal

pub split_seat-requires : goal.split_seat-requires
split_seat-requires g c = (
  c.requires.here.0,
  c.requires.here.1,
  splits c.args.cells.now.key.me.0.ends c.args.seat.now.id c.args.seat.now.me.0 g.J.Choosing.chosen c.requires.owned,
)

pub returns-clause-early : goal.returns-clause-early
returns-clause-early g c early = (
  subst IsEarly (sym (ap (λ (m : Me (Unit {0}) HandView). m.0.ends) c.split_seat.ensures.2)) (early_left c.args.seat.now.me.0.ends g.J.Choosing.chosen early),
  subst IsEarly (sym (ap (λ (m : Me (Unit {0}) HandView). m.0.ends) c.split_seat.ensures.4)) (early_right c.args.seat.now.me.0.ends g.J.Choosing.chosen early),
)
