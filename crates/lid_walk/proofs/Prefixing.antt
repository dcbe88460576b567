-- Each station of a walk holds the tokens of its stream between those taken and those put.
use Rattle.std.proofs.Common.{◌≡◌, ℕ, arith}
use Rattle.std.specs.Prelude.{Some, slice_get}
use Rattle.lid_station.specs.declared.pair.Pair.{Pair}
use Rattle.lid_walk_machine.specs.Setups.{plan}
use Rattle.lid_shell_laws.specs.Setups.{Setup}
use Rattle.lid_walk_machine.specs.Machine.{State}
use Rattle.lid_walk.specs.declared.walk.Walk.{Walk}
use Rattle.lid_walk.specs.Walks.{Walks}
use Rattle.lid_walk.specs.Laws.{HoldsPrefix}
use Rattle.lid_walk.proofs.Counting.{within, put_is, taken_is, size_is}
use Rattle.lid_base.proofs.Each.{each_length}

pub holds_prefix : (m : Setup) (st : State) (w : Walk) (station : ℕ) (p : Pair) → Walks m st w → slice_get w.board.pairs.items station ≡ Some p → HoldsPrefix m st station p
holds_prefix m st w station p walks there =
    let pairs = w.board.pairs.items in
    let keeps = walks.sound.stations station (within m st walks.rules pairs walks.board station p there) in
    let long = each_length ((plan m).token station) 0 (plan m).rows in
    let put = put_is m st walks.rules pairs walks.board station p there in
    let taken = taken_is m st walks.rules pairs walks.board station p there in
    record {
      put = put;
      taken = taken;
      size = size_is m st walks.rules pairs walks.board station p there;
      ordered = omega (arith, put, taken, keeps.ordered);
      within = omega (arith, put, keeps.within, long);
      few = omega (arith, put, taken, keeps.few);
      holds = (walks.board.streams station p there).held;
    }
