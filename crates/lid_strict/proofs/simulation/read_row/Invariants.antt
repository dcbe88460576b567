use Rattle.std.proofs.Common.{◌≡◌, [], length, map, take, get_or}
use Rattle.lid_strict_engine.specs.Rows.{bit_at}
use Rattle.lid_strict.proofs.simulation.read_row.Given as goal

abbrev pub invariant-loop-i : goal.invariant-loop-i
invariant-loop-i g l = (length l.into ≡ length l.places) × (take l.i l.into ≡ map (bit_at (get_or (g.R.RowSource.rows l.rows) l.row [])) (take l.i l.places))
