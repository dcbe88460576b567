use Rattle.std.proofs.Common.{◌≡◌, take, drop}
use Rattle.lid_stations_text.specs.Places.{AreFirstLines}
use Rattle.lid_stations_text.specs.Readings.{lines_fault}
use Rattle.std.specs.Prelude.{[]}
use Rattle.lid_stations.specs.Placements.{links_of}
use Rattle.lid_stations_text.proofs.judging.place_lines.Given as goal

abbrev pub invariant-loop-i : goal.invariant-loop-i
invariant-loop-i l = record {
  placed : AreFirstLines (links_of l.system) (take l.i l.lines) l.places;
  left : lines_fault (links_of l.system) l.form (take l.i l.lines) (drop l.i l.lines) ≡ lines_fault (links_of l.system) l.form [] l.lines;
}
