use Rattle.std.proofs.Common.{◌≡◌, ◌++◌, map, take}
use Rattle.lid_base_lines.specs.Texts.{lines_text}
use Rattle.lid_blifout.specs.Canonical.{cube_line}
use Rattle.lid_base.specs.Lists.{Keeps}
use Rattle.lid_blifout.proofs.writer.append_cubes.Given as goal

abbrev pub invariant-loop-cube : goal.invariant-loop-cube
invariant-loop-cube l = record {
  done : l.into.items ≡ l.fn.into.items ++ lines_text (map (cube_line l.cover.inputs l.cover.on) (take l.cube-index l.cover.cubes));
  kept : Keeps l.fn.into.items l.into.items;
}
