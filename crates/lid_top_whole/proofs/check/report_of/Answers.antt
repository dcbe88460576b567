use Rattle.std.proofs.Common.{◌≤◌, List, length, sym, subst}
use Rattle.std.specs.List.{AllByRecursion}
use Rattle.lid_system.specs.declared.Channel.{Channel}
use Rattle.lid_top_script.proofs.Channels.{narrow_channels}
use Rattle.lid_top_whole.proofs.check.report_of.Goals as goal

pub lines_of-requires : goal.lines_of-requires
lines_of-requires c =
    subst (λ (channels : List Channel). AllByRecursion (λ d. length d.ports ≤ 31) channels) (sym c.as_slice-2.ensures)
    (narrow_channels c.graphed.inside.checked c.graphed.inside.channels c.graphed.invariant)
