-- Stalls that are read from the first line on ascend.
use Rattle.std.proofs.Common.{◌≡◌, List, [], Ok, sym, subst}
use Rattle.lid_stall_text.specs.declared.stalls.Stall.{Stall}
use Rattle.lid_stall_text.specs.Stalls.{lines_reading}
use Rattle.lid_stall_text.specs.Holds.{Ascend}
use Rattle.lid_stall_text.proofs.Ascents.{none_ascend, lines_ascend}
use Rattle.lid_stall_text.proofs.stalls.stalls_of.Goals as goal

pub returns-in-Ok-clause-ascend : goal.returns-in-Ok-clause-ascend
returns-in-Ok-clause-ascend c =
    let read = subst (λ (stalls : List Stall). lines_reading stalls c.args.lines.now ≡ Ok c.push_lines.new.stalls.items) c.new-stalls.ensures.items c.in-Ok.ensures.ok in
    subst Ascend (sym c.from_vec.ensures) (lines_ascend [] c.args.lines.now c.push_lines.new.stalls.items none_ascend read)
