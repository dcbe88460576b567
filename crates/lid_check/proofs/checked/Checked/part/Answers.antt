use Rattle.std.proofs.Common.{◌<◌, List, length, slice_index_or, sym, subst}
use Rattle.lid_design.specs.declared.Design.{Design}
use Rattle.lid_design.specs.Loops.{pearls}
use Rattle.lid_check_parts.specs.declared.part.PearlPart.{PearlPart}
use Rattle.lid_check_parts.specs.PearlParts.{IsPearlPart}
use Rattle.lid_check.proofs.Flats.{part_of_pearl}
use Rattle.lid_check.proofs.checked.Checked.part.Goals as goal

pub returns : goal.returns
returns c =
    let p = c.args.pearl in
    let none : PearlPart = record { start = 0; nets = 0; inputs = 0; outputs = 0 } in
    let below = subst (λ (e : Design). p < length (pearls e)) (sym c.self.view_is) c.requires in
    subst (λ (e : Design). IsPearlPart e p (slice_index_or c.as_slice.result.now p none)) c.self.view_is
    (subst (λ (ps : List PearlPart). IsPearlPart c.self.inside.design p (slice_index_or ps p none)) (sym c.as_slice.ensures) (part_of_pearl c.self.inside.design c.self.inside.facts c.self.invariant p none below).0)
