use Rattle.std.proofs.Common.{◌≡◌, ◌<◌, ℕ, List, length, map, Result, IfOk, slice_index_or, sym, subst}
use Rattle.std.specs.List.{AllByRecursion}
use Rattle.lid_base.proofs.Results.{if_ok}
use Rattle.lid_design.specs.declared.Design.{Design}
use Rattle.lid_design.specs.declared.Flat.{Flat}
use Rattle.lid_design.specs.Flat.{IsFlat}
use Rattle.lid_design.specs.Loops.{pearls}
use Rattle.lid_check_digraph.specs.Graphs.{HasNoLoop}
use Rattle.lid_check_elab.specs.declared.driver.ColumnDriver.{ColumnDriver}
use Rattle.lid_check_elab.specs.Elaborations.{driver_reads}
use Rattle.lid_check_parts.specs.declared.part.PearlPart.{PearlPart}
use Rattle.lid_check_parts.specs.Parts.{HasCover, IsNetworkPart, IsFlattened}
use Rattle.lid_check.specs.Flats.{IsFlatOf}
use Rattle.lid_check.specs.declared.judging.Facts.{Facts}
use Rattle.lid_check.specs.Facts.{AreFacts}
use Rattle.lid_check.proofs.Flats.{part_of_pearl, covers, loops, flat_made}
use Rattle.lid_check.proofs.checked.Checked.flat.Goals as goal

pub flatten-requires-clause-part : goal.flatten-requires-clause-part
flatten-requires-clause-part c =
    let facts = c.self.inside.facts in
    let p = c.args.pearl in
    let none : PearlPart = record { start = 0; nets = 0; inputs = 0; outputs = 0 } in
    let below = subst (λ (e : Design). p < length (pearls e)) (sym c.self.view_is) c.requires in
    subst (λ (ps : List PearlPart). IsNetworkPart c.as_slice-drivers.result.now (slice_index_or ps p none)) (sym c.as_slice.ensures)
    (subst (λ (ds : List ColumnDriver). IsNetworkPart ds (slice_index_or facts.parts p none)) (sym c.as_slice-drivers.ensures) (part_of_pearl c.self.inside.design facts c.self.invariant p none below).1)

pub flatten-requires-clause-covers : goal.flatten-requires-clause-covers
flatten-requires-clause-covers c =
    let d = c.self.inside.design in
    let n = c.self.inside.facts.network in
    subst (λ (ds : List ColumnDriver). AllByRecursion (HasCover d) ds) (sym c.as_slice-drivers.ensures) (covers d n.columns.drivers n.columns.starts c.self.invariant.network.elaborated c.self.invariant.formed)

pub flatten-requires-clause-loops : goal.flatten-requires-clause-loops
flatten-requires-clause-loops c =
    let d = c.self.inside.design in
    let n = c.self.inside.facts.network in
    subst (λ (ds : List ColumnDriver). HasNoLoop (map driver_reads ds)) (sym c.as_slice-drivers.ensures) (loops d n.columns.drivers n.columns.starts c.self.invariant.network.elaborated n.order c.self.invariant.network.ordered)

-- what is made is the flat part of the pearl
told : {E : Type 0} (d e : Design) → d ≡ e → (facts : Facts) → AreFacts d facts → (ds : List ColumnDriver) → ds ≡ facts.network.columns.drivers → (ps : List PearlPart) → ps ≡ facts.parts → (p : ℕ) → p < length (pearls e) → (made : Result Flat E)
    → IfOk made (IsFlattened d ds (slice_index_or ps p (record { start = 0; nets = 0; inputs = 0; outputs = 0 }))) → IfOk made (λ f. IsFlat f × IsFlatOf e p f)
told d e same facts are ds drivers ps parts p below made flattened =
    let none : PearlPart = record { start = 0; nets = 0; inputs = 0; outputs = 0 } in
    subst (λ (g : Design). (p < length (pearls g)) → IfOk made (λ f. IsFlat f × IsFlatOf g p f)) same
    (λ less. if_ok made (flat_made d facts are p none less) (
    subst (λ (xs : List PearlPart). IfOk made (IsFlattened d facts.network.columns.drivers (slice_index_or xs p none))) parts (subst (λ (xs : List ColumnDriver). IfOk made (IsFlattened d xs (slice_index_or ps p none))) drivers flattened)
    ))
    below

pub returns-clause-rules : goal.returns-clause-rules
returns-clause-rules c =
    if_ok c.flatten.result (λ f both. both.0) (told _ _ c.self.view_is c.self.inside.facts c.self.invariant _ c.as_slice-drivers.ensures _ c.as_slice.ensures c.args.pearl c.requires c.flatten.result c.flatten.ensures)

pub returns-clause-part : goal.returns-clause-part
returns-clause-part c =
    if_ok c.flatten.result (λ f both. both.1) (told _ _ c.self.view_is c.self.inside.facts c.self.invariant _ c.as_slice-drivers.ensures _ c.as_slice.ensures c.args.pearl c.requires c.flatten.result c.flatten.ensures)
