use Rattle.std.proofs.Common.{ℕ, List, length, map, sym, subst, ◌∙◌}
use Rattle.std.specs.List.{AllByRecursion}
use Rattle.lid_design.specs.declared.Design.{Design}
use Rattle.lid_check_digraph.specs.Graphs.{IsOrder}
use Rattle.lid_check_elab.specs.declared.driver.ColumnDriver.{ColumnDriver}
use Rattle.lid_check_elab.specs.Elaborations.{driver_reads}
use Rattle.lid_check_parts.specs.Parts.{HasCover}
use Rattle.lid_check_loops.proofs.Numbered.{reads_shown}
use Rattle.lid_net.specs.Steps.{AreOrigins}
use Rattle.lid_net.proofs.Facts.{ports_once, inputs_ports, all_cover, ports_below, ports_narrow, numbers_apart, count_is}
use Rattle.lid_net.proofs.Tracing.{columns_led}
use Rattle.lid_net.proofs.Marking.{shell_marks}
use Rattle.lid_net.proofs.assembly.lead_columns.Goals as goal

pub mark_ports-requires-clause-below : goal.mark_ports-requires-clause-below
mark_ports-requires-clause-below c = ports_below c.args.checked.now c.args.ports.now _ c.requires.ports c.requires.size

pub mark_ports-requires-clause-narrow : goal.mark_ports-requires-clause-narrow
mark_ports-requires-clause-narrow c = ports_narrow c.args.checked.now c.args.ports.now c.design-design.ensures.formed c.design-design.ensures.accepted c.requires.ports

pub lead_back-requires-clause-ordered : goal.lead_back-requires-clause-ordered
lead_back-requires-clause-ordered c =
    let d = c.args.checked.now in
    let n = c.network-network.result.now in
    subst (λ (ds : List ColumnDriver). IsOrder (map driver_reads ds) c.as_slice-2.result.now) (sym c.as_slice.ensures)
    (subst (λ (order : List ℕ). IsOrder (map driver_reads n.columns.drivers) order) (sym c.as_slice-2.ensures)
    (subst (λ (g : List (List ℕ)). IsOrder g n.order) (sym (reads_shown d n.columns.drivers)) c.network-network.ensures.ordered))

pub lead_back-requires-clause-covers : goal.lead_back-requires-clause-covers
lead_back-requires-clause-covers c =
    let d = c.args.checked.now in
    subst (λ (e : Design). AllByRecursion (HasCover e) c.as_slice.result.now) (sym c.design-design.ensures.same)
    (subst (λ (ds : List ColumnDriver). AllByRecursion (HasCover d) ds) (sym c.as_slice.ensures)
    (all_cover d c.network-network.result.now c.design-design.ensures.formed c.network-network.ensures))

pub returns-clause-led : goal.returns-clause-led
returns-clause-led c =
    let d = c.args.checked.now in
    let n = c.network-network.result.now in
    let formed = c.design-design.ensures.formed in
    let accepted = c.design-design.ensures.accepted in
    let marks = shell_marks d c.args.ports.now c.args.origins.now c.mark_ports.new.origins (length n.columns.drivers) c.requires.ports (count_is d n c.network-network.ensures) (numbers_apart d n c.network-network.ensures)
    (c.requires.size ∙ sym (count_is d n c.network-network.ensures)) c.requires.none c.mark_ports.ensures.marks in
    columns_led d n c.network-network.ensures (all_cover d n formed c.network-network.ensures) c.mark_ports.new.origins marks (ports_once d formed accepted) (inputs_ports d formed accepted) c.lead_back.new.origins
    (subst (λ (e : Design). AreOrigins e n.columns.drivers c.mark_ports.new.origins c.lead_back.new.origins) c.design-design.ensures.same
    (subst (λ (ds : List ColumnDriver). AreOrigins c.design-design.result.now ds c.mark_ports.new.origins c.lead_back.new.origins) c.as_slice.ensures c.lead_back.ensures.origins))
