-- What the data outputs read.
use Rattle.std.proofs.Common.{◌≡◌, ℕ, ◌-◌, [], length, sym, subst}
use Rattle.std.specs.List.{AllByRecursion}
use Rattle.std.specs.Option.{option_map_or}
use Rattle.lid_system.specs.declared.System.{System}
use Rattle.lid_system.specs.declared.Node.TheVariants.{Sink}
use Rattle.lid_system.specs.Systems.{IsWellFormed}
use Rattle.lid_system.specs.Tables.{input_reads}
use Rattle.lid_system.proofs.Points.{last_node}
use Rattle.lid_emit_system.specs.Wrapping.{sink_reads}
use Rattle.lid_emit_shells.specs.Reading.{ReadsBelow}
use Rattle.lid_emit_shells.proofs.Lasting.{reads_below}

-- what the sink reads are bits of channels of the system
pub sink_below : (s : System) → IsWellFormed s → (n : ℕ) → length s.channels ≡ n → AllByRecursion (ReadsBelow n) (sink_reads s)
sink_below s well n many =
    let found = last_node s well in
    let i = length s.nodes - 1 in
    subst (λ o. AllByRecursion (ReadsBelow n) (option_map_or input_reads o [])) (sym found.2)
    (reads_below s i n found.1 many (well.each_node i (Sink found.0 found.1) found.2).reads)
