-- What is kept of an accepted design.
use Rattle.std.specs.Prelude.{◌≡◌, List, length, map}
use Rattle.lid_design.specs.declared.Design.{Design}
use Rattle.lid_design.specs.Columns.{root_inputs}
use Rattle.lid_design.specs.Loops.{pearls}
use Rattle.lid_design.specs.Elaboration.{count_latches, count_defaulted}
use Rattle.lid_design.specs.WellFormed.{IsWellFormed}
use Rattle.lid_check_digraph.specs.Graphs.{IsOrder}
use Rattle.lid_check_elab.specs.declared.driver.ColumnDriver.{ColumnDriver}
use Rattle.lid_check_elab.specs.Elaborations.{driver_reads}
use Rattle.lid_check_parts.specs.PearlParts.{ArePearlParts}
use Rattle.lid_check.specs.declared.judging.Counts.{Counts}
use Rattle.lid_check.specs.declared.judging.Ports.{Ports}
use Rattle.lid_check.specs.declared.judging.Findings.{Findings}
use Rattle.lid_check.specs.declared.judging.Facts.{Facts}
use Rattle.lid_check.specs.Acceptance.{IsAccepted}
use Rattle.lid_check.specs.Networks.{AreNumbersOf, IsNetwork}

pub record AreCounts (d : Design) (counts : Counts) : Type 0 where
  pub pearls : counts.pearls ≡ length (pearls d)
  pub latches : counts.latches ≡ count_latches d
  pub defaulted : counts.defaulted ≡ count_defaulted d

-- the inputs of the root, the numbers of its outputs, and the columns of each pearl, where the network has
-- these drivers
pub record AreDesignPorts (d : Design) (drivers : List ColumnDriver) (ports : Ports) : Type 0 where
  pub inputs : ports.inputs ≡ root_inputs d
  pub outputs : AreNumbersOf d (length drivers) ports.outputs
  pub parts : ArePearlParts d drivers ports.parts

-- a design with these drivers of columns is accepted, with these counts, these ports, and an order of the
-- columns in which each stands after all that it reads in the same row
pub record AreFindings (d : Design) (drivers : List ColumnDriver) (findings : Findings) : Type 0 where
  pub accepted : IsAccepted d
  pub counts : AreCounts d findings.counts
  pub ports : AreDesignPorts d drivers findings.ports
  pub order : IsOrder (map driver_reads drivers) findings.order

-- the design is accepted, and these are its inputs, counts and columns
pub record AreFacts (d : Design) (facts : Facts) : Type 0 where
  pub formed : IsWellFormed d
  pub accepted : IsAccepted d
  pub inputs : facts.inputs ≡ root_inputs d
  pub counts : AreCounts d facts.counts
  pub parts : ArePearlParts d facts.network.columns.drivers facts.parts
  pub network : IsNetwork d facts.network
