-- What is found of a design on the way to its system. These definitions serve the functions that build it.
use Rattle.std.specs.Prelude.{◌≡◌, ◌↔◌, ◌<◌, ℕ, List, [], length, map, Option, Some}
use Rattle.std.specs.List.{AllByRecursion}
use Rattle.lid_base.specs.Lists.{Among}
use Rattle.lid_design.specs.declared.Design.{Design}
use Rattle.lid_design.specs.Columns.{column, root_inputs, root_outputs}
use Rattle.lid_design.specs.Elaboration.{columns}
use Rattle.lid_check_elab.specs.Elaborations.{column_at}
use Rattle.lid_system.specs.declared.Channel.{Channel}
use Rattle.lid_system.specs.declared.Node.{Node}
use Rattle.lid_net_channels.specs.declared.reads.Read.{Read}
use Rattle.lid_net_channels.specs.Reads.{AreAscending}
use Rattle.lid_net.specs.declared.origin.Origin.{Origin}
use Rattle.lid_net.specs.Steps.{origin_at}
use Rattle.lid_net.specs.declared.ports.ShellPorts.{ShellPorts}
use Rattle.lid_net.specs.Graphs.{LeadsTo, IsReadBy}
use Rattle.lid_net.specs.Nodes.{AreNodes}

-- each column is led back to its origin, and to nothing where it has none
abbrev pub AreColumnsLed : Design → List (Option Origin) → Type 0
AreColumnsLed d origins = (k : ℕ) (o : Origin) → k < length (columns d) → (origin_at origins k ≡ Some o) ↔ LeadsTo d (column_at d k) o

-- columns with what they are led back to, and the reads of a design in order
pub record AreLeads (d : Design) (origins : List (Option Origin)) (reads : List Read) : Type 0 where
  pub led : AreColumnsLed d origins
  pub ascending : AreAscending reads
  pub exact : (r : Read) → Among r reads ↔ IsReadBy d r

-- the numbers of the columns of the root's outputs
pub record AreOutputs (d : Design) (numbers : List ℕ) : Type 0 where
  pub below : AllByRecursion (λ k. k < length (columns d)) numbers
  pub columns_are : map (column_at d) numbers ≡ map (column []) (root_outputs d)

-- the nodes of a design, whose pearls have these ports
pub record AreNodesOf (d : Design) (ports : List ShellPorts) (origins : List (Option Origin)) (channels : List Channel) (nodes : List Node) : Type 0 where
  pub numbers : List ℕ
  pub outputs : AreOutputs d numbers
  pub are : AreNodes d channels origins ports (root_inputs d) (root_outputs d) numbers nodes
