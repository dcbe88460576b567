-- A design has one system graph.
use Rattle.std.proofs.Common.{◌≡◌, List}
use Rattle.std.specs.List.{flat_map}
use Rattle.lid_design.specs.declared.Design.{Design}
use Rattle.lid_system.specs.declared.Channel.{Channel}
use Rattle.lid_net_channels.specs.Pieces.{reads_in}
use Rattle.lid_net_channels.proofs.Once.{same_reads, same_channels}
use Rattle.lid_net.specs.Graphs.{IsGraphOf}

pub graph_one : (d : Design) (a b : List Channel) → IsGraphOf d a → IsGraphOf d b → a ≡ b
graph_one d a b ga gb =
    same_channels a b ga.cut gb.cut
    (same_reads (flat_map reads_in a) (flat_map reads_in b) ga.ascending gb.ascending (λ r. (λ h. (gb.reads r).1 ((ga.reads r).0 h), λ h. (ga.reads r).1 ((gb.reads r).0 h))))
